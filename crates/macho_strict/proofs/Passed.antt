-- One span more in a walk over spans that come by their starts.
use Rattle.std.proofs.Common.{◌≡◌, ℕ, ◌+◌, ◌≤◌, ◌<◌, ◌⊎◌, Bool, true, false, max, List, [], ◌∷◌, ◌++◌, length, map, All, Contains, Option, Some, None, refl, sym, ap, ◌∙◌, subst, arith, inl, inr, length-append}
use Rattle.std.specs.Prelude.{MatchOption, IsTrue, ◌↔◌}
use Rattle.std.specs.List.Sorted.{IsNonDecreasingBy}
use Rattle.std.proofs.Math.ListN.{get_or-append}
use Rattle.std.proofs.Math.Seq.{get_or-append_seam}
use Rattle.std.proofs.lemmas.Bool.{true≢false, cases_lt, cases_eq, cases_Bool}
use Rattle.std.proofs.lemmas.List.{get_or_default, get_or_past, get_or-map, length-map}
use Rattle.macho_fields.specs.Bytes.{bytes_of}
use Rattle.macho_fields.specs.FirstPlace.{IsLeastPlace}
use Rattle.macho_spans.specs.Overlap.{span_at, IsAscending, SharesEarlier}
use Rattle.macho_fields.proofs.Decided.{both_or_not, le_or_not}
use Rattle.macho_spans.specs.Span.{Covers, end_of, Holds}
use Rattle.macho_spans.specs.declared.span.Span.{Span}
use Rattle.macho_strict.specs.Gaps.{IsWanted, IsStray, ComeByStart, Walked, ArePassed, IsLeastNext}
use Rattle.macho_strict.specs.declared.gaps.Gaps.{Gaps}
use Rattle.macho_strict.specs.declared.gaps.Wanted.{Wanted}
use Rattle.macho_strict.specs.declared.gaps.Wanted.TheVariants as wanted

abbrev pub no_span : Span
no_span = record { start = 0; len = 0 }

-- a span has a place, or has it not
pub covers_or_not : (start len place : ℕ) → Covers start len place ⊎ ¬ Covers start len place
covers_or_not start len place = both_or_not (le_or_not start place) (elim (cases_lt place (start + len)) [ inl less ↦ inl less | inr past ↦ inr (λ less. absurd (omega arith)) ])

-- a least place of one of two predicates, where the second is decided if the first has none
pub least_of_two : (First Next All : ℕ → Type 0) (old new : Option ℕ) → IsLeastPlace First old
    → MatchOption old (IsLeastPlace Next new) (λ place. new ≡ Some place)
    → ((p : ℕ) → First p → All p) → ((p : ℕ) → Next p → All p) → ((p : ℕ) → All p → First p ⊎ Next p)
    → ((p q : ℕ) → First p → Next q → p ≤ q) → IsLeastPlace All new
least_of_two First Next All None None first next one other which before =
    λ p all. elim (which p all) [ inl here ↦ first p here | inr there ↦ next p there ]
least_of_two First Next All None (Some place) first next one other which before =
    (other place next.0, λ p all. elim (which p all) [ inl here ↦ absurd (first p here) | inr there ↦ next.1 p there ])
least_of_two First Next All (Some place) new first next one other which before =
    subst (IsLeastPlace All) (sym next) (one place first.0, λ p all. elim (which p all) [ inl here ↦ first.1 p here | inr there ↦ before place p first.0 there ])

pub least_same : (P Q : ℕ → Type 0) → ((p : ℕ) → P p → Q p) → ((p : ℕ) → Q p → P p) → (found : Option ℕ) → IsLeastPlace P found → IsLeastPlace Q found
least_same P Q to from None none = λ p q. none p (from p q)
least_same P Q to from (Some place) (here, least) = (to place here, λ p q. least p (from p q))

module _ (wanted : Wanted) (bytes : List ℕ) (spans : List Span) (start end : ℕ) (stray : Option ℕ) (walked : Walked wanted bytes spans start end stray) where
  pub begins_before_end : start ≤ end
  begins_before_end = elim walked.last [
    | inl none ↦ omega (arith, none)
    | inr (j, filled, same) ↦ let low = walked.ends j filled in omega (arith, low, same)
  ]

  past_all : (p : ℕ) → end ≤ p → (i : ℕ) → ¬ Holds (span_at spans i) p
  past_all p past i held = let low = walked.ends i (omega (arith, held.0, held.1)) in absurd (omega (arith, low, held.1))

  -- a stray place was passed, or comes after all spans
  before_or_past : (p : ℕ) → IsStray wanted bytes spans p → ((p < start) × IsStray wanted bytes spans p) ⊎ (end ≤ p)
  before_or_past p is = elim (cases_lt p start) [
    | inl before ↦ inl (before, is)
    | inr from ↦
        elim (cases_lt p end) [
          | inl within ↦ let (i, held) = walked.covered p from within in absurd (is.1 i held)
          | inr past ↦ inr past
        ]
  ]

module _ (spans : List Span) (x : Span) where
  abbrev more : List Span
  more = spans ++ x ∷ []

  at_old : (k : ℕ) → k < length spans → span_at more k ≡ span_at spans k
  at_old k less = get_or-append spans (x ∷ []) _ k less

  at_last : span_at more (length spans) ≡ x
  at_last = get_or-append_seam spans x [] _

  -- what holds of no place, of the old spans and of the last one holds of all
  each_more : (P : Span → Type 0) → P no_span → ((i : ℕ) → P (span_at spans i)) → P x → (i : ℕ) → P (span_at more i)
  each_more P none old last i = elim (cases_lt i (length spans)) [
    | inl less ↦ subst P (sym (at_old i less)) (old i)
    | inr most ↦
        elim (cases_eq i (length spans)) [
          | inl same ↦ subst P (sym (ap (span_at more) same ∙ at_last)) last
          | inr other ↦ subst P (sym (get_or_past more i no_span (omega (arith, length-append spans (x ∷ []))))) none
        ]
  ]

  each_old : (P : Span → Type 0) → P no_span → ((i : ℕ) → P (span_at more i)) → (i : ℕ) → P (span_at spans i)
  each_old P none all i = elim (cases_lt i (length spans)) [
    | inl less ↦ subst P (at_old i less) (all i)
    | inr past ↦ subst P (sym (get_or_past spans i no_span past)) none
  ]

  the_last : (P : Span → Type 0) → ((i : ℕ) → P (span_at more i)) → P x
  the_last P all = subst P at_last (all (length spans))

  -- a span that is not empty is among the old ones
  filled_old : (i : ℕ) → 0 < (span_at spans i).len → (i < length spans) × (span_at more i ≡ span_at spans i)
  filled_old i filled = elim (cases_lt i (length spans)) [
    | inl less ↦ (less, at_old i less)
    | inr past ↦ absurd (omega (arith, ap (λ s. s.len) (get_or_past spans i no_span past), filled))
  ]

  by_start_old : ComeByStart more → ComeByStart spans
  by_start_old all i j less filled_i filled_j =
      let (under_i, same_i) = filled_old i filled_i in
      let (under_j, same_j) = filled_old j filled_j in
      let here = all i j less (omega (arith, ap (λ s. s.len) same_i, filled_i)) (omega (arith, ap (λ s. s.len) same_j, filled_j)) in
      omega (arith, here, ap (λ s. s.start) same_i, ap (λ s. s.start) same_j)

  pub still_unsorted : ¬ ComeByStart spans → ¬ ComeByStart more
  still_unsorted not all = not (by_start_old all)

  pub now_unsorted : (wanted : Wanted) (bytes : List ℕ) (start end : ℕ) (stray : Option ℕ) → Walked wanted bytes spans start end stray → 0 < x.len → x.start < start → ¬ ComeByStart more
  now_unsorted wanted bytes start end stray walked filled before all = elim walked.last [
    | inl none ↦ absurd (omega (arith, none))
    | inr (j, filled_j, same) ↦
        let (under, at) = filled_old j filled_j in
        let here = all j (length spans) under (omega (arith, ap (λ s. s.len) at, filled_j)) (omega (arith, ap (λ s. s.len) at_last, filled)) in
        absurd (omega (arith, here, ap (λ s. s.start) at, ap (λ s. s.start) at_last, same))
  ]

  module _ (wanted : Wanted) (bytes : List ℕ) where
    stray_old : (p : ℕ) → IsStray wanted bytes more p → IsStray wanted bytes spans p
    stray_old p (is, free) = (is, each_old (λ s. ¬ Holds s p) (λ held. absurd (omega (arith, held.1))) free)

    stray_more : (p : ℕ) → IsStray wanted bytes spans p → ¬ Holds x p → IsStray wanted bytes more p
    stray_more p (is, free) past = (is, each_more (λ s. ¬ Holds s p) (λ held. absurd (omega (arith, held.1))) free past)

    -- an empty span
    pub walked_empty : (start end : ℕ) (stray : Option ℕ) → x.len ≡ 0 → Walked wanted bytes spans start end stray → Walked wanted bytes more start end stray
    walked_empty start end stray empty walked = record {
      last = elim walked.last [
        | inl none ↦ inl none
        | inr (j, filled, same) ↦ let at = (filled_old j filled).1 in inr (j, omega (arith, ap (λ s. s.len) at, filled), ap (λ s. s.start) at ∙ same)
      ];
      starts = each_more (λ s. 0 < s.len → s.start ≤ start) (λ none. absurd (omega (arith, none))) walked.starts (λ none. absurd (omega (arith, none, empty)));
      ends = each_more (λ s. 0 < s.len → end_of s ≤ end) (λ none. absurd (omega (arith, none))) walked.ends (λ none. absurd (omega (arith, none, empty)));
      reached = elim walked.reached [
        | inl none ↦ inl none
        | inr (j, filled, same) ↦ let at = (filled_old j filled).1 in inr (j, omega (arith, ap (λ s. s.len) at, filled), ap end_of at ∙ same)
      ];
      covered = λ p low high. let (i, held) = walked.covered p low high in (i, subst (λ s. Holds s p) (sym (filled_old i (omega (arith, held.0, held.1))).1) held);
      least = least_same (λ p. (p < start) × IsStray wanted bytes spans p) (λ p. (p < start) × IsStray wanted bytes more p)
          (λ p (low, is). (low, stray_more p is (λ held. absurd (omega (arith, held.0, held.1, empty)))))
          (λ p (low, is). (low, stray_old p is)) stray walked.least;
    }

    -- one that begins with the last one or after it
    pub walked_more : (start end : ℕ) (old new : Option ℕ) → 0 < x.len → start ≤ x.start → Walked wanted bytes spans start end old → IsLeastNext wanted bytes end x.start old new
        → Walked wanted bytes more x.start (max end (end_of x)) new
    walked_more start end old new filled after walked next = record {
      last = inr (length spans, omega (arith, ap (λ s. s.len) at_last, filled), ap (λ s. s.start) at_last);
      starts = each_more (λ s. 0 < s.len → s.start ≤ x.start) (λ none. absurd (omega (arith, none))) (λ i one. let low = walked.starts i one in omega (arith, low)) (λ _. omega arith);
      ends = each_more (λ s. 0 < s.len → end_of s ≤ max end (end_of x)) (λ none. absurd (omega (arith, none))) (λ i one. let low = walked.ends i one in omega (arith, low)) (λ _. omega arith);
      reached = reaches;
      covered = covers;
      least = least_of_two (λ p. (p < start) × IsStray wanted bytes spans p) (λ p. (end ≤ p) × (p < x.start) × IsWanted wanted bytes p) (λ p. (p < x.start) × IsStray wanted bytes more p) old new walked.least next
          (λ p (low, is). (omega arith, stray_more p is (λ held. absurd (omega (arith, held.0)))))
          (λ p (past, low, is). (low, stray_more p (is, past_all wanted bytes spans start end old walked p past) (λ held. absurd (omega (arith, held.0)))))
          (λ p (low, is). elim (before_or_past wanted bytes spans start end old walked p (stray_old p is)) [ inl before ↦ inl before | inr past ↦ inr (past, low, is.0) ])
          (λ p q (low, is) (past, high, other). let order = begins_before_end wanted bytes spans start end old walked in omega (arith, order, low, past));
    }
      where
        reaches : (max end (end_of x) ≡ 0) ⊎ ((j : ℕ) × (0 < (span_at more j).len) × (end_of (span_at more j) ≡ max end (end_of x)))
        reaches = elim (cases_lt end (end_of x)) [
          | inl further ↦ inr (length spans, omega (arith, ap (λ s. s.len) at_last, filled), let last = ap end_of at_last in omega (arith, last))
          | inr most ↦ elim walked.reached [
            | inl none ↦ absurd (omega (arith, none))
            | inr (j, filled_j, same) ↦ let at = (filled_old j filled_j).1 in inr (j, omega (arith, ap (λ s. s.len) at, filled_j), let end_j = ap end_of at in omega (arith, end_j, same))
          ]
        ]

        covers : (p : ℕ) → x.start ≤ p → p < max end (end_of x) → (i : ℕ) × Holds (span_at more i) p
        covers p low high = elim (cases_lt p (end_of x)) [
          | inl here ↦ (length spans, subst (λ s. Holds s p) (sym at_last) (low, here))
          | inr past ↦
              let (i, held) = walked.covered p (omega arith) (omega arith) in
              (i, subst (λ s. Holds s p) (sym (filled_old i (omega (arith, held.0, held.1))).1) held)
        ]

pub among : (spans : List Span) (i : ℕ) → 0 < (span_at spans i).len → i < length spans
among spans i filled = elim (cases_lt i (length spans)) [
  | inl less ↦ less
  | inr past ↦ absurd (omega (arith, ap (λ s. s.len) (get_or_past spans i no_span past), filled))
]

pub ascending_by_start : (spans : List Span) → IsAscending spans → ComeByStart spans
ascending_by_start spans up i j less filled_i filled_j = let here = up i j less filled_i filled_j in omega (arith, here)

pub by_start_where_sorted : (wanted : Wanted) (bytes : List ℕ) (spans : List Span) (gaps : Gaps) → ArePassed wanted bytes spans gaps → ComeByStart spans → gaps.by_start ≡ true
by_start_where_sorted wanted bytes spans gaps are sorted = elim (cases_Bool gaps.by_start) [
  | inl set ↦ set
  | inr unset ↦ absurd (are.unsorted unset sorted)
]

-- Whether the spans ascend

module _ (spans : List Span) (x : Span) where
  ascending_old : IsAscending (more spans x) → IsAscending spans
  ascending_old up i j less filled_i filled_j =
      let (under_i, same_i) = filled_old spans x i filled_i in
      let (under_j, same_j) = filled_old spans x j filled_j in
      let here = up i j less (omega (arith, ap (λ s. s.len) same_i, filled_i)) (omega (arith, ap (λ s. s.len) same_j, filled_j)) in
      omega (arith, here, ap end_of same_i, ap (λ s. s.start) same_j)

  -- with one more they do, if it is empty or all of them end where it begins, or before that
  ascending_with : IsAscending spans → (0 < x.len → (i : ℕ) → 0 < (span_at spans i).len → end_of (span_at spans i) ≤ x.start) → IsAscending (more spans x)
  ascending_with up past i j less filled_i filled_j = elim (cases_lt j (length spans)) [
    | inl within ↦
        let same_i = at_old spans x i (omega arith) in
        let same_j = at_old spans x j within in
        let here = up i j less (omega (arith, ap (λ s. s.len) same_i, filled_i)) (omega (arith, ap (λ s. s.len) same_j, filled_j)) in
        omega (arith, here, ap end_of same_i, ap (λ s. s.start) same_j)
    | inr most ↦
        let last : j ≡ length spans = omega (arith, among (more spans x) j filled_j, length-append spans (x ∷ [])) in
        let same_i = at_old spans x i (omega (arith, last)) in
        let same_j : span_at (more spans x) j ≡ x = ap (span_at (more spans x)) last ∙ at_last spans x in
        let low = past (omega (arith, ap (λ s. s.len) same_j, filled_j)) i (omega (arith, ap (λ s. s.len) same_i, filled_i)) in
        omega (arith, low, ap end_of same_i, ap (λ s. s.start) same_j)
  ]

  pub ascending_empty : x.len ≡ 0 → IsAscending spans ↔ IsAscending (more spans x)
  ascending_empty empty = (λ up. ascending_with up (λ filled. absurd (omega (arith, empty, filled))), ascending_old)

  module _ (wanted : Wanted) (bytes : List ℕ) (start end : ℕ) (stray : Option ℕ) (walked : Walked wanted bytes spans start end stray) where
    pub ascending_past : end ≤ x.start → IsAscending spans → IsAscending (more spans x)
    ascending_past past up = ascending_with up (λ _ i filled. let low = walked.ends i filled in omega (arith, low))

    -- one that begins before the end does not ascend after them
    pub not_ascending : 0 < x.len → x.start < end → ¬ IsAscending (more spans x)
    not_ascending filled before up = elim (cases_lt x.start start) [
      | inl early ↦ now_unsorted spans x wanted bytes start end stray walked filled early (ascending_by_start (more spans x) up)
      | inr late ↦
          let (i, held) = walked.covered x.start late before in
          let (under, same) = filled_old spans x i (omega (arith, held.0, held.1)) in
          let here = up i (length spans) under (omega (arith, ap (λ s. s.len) same, held.0, held.1)) (omega (arith, ap (λ s. s.len) (at_last spans x), filled)) in
          absurd (omega (arith, here, held.1, ap end_of same, ap (λ s. s.start) (at_last spans x)))
    ]

-- spans that ascend came by their starts
pub ascend_by_start : (wanted : Wanted) (bytes : List ℕ) (spans : List Span) (gaps : Gaps) → ArePassed wanted bytes spans gaps → gaps.ascend ≡ true → gaps.by_start ≡ true
ascend_by_start wanted bytes spans gaps are up = by_start_where_sorted wanted bytes spans gaps are (ascending_by_start spans (are.ascending.0 up))

-- no byte lies before a limit that the end passes
pub next_none : (wanted : Wanted) (bytes : List ℕ) (end limit : ℕ) (old : Option ℕ) → limit ≤ end → IsLeastNext wanted bytes end limit old old
next_none wanted bytes end limit None past = λ p (low, high, is). absurd (omega arith)
next_none wanted bytes end limit (Some place) past = refl

-- One span more was passed

module _ (wanted : Wanted) (bytes : List ℕ) (spans : List Span) (x : Span) (old : Gaps) (are : ArePassed wanted bytes spans old) where
  pub passed_empty : x.len ≡ 0 → ArePassed wanted bytes (spans ++ x ∷ []) old
  passed_empty empty = record {
    of = are.of;
    wants = are.wants;
    unsorted = λ e. still_unsorted spans x (are.unsorted e);
    ascending = (λ up. (ascending_empty spans x empty).0 (are.ascending.0 up), λ up. are.ascending.1 ((ascending_empty spans x empty).1 up));
    walked = λ e. walked_empty spans x wanted bytes old.start old.end old.stray empty (are.walked e);
  }

  -- .. which ascends, or does not
  pub ascending_more : (ascend : Bool) → 0 < x.len → IsTrue ascend ↔ ((old.ascend ≡ true) × (old.end ≤ x.start)) → IsTrue ascend ↔ IsAscending (spans ++ x ∷ [])
  ascending_more ascend filled test = (up, down)
    where
      walked_up : old.ascend ≡ true → Walked wanted bytes spans old.start old.end old.stray
      walked_up was = are.walked (ascend_by_start wanted bytes spans old are was)

      up : IsTrue ascend → IsAscending (spans ++ x ∷ [])
      up set = let (was, past) = test.0 set in ascending_past spans x wanted bytes old.start old.end old.stray (walked_up was) past (are.ascending.0 was)

      down : IsAscending (spans ++ x ∷ []) → IsTrue ascend
      down all =
          let was = are.ascending.1 (ascending_old spans x all) in
          test.1 (
            was,
            elim (cases_lt x.start old.end) [
              | inl before ↦ absurd (not_ascending spans x wanted bytes old.start old.end old.stray (walked_up was) filled before all)
              | inr past ↦ past
            ],
          )

  pub passed_on : (by_start ascend : Bool) (end : ℕ) (stray : Option ℕ) → IsTrue ascend ↔ IsAscending (spans ++ x ∷ []) → by_start ≡ true → old.by_start ≡ true → 0 < x.len → old.start ≤ x.start
      → IsLeastNext old.wanted (bytes_of old.bytes) old.end x.start old.stray stray → end ≡ max old.end (end_of x)
      → ArePassed wanted bytes (spans ++ x ∷ []) (record { bytes = old.bytes; wanted = old.wanted; by_start = by_start; ascend = ascend; start = x.start; end = end; stray = stray })
  passed_on by_start ascend end stray ascending set was filled after next ends = record {
    of = are.of;
    wants = are.wants;
    ascending = ascending;
    unsorted = λ e. absurd (true≢false (sym set ∙ e));
    walked = λ _.
        subst (λ e. Walked wanted bytes (spans ++ x ∷ []) x.start e stray) (sym ends)
        (walked_more spans x wanted bytes old.start old.end old.stray stray filled after (are.walked was) (subst (λ (w : Wanted). IsLeastNext w bytes old.end x.start old.stray stray) are.wants
        (subst (λ (bs : List ℕ). IsLeastNext old.wanted bs old.end x.start old.stray stray) are.of next)));
  }

  pub passed_back : (by_start ascend : Bool) → IsTrue ascend ↔ IsAscending (spans ++ x ∷ []) → by_start ≡ false → ¬ ComeByStart (spans ++ x ∷ [])
      → ArePassed wanted bytes (spans ++ x ∷ []) (record { bytes = old.bytes; wanted = old.wanted; by_start = by_start; ascend = ascend; start = old.start; end = old.end; stray = old.stray })
  passed_back by_start ascend ascending unset unsorted =
      record { of = are.of; wants = are.wants; unsorted = λ _. unsorted; ascending = ascending; walked = λ e. absurd (true≢false (sym e ∙ unset)) }

-- All were passed

-- a byte that is looked for is one of them
wanted_inside : (wanted : Wanted) (bytes : List ℕ) (p : ℕ) → IsWanted wanted bytes p → p < length bytes
wanted_inside wanted.NonZero bytes p is = is.0
wanted_inside (wanted.Unpadded cpu code) bytes p (is, other) = is.0

-- the least one in none of them, if what was found before all of them ended is followed by the bytes up to the last
pub least_of_all : (wanted : Wanted) (bytes : List ℕ) (spans : List Span) (gaps : Gaps) → ArePassed wanted bytes spans gaps → gaps.by_start ≡ true → (limit : ℕ) → limit ≡ length (bytes_of gaps.bytes)
    → (found : Option ℕ) → IsLeastNext gaps.wanted (bytes_of gaps.bytes) gaps.end limit gaps.stray found → IsLeastPlace (IsStray wanted bytes spans) found
least_of_all wanted bytes spans gaps are set limit all found next =
    least_of_two (λ p. (p < gaps.start) × IsStray wanted bytes spans p) (λ p. (gaps.end ≤ p) × (p < limit) × IsWanted wanted bytes p) (IsStray wanted bytes spans) gaps.stray found walked.least here
    (λ p (low, is). is)
    (λ p (past, low, is). (is, past_all wanted bytes spans gaps.start gaps.end gaps.stray walked p past))
    (λ p is. elim (before_or_past wanted bytes spans gaps.start gaps.end gaps.stray walked p is) [
      | inl before ↦ inl before
      | inr past ↦ inr (past, (let low = wanted_inside wanted bytes p is.0 in omega (arith, low, all, ap length are.of)), is.0)
    ])
    (λ p q (low, is) (past, high, other). let order = begins_before_end wanted bytes spans gaps.start gaps.end gaps.stray walked in omega (arith, order, low, past))
  where
    walked : Walked wanted bytes spans gaps.start gaps.end gaps.stray
    walked = are.walked set

    here : IsLeastNext wanted bytes gaps.end limit gaps.stray found
    here = subst (λ (w : Wanted). IsLeastNext w bytes gaps.end limit gaps.stray found) are.wants (subst (λ (bs : List ℕ). IsLeastNext gaps.wanted bs gaps.end limit gaps.stray found) are.of next)

-- spans that ascend share no place
pub ascending_apart : (spans : List Span) → IsAscending spans → (j : ℕ) → ¬ SharesEarlier spans j
ascending_apart spans up j (within, (i, less, (place, here, there))) =
    let low = up i j less (omega (arith, here)) (omega (arith, there)) in absurd (omega (arith, low, here, there))

pub sorted_by_start : (spans : List Span) → IsNonDecreasingBy (λ s. s.start) spans → ComeByStart spans
sorted_by_start spans sorted i j less filled_i filled_j = sorted i j no_span (omega arith) (among spans j filled_j)

-- a place in none of some spans is in none among them
pub free_among : (spans others : List Span) (p : ℕ) → ((x : Span) → Contains others x → Contains spans x) → ((i : ℕ) → ¬ Holds (span_at spans i) p) → (i : ℕ) → ¬ Holds (span_at others i) p
free_among spans others p has free i held =
    let less = among others i (omega (arith, held.0, held.1)) in
    let there = has (span_at others i) (i, less, get_or_default others i _ no_span less) in
    free there.0 (subst (λ s. Holds s p) (sym (get_or_default spans there.0 no_span _ there.1 ∙ there.2)) held)

-- a place in none of the spans of some items, item by item
pub all_of_free : {X : Type 0} (span : X → Span) (items : List X) (p : ℕ) → ((i : ℕ) → ¬ Holds (span_at (map span items) i) p) → All (λ x. ¬ Holds (span x) p) items
all_of_free span items p free k x less held = free k (subst (λ s. Holds s p) (sym (get_or-map span items k x no_span less)) held)

pub free_of_all : {X : Type 0} (span : X → Span) (items : List X) (x : X) (p : ℕ) → All (λ y. ¬ Holds (span y) p) items → (i : ℕ) → ¬ Holds (span_at (map span items) i) p
free_of_all span items x p none i held =
    let less : i < length items = omega (arith, among (map span items) i (omega (arith, held.0, held.1)), length-map items span) in
    none i x less (subst (λ s. Holds s p) (get_or-map span items i x no_span less) held)
