-- Binds that are sorted by their slots: where no neighbours clash, no two do.
use Rattle.std.proofs.Common.{◌≡◌, ◌↔◌, ℕ, ◌+◌, ◌^◌, ◌≤◌, ◌<◌, List, length, get_or, Option, Some, None, IfSome, Contains, refl, sym, ◌∙◌, subst, arith, inl, inr}
use Rattle.std.specs.Prelude.{pos, IsPermutation}
use Rattle.std.specs.List.Sorted.{IsNonDecreasingBy}
use Rattle.std.proofs.lemmas.Bool.{cases_lt, cases_eq}
use Rattle.std.proofs.lemmas.List.{get_or_default}
use Rattle.std.proofs.lemmas.List.Sorted.{IsPermutation-sym, Contains-permutation}
use Rattle.macho_fields.specs.FirstPlace.{IsLeastPlace}
use Rattle.macho_alike.specs.Binds.{IsCompared, IsSame, Clash}
use Rattle.macho_alike.specs.BindLists.{IsInside, AreInside, slot_number, ClashBy, AnyClashBy, ClashAt, IsApart, IsTaken}
use Rattle.macho_alike.specs.declared.binds.Bind.{Bind}
use Rattle.macho_alike.specs.declared.binds.Compared.{Compared}
use Rattle.macho_alike.specs.declared.binds.Compared.TheVariants as compared

abbrev pub no_bind : Bind
no_bind = record { place = 0; segment = 0; offset = 0; name = record { start = 0; len = 0 }; addend = pos 0; library = None }

abbrev pub bind_at : List Bind → ℕ → Bind
bind_at binds i = get_or binds i no_bind

-- Two binds

module _ (what : Compared) (image : List ℕ) where
  same_both_ways : (w : Compared) (one other : Bind) → IsSame w image one other → IsSame w image other one
  same_both_ways compared.Names one other (names, addends) = (sym names, sym addends)
  same_both_ways compared.Libraries one other same = sym same

  same_on : (w : Compared) (one other third : Bind) → IsSame w image one other → IsSame w image other third → IsSame w image one third
  same_on compared.Names one other third (names, addends) (more, again) = (names ∙ more, addends ∙ again)
  same_on compared.Libraries one other third same more = same ∙ more

  same_self : (w : Compared) (one : Bind) → IsSame w image one one
  same_self compared.Names one = (refl, refl)
  same_self compared.Libraries one = refl

  pub clash_both_ways : (one other : Bind) → Clash what image one other → Clash what image other one
  clash_both_ways one other (first, second, inl (segment, apart, low, high)) =
      (second, first, inl (sym segment, (λ same. apart (sym same)), high, low))
  clash_both_ways one other (first, second, inr ((segment, offset), differ)) =
      (second, first, inr ((sym segment, sym offset), λ same. differ (same_both_ways what other one same)))

  -- what clashes is not apart
  pub apart_agrees : (one other : Bind) → IsApart what image one other → ¬ Clash what image one other
  apart_agrees one other (inl ((segment, offset), same)) (first, second, inl (here, differ, low, high)) = differ offset
  apart_agrees one other (inl (slot, same)) (first, second, inr (here, differ)) = differ same
  apart_agrees one other (inr (inl below)) (first, second, inl (segment, differ, low, high)) = absurd (omega (arith, below, segment))
  apart_agrees one other (inr (inl below)) (first, second, inr ((segment, offset), differ)) = absurd (omega (arith, below, segment))
  apart_agrees one other (inr (inr (segment, below))) (first, second, inl (here, differ, low, high)) = absurd (omega (arith, below, high, low))
  apart_agrees one other (inr (inr (segment, below))) (first, second, inr ((here, offset), differ)) = absurd (omega (arith, below, offset))

  pub self_agrees : (one : Bind) → ¬ Clash what image one one
  self_agrees one (first, second, inl (segment, apart, low, high)) = apart refl
  self_agrees one (first, second, inr (slot, differ)) = differ (same_self what one)

  -- in the order of slots, what is not apart clashes
  pub clash_here : (one other : Bind) → slot_number one ≤ slot_number other → other.offset < 2 ^ 64 → IsCompared what one → IsCompared what other
      → ¬ IsApart what image one other → Clash what image one other
  clash_here one other less near first second not = elim (cases_lt one.segment other.segment) [
    | inl below ↦ absurd (not (inr (inl below)))
    | inr above ↦
        let segment : one.segment ≡ other.segment = omega (arith, less, near, above) in
        let offsets : one.offset ≤ other.offset = omega (arith, less, segment) in
        elim (cases_eq one.offset other.offset) [
          | inl same ↦ (first, second, inr ((segment, same), λ agrees. not (inl ((segment, same), agrees))))
          | inr apart ↦ elim (cases_lt other.offset (one.offset + 8)) [
            | inl near_by ↦ (first, second, inl (segment, (λ same. absurd (omega (arith, same, apart))), omega (arith, offsets), near_by))
            | inr far ↦ absurd (not (inr (inr (segment, far))))
          ]
        ]
  ]

  pub apart_on : (one other third : Bind) → IsApart what image one other → IsApart what image other third → IsApart what image one third
  apart_on one other third (inl ((segment, offset), same)) (inl ((more, again), also)) = inl ((segment ∙ more, offset ∙ again), same_on what one other third same also)
  apart_on one other third (inl ((segment, offset), same)) (inr (inl below)) = inr (inl (omega (arith, segment, below)))
  apart_on one other third (inl ((segment, offset), same)) (inr (inr (more, below))) = inr (inr (segment ∙ more, omega (arith, offset, below)))
  apart_on one other third (inr (inl below)) (inl ((more, again), also)) = inr (inl (omega (arith, more, below)))
  apart_on one other third (inr (inl below)) (inr (inl past)) = inr (inl (omega (arith, past, below)))
  apart_on one other third (inr (inl below)) (inr (inr (more, past))) = inr (inl (omega (arith, more, below)))
  apart_on one other third (inr (inr (segment, below))) (inl ((more, again), also)) = inr (inr (segment ∙ more, omega (arith, again, below)))
  apart_on one other third (inr (inr (segment, below))) (inr (inl past)) = inr (inl (omega (arith, segment, past)))
  apart_on one other third (inr (inr (segment, below))) (inr (inr (more, past))) = inr (inr (segment ∙ more, omega (arith, below, past)))

  -- A pass over the binds up to a limit

  module _ (binds : List Bind) (limit : ℕ) where
    abbrev taken : ℕ → Type 0
    taken i = IsTaken what limit (bind_at binds i)

    -- the first n are passed: those that are taken are apart from the ones after them, and the last of them is known
    pub record IsPassed (n : ℕ) (last : Option Bind) : Type 0 where
      pub none : last ≡ None → (i : ℕ) → i < n → ¬ taken i
      pub is : (bind : Bind) → last ≡ Some bind → (i : ℕ) × (i < n) × (bind_at binds i ≡ bind) × taken i
      pub apart : (bind : Bind) → last ≡ Some bind → (i : ℕ) → i < n → taken i → IsApart what image (bind_at binds i) bind
      pub all : (i j : ℕ) → i < j → j < n → taken i → taken j → IsApart what image (bind_at binds i) (bind_at binds j)

    pub passed_none : IsPassed 0 None
    passed_none = record {
      none = λ is i less. absurd (omega arith);
      is = λ bind wrong. absurd (cc);
      apart = λ bind wrong. absurd (cc);
      all = λ i j less below. absurd (omega arith);
    }

    module _ (n : ℕ) (last : Option Bind) (passed : IsPassed n last) where
      pub passed_over : ¬ taken n → IsPassed (n + 1) last
      passed_over not = record {
        none = λ is i less took. elim (cases_eq i n) [ inl same ↦ not (subst taken same took) | inr apart ↦ passed.none is i (omega (arith, less, apart)) took ];
        is = λ bind is. let (i, less, at, took) = passed.is bind is in (i, omega (arith, less), at, took);
        apart = λ bind is i less took. elim (cases_eq i n) [ inl same ↦ absurd (not (subst taken same took)) | inr apart ↦ passed.apart bind is i (omega (arith, less, apart)) took ];
        all = λ i j less below took also. elim (cases_eq j n) [ inl same ↦ absurd (not (subst taken same also)) | inr apart ↦ passed.all i j less (omega (arith, below, apart)) took also ];
      }

      pub passed_more : taken n → ((bind : Bind) → last ≡ Some bind → IsApart what image bind (bind_at binds n)) → IsPassed (n + 1) (Some (bind_at binds n))
      passed_more took far = record {
        none = λ wrong. absurd (cc);
        is = λ bind is. (n, omega arith, (let same : bind_at binds n ≡ bind = cc in same), took);
        apart = λ bind is i less has.
            let same : bind_at binds n ≡ bind = cc in
            subst (λ (b : Bind). IsApart what image (bind_at binds i) b) same (from_here i less has);
        all = λ i j less below has also. elim (cases_eq j n) [
          | inl same ↦ subst (λ (k : ℕ). IsApart what image (bind_at binds i) (bind_at binds k)) (sym same) (from i (omega (arith, less, same)) has)
          | inr apart ↦ passed.all i j less (omega (arith, below, apart)) has also
        ];
      }
        where
          by_last : (known : Option Bind) → last ≡ known → (i : ℕ) → i < n → taken i → IsApart what image (bind_at binds i) (bind_at binds n)
          by_last None is i less has = absurd (passed.none is i less has)
          by_last (Some bind) is i less has = apart_on (bind_at binds i) bind (bind_at binds n) (passed.apart bind is i less has) (far bind is)

          from : (i : ℕ) → i < n → taken i → IsApart what image (bind_at binds i) (bind_at binds n)
          from i less has = by_last last refl i less has

          from_here : (i : ℕ) → i < n + 1 → taken i → IsApart what image (bind_at binds i) (bind_at binds n)
          from_here i less has = elim (cases_eq i n) [
            | inl same ↦ subst (λ (k : ℕ). IsApart what image (bind_at binds k) (bind_at binds n)) (sym same) (inl ((refl, refl), same_self what (bind_at binds n)))
            | inr apart ↦ from i (omega (arith, less, apart)) has
          ]

      -- a bind that is not apart from the last one clashes with it
      pub passed_clash : n < length binds → IsNonDecreasingBy (λ bind. slot_number bind) binds → AreInside (length image) binds → taken n
          → (bind : Bind) → last ≡ Some bind → ¬ IsApart what image bind (bind_at binds n) → ClashBy what image binds limit
      passed_clash below sorted inside (is_compared, low) bind is not =
          let (i, less, at, (compared_too, low_too)) = passed.is bind is in
          let here : Contains binds (bind_at binds n) = (n, below, get_or_default binds n _ no_bind below) in
          let there : Contains binds (bind_at binds i) = (i, omega (arith, less, below), get_or_default binds i _ no_bind (omega (arith, less, below))) in
          let rises = sorted i n no_bind (omega (arith, less)) below in
          let near = (inside (bind_at binds n) here).offset in
          (bind_at binds i, bind_at binds n, there, here, clash_here (bind_at binds i) (bind_at binds n) rises near compared_too is_compared (subst (λ (b : Bind). ¬ IsApart what image b (bind_at binds n)) (sym at) not), low_too, low)

      -- what is not apart from the last one, if there is one, clashes with it
      pub passed_clashes : n < length binds → IsNonDecreasingBy (λ bind. slot_number bind) binds → AreInside (length image) binds → taken n
          → ¬ IfSome last (λ before. IsApart what image before (bind_at binds n)) → ClashBy what image binds limit
      passed_clashes below sorted inside took not = known last refl
        where
          known : (l : Option Bind) → last ≡ l → ClashBy what image binds limit
          known None is = absurd (not (rw is tt))
          known (Some bind) is = passed_clash below sorted inside took bind is (λ far. not (rw is far))

      -- and what is apart from it is passed
      pub passed_next : taken n → IfSome last (λ before. IsApart what image before (bind_at binds n)) → IsPassed (n + 1) (Some (bind_at binds n))
      passed_next took far =
          passed_more took (λ bind is. subst (λ (l : Option Bind). IfSome l (λ before. IsApart what image before (bind_at binds n))) is far)

      -- the last one is a bind of the list
      pub last_inside : n ≤ length binds → AreInside (length image) binds → IfSome last (IsInside (length image))
      last_inside most inside = known last refl
        where
          known : (l : Option Bind) → last ≡ l → IfSome l (IsInside (length image))
          known None is = tt
          known (Some bind) is =
              let (i, less, at, took) = passed.is bind is in
              inside bind (i, omega (arith, less, most), get_or_default binds i bind no_bind (omega (arith, less, most)) ∙ at)

      -- all are passed
      pub passed_all : length binds ≤ n → ¬ ClashBy what image binds limit
      passed_all end (one, other, (i, here, at), (j, there, also), clash, low, high) =
          let at_i : bind_at binds i ≡ one = get_or_default binds i no_bind _ here ∙ at in
          let at_j : bind_at binds j ≡ other = get_or_default binds j no_bind _ there ∙ also in
          let clashes : Clash what image (bind_at binds i) (bind_at binds j) = rw (at_i, at_j) clash in
          let took_i : taken i = rw at_i (clash.0, low) in
          let took_j : taken j = rw at_j (clash.1, high) in
          elim (cases_lt i j) [
            | inl less ↦ apart_agrees _ _ (passed.all i j less (omega (arith, there, end)) took_i took_j) clashes
            | inr more ↦ elim (cases_eq i j) [
              | inl same ↦ self_agrees (bind_at binds j) (subst (λ (k : ℕ). Clash what image (bind_at binds k) (bind_at binds j)) same clashes)
              | inr apart ↦ apart_agrees _ _ (passed.all j i (omega (arith, more, apart)) (omega (arith, here, end)) took_j took_i) (clash_both_ways _ _ clashes)
            ]
          ]

-- Limits

module _ (image : List ℕ) (binds : List Bind) where
  pub clash_more : (low high : ℕ) → low ≤ high → AnyClashBy image binds low → AnyClashBy image binds high
  clash_more low high less (what, (one, other, here, there, clash, first, second)) =
      (what, (one, other, here, there, clash, omega (arith, first, less), omega (arith, second, less)))

  pub by_of_at : (place : ℕ) → ClashAt image binds place → AnyClashBy image binds place
  by_of_at place (what, one, other, here, there, clash, first, second) = (what, (one, other, here, there, clash, first, omega (arith, second)))

  -- the least limit is the least place
  pub least_of_limit : (least : ℕ) → AnyClashBy image binds least → ((place : ℕ) → AnyClashBy image binds place → least ≤ place) → IsLeastPlace (ClashAt image binds) (Some least)
  least_of_limit least (what, (one, other, here, there, clash, first, second)) none = (at, λ place broken. none place (by_of_at place broken))
    where
      at : ClashAt image binds least
      at = elim (cases_lt other.place least) [
        | inr up ↦ (what, one, other, here, there, clash, first, omega (arith, second, up))
        | inl below ↦ elim (cases_lt one.place least) [
          | inr up ↦ (what, other, one, there, here, clash_both_ways what image one other clash, second, omega (arith, first, up))
          | inl also ↦ elim (cases_lt one.place other.place) [
            | inl less ↦ let most = none other.place (what, (one, other, here, there, clash, omega (arith, less), omega arith)) in absurd (omega (arith, most, below))
            | inr more ↦ let most = none one.place (what, (one, other, here, there, clash, omega arith, more)) in absurd (omega (arith, most, also))
          ]
        ]
      ]

  -- where no two clash up to the end, no two do
  pub none_of_limit : (end : ℕ) → AreInside end binds → ¬ AnyClashBy image binds end → IsLeastPlace (ClashAt image binds) None
  none_of_limit end inside none place (what, one, other, here, there, clash, first, second) =
      none (what, (one, other, here, there, clash, (inside one here).place, (inside other there).place))

  -- where they clash neither in names nor in libraries
  pub none_of_either : AreInside (length image) binds → ¬ ClashBy compared.Names image binds (length image) → ¬ ClashBy compared.Libraries image binds (length image) → IsLeastPlace (ClashAt image binds) None
  none_of_either inside names libraries = none_of_limit (length image) inside neither
    where
      neither : ¬ AnyClashBy image binds (length image)
      neither (compared.Names, clash) = names clash
      neither (compared.Libraries, clash) = libraries clash

  -- up to the end each name is compared
  pub named : AreInside (length image) binds → (i : ℕ) → i < length binds → IsTaken compared.Names (length image) (bind_at binds i)
  named inside i less = (tt, (inside (bind_at binds i) (i, less, get_or_default binds i _ no_bind less)).place)

-- in another order
module _ (image : List ℕ) (old new : List Bind) (moved : IsPermutation old new) where
  pub inside_moved : (len : ℕ) → AreInside len old → AreInside len new
  inside_moved len inside bind has = inside bind (Contains-permutation new old bind (IsPermutation-sym old new moved) has)

  pub at_moved : (place : ℕ) → ClashAt image new place ↔ ClashAt image old place
  at_moved place = (
    λ (what, one, other, here, there, clash, first, second).
        (what, one, other, Contains-permutation new old one (IsPermutation-sym old new moved) here, Contains-permutation new old other (IsPermutation-sym old new moved) there, clash, first, second),
    λ (what, one, other, here, there, clash, first, second).
        (what, one, other, Contains-permutation old new one moved here, Contains-permutation old new other moved there, clash, first, second),
  )
