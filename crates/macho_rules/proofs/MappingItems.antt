-- What a mapping says of the addresses of an unbroken image.
use Rattle.std.proofs.Common.{◌≡◌, ℕ, suc, zero, ◌+◌, ◌-◌, ◌^◌, ◌<◌, ◌++◌, List, [], ◌∷◌, length, map, take, get_or, All, Contains}
use Rattle.std.proofs.Common.{false, eqb, Option, None, Some, IsSomeAnd, Result, Ok, Err, IsOk, OnErr, refl, sym, ap, ◌∙◌, subst, arith, inl, inr}
use Rattle.std.specs.Prelude.{AllPairs, IsPermutation}
use Rattle.std.specs.List.{IsDistinct}
use Rattle.std.specs.Option.{option_map}
use Rattle.std.proofs.lemmas.Bool.{cases_lt, false≢true}
use Rattle.std.proofs.lemmas.Bool.Decides.{nat_tests}
use Rattle.std.proofs.lemmas.List.{length-map, get_or-map, get_or_default, get_or-take, length-take-le}
use Rattle.std.proofs.lemmas.List.Elements.{All-map, All-same, Contains-get_or}
use Rattle.std.proofs.lemmas.List.Sorted.{Contains-permutation, IsPermutation-map, IsPermutation-sym, length_permutation}
use Rattle.std.proofs.lemmas.Map.Keys.{IsDistinct-IsPermutation, IsDistinct-from_apart, apart_from_distinct}
use Rattle.macho_fields.proofs.Lists.{contains_first, contains_later}
use Rattle.macho_fields.specs.Image.{commands_of}
use Rattle.macho_fields.specs.Layers.{NothingBreaks}
use Rattle.macho_fields.specs.Rules.{BreaksImage}
use Rattle.macho_fields.specs.Segment.{segments_of, vmaddr, vmsize, fileoff, filesize, Supplies, source}
use Rattle.macho_spans.specs.Span.{Holds, Shares}
use Rattle.macho_spans.specs.Spans.{AreSorted, IsPlaced, SharesWithOne}
use Rattle.macho_fields.specs.declared.rule.Rule.TheVariants as rule
use Rattle.macho_spans.specs.declared.span.Span.{Span}
use Rattle.macho_spans.specs.declared.spans.Insert.{Insert}
use Rattle.macho_spans.specs.declared.spans.Insert.TheVariants.{Added, Overlap}
use Rattle.macho_image.specs.Opened.{IsOpened}
use Rattle.macho_rules.specs.Mapped.{mapped_segments, memory_at, numbered_memory}
use Rattle.macho_rules.specs.Mapping.{source_past, source_from, sources_in, GivesSources}
use Rattle.macho_rules.specs.FilePart.{file_at, FitsFile}
use Rattle.macho_rules.specs.declared.mapping.FilePart.{FilePart}
use Rattle.macho_spans.proofs.Overlaps.{flips}
use Rattle.macho_rules.proofs.Judged.{opened_commands}
use Rattle.macho_rules.proofs.Mapped.{mapped_rise, mapped_among, among_mapped, mapped_positive}
use Rattle.macho_rules.proofs.Memory.{none_holds, one_holds}
use Rattle.macho_rules.proofs.Searches.{any_of, ordered_at}

-- The spans of a mapping

-- a span that is not refused is added
pub added_unless : (insert : Insert) → ¬ (insert ≡ Overlap) → insert ≡ Added
added_unless Added not = refl
added_unless Overlap not = absurd (not refl)

abbrev pub no_pair : Span × ℕ
no_pair = (record { start = 0; len = 0 }, 0)

-- of pairs that share no place, the next one shares none with those that are held
pub next_apart : (pairs held : List (Span × ℕ)) (i : ℕ) → i < length pairs → AllPairs (λ pair later. ¬ Shares pair.0 later.0) pairs → IsPermutation (take i pairs) held
    → ¬ SharesWithOne held (get_or pairs i no_pair).0
next_apart pairs held i less apart moved (k, pair, within, at, shares) =
    let (j, below, is) = Contains-permutation held (take i pairs) pair (IsPermutation-sym _ _ moved) (k, within, at) in
    let count : length (take i pairs) ≡ i = length-take-le i pairs (omega arith) in
    let here = sym (get_or-take i pairs j pair (omega (arith, below, count))) ∙ is in
    let same = get_or_default pairs j no_pair pair (omega (arith, below, count)) ∙ here in
    apart j i no_pair (omega (arith, below, count)) less (subst (λ (one : Span × ℕ). Shares one.0 (get_or pairs i no_pair).0) (sym same) shares)

abbrev tag_of : Span × ℕ → ℕ
tag_of pair = pair.1

module _ (image : List ℕ) where
  numbered_push : (k : ℕ) (ps : List ℕ) (p : ℕ) → numbered_memory image k (ps ++ p ∷ []) ≡ numbered_memory image k ps ++ (memory_at image p, k + length ps) ∷ []
  numbered_push k [] p = ap (λ (n : ℕ). (memory_at image p, n) ∷ []) (omega arith)
  numbered_push k (q ∷ ps) p =
      ap (λ rest. (memory_at image q, k) ∷ rest) (numbered_push (k + 1) ps p ∙ ap (λ (n : ℕ). numbered_memory image (k + 1) ps ++ (memory_at image p, n) ∷ []) (omega arith))

  length_numbered : (k : ℕ) (ps : List ℕ) → length (numbered_memory image k ps) ≡ length ps
  length_numbered k [] = refl
  length_numbered k (p ∷ ps) = ap suc (length_numbered (k + 1) ps)

  pub numbered_more : (seen : List ℕ) (p : ℕ) (memory : List (Span × ℕ)) → memory ≡ numbered_memory image 0 seen → (span : Span) → span ≡ memory_at image p → (tag : ℕ) → tag ≡ length seen
      → memory ++ (span, tag) ∷ [] ≡ numbered_memory image 0 (seen ++ p ∷ [])
  numbered_more seen p memory are span is tag count =
      ap (λ pairs. pairs ++ (span, tag) ∷ []) are
      ∙ (ap (λ (one : Span). numbered_memory image 0 seen ++ (one, tag) ∷ []) is
      ∙ (ap (λ (n : ℕ). numbered_memory image 0 seen ++ (memory_at image p, n) ∷ []) (omega (arith, count)) ∙ sym (numbered_push 0 seen p)))

  pub pairs_counted : (seen : List ℕ) (pairs : List (Span × ℕ)) → pairs ≡ numbered_memory image 0 seen → length pairs ≡ length seen
  pairs_counted seen pairs are = ap length are ∙ length_numbered 0 seen

  -- each pair belongs to a segment, at its index
  numbered_of : (k : ℕ) (ps : List ℕ) (pair : Span × ℕ) → Contains (numbered_memory image k ps) pair → (i : ℕ) × (i < length ps) × (pair ≡ (memory_at image (get_or ps i 0), k + i))
  numbered_of k [] pair (j, less, at) = absurd (omega arith)
  numbered_of k (p ∷ ps) pair (zero, less, at) = (0, omega arith, sym at ∙ ap (λ (n : ℕ). (memory_at image p, n)) (omega arith))
  numbered_of k (p ∷ ps) pair (suc j, less, at) =
      let (i, within, is) = numbered_of (k + 1) ps pair (j, omega arith, at) in
      (suc i, omega arith, is ∙ ap (λ (n : ℕ). (memory_at image (get_or ps i 0), n)) (omega arith))

  -- each segment has its pair
  numbered_has : (k : ℕ) (ps : List ℕ) (p : ℕ) → Contains ps p → (i : ℕ) × (i < length ps) × (get_or ps i 0 ≡ p) × Contains (numbered_memory image k ps) (memory_at image p, k + i)
  numbered_has k [] p (j, less, at) = absurd (omega arith)
  numbered_has k (q ∷ ps) p (zero, less, at) =
      let same : ◌≡◌ {A = Span × ℕ} (memory_at image q, k) (memory_at image p, k + 0) = ap (λ r. (memory_at image r, k)) at ∙ ap (λ (n : ℕ). (memory_at image p, n)) (omega arith) in
      (0, omega arith, at, subst (Contains (numbered_memory image k (q ∷ ps))) same (contains_first (memory_at image q, k) (numbered_memory image (k + 1) ps)))
  numbered_has k (q ∷ ps) p (suc j, less, at) =
      let (i, within, is, has) = numbered_has (k + 1) ps p (j, omega arith, at) in
      (suc i, omega arith, is, contains_later (memory_at image q, k) _ _ (subst (Contains (numbered_memory image (k + 1) ps)) (ap (λ (n : ℕ). (memory_at image p, n)) (omega arith)) has))

  -- the pairs that were collected belong to the segments, in whatever order they stand
  pub pairs_moved : (items pairs : List (Span × ℕ)) → items ≡ numbered_memory image 0 (mapped_segments image) → IsPermutation items pairs
      → IsPermutation (numbered_memory image 0 (mapped_segments image)) pairs
  pairs_moved items pairs are moved = subst (λ xs. IsPermutation xs pairs) are moved

  pub moved_count : (pairs : List (Span × ℕ)) → IsPermutation (numbered_memory image 0 (mapped_segments image)) pairs → length pairs ≡ length (mapped_segments image)
  moved_count pairs moved = length_permutation (numbered_memory image 0 (mapped_segments image)) pairs moved ∙ length_numbered 0 (mapped_segments image)

  -- the tags count the segments
  tag_at : (k : ℕ) (ps : List ℕ) (i d : ℕ) → i < length ps → get_or (map tag_of (numbered_memory image k ps)) i d ≡ k + i
  tag_at k [] i d less = absurd (omega arith)
  tag_at k (p ∷ ps) zero d less = omega arith
  tag_at k (p ∷ ps) (suc i) d less = let rest = tag_at (k + 1) ps i d (omega arith) in omega (arith, rest)

  tags_distinct : (ps : List ℕ) → IsDistinct eqb (map tag_of (numbered_memory image 0 ps))
  tags_distinct ps = IsDistinct-from_apart eqb _ (λ i j d less within.
      let below : j < length ps = omega (arith, within, length-map (numbered_memory image 0 ps) tag_of, length_numbered 0 ps) in
      let one = tag_at 0 ps i d (omega (arith, less, below)) in
      let other = tag_at 0 ps j d below in
      rw (one, other) (grind (arith, nat_tests)))

  -- The addresses of the mapped segments of an unbroken image

  module _ (opened : IsOpened image) (keeps : NothingBreaks (BreaksImage image None)) where
    placed : (p : ℕ) → Contains (mapped_segments image) p → IsPlaced (memory_at image p)
    placed p has = (
      mapped_positive image p has,
      elim (cases_lt (2 ^ 64) (vmaddr image p + vmsize image p)) [
        | inl past ↦ absurd (keeps rule.SegmentAddress p (inr (commands_of image, opened_commands image opened, (mapped_among image p has, past))))
        | inr inside ↦ inside
      ],
    )

    -- no earlier segment has one of its addresses
    apart : (i j : ℕ) → i < j → j < length (mapped_segments image) → ¬ Shares (memory_at image (get_or (mapped_segments image) i 0)) (memory_at image (get_or (mapped_segments image) j 0))
    apart i j less within shares =
        let has = λ (k : ℕ) (below : k < length (mapped_segments image)). mapped_among image _ (Contains-get_or (mapped_segments image) k 0 below) in
        let earlier = ordered_at (λ a b. a < b) (mapped_segments image) 0 i j (mapped_rise image opened) less within in
        keeps rule.SegmentOverlap (get_or (mapped_segments image) j 0)
        (inr (commands_of image, opened_commands image opened, (has j within, any_of _ _ (get_or (mapped_segments image) i 0) (has i (omega (arith, less, within))) (earlier, shares))))

    module _ (pairs : List (Span × ℕ)) (moved : IsPermutation (numbered_memory image 0 (mapped_segments image)) pairs) where
      pair_at : (k : ℕ) → k < length pairs → (i : ℕ) × (i < length (mapped_segments image)) × (get_or pairs k no_pair ≡ (memory_at image (get_or (mapped_segments image) i 0), 0 + i))
      pair_at k less =
          numbered_of 0 (mapped_segments image) _ (Contains-permutation pairs (numbered_memory image 0 (mapped_segments image)) _ (IsPermutation-sym _ _ moved) (Contains-get_or pairs k no_pair less))

      tags_differ : (p q : ℕ) → p < q → q < length pairs → eqb (get_or pairs p no_pair).1 (get_or pairs q no_pair).1 ≡ false
      tags_differ p q less within =
          let distinct = IsDistinct-IsPermutation eqb flips _ _ (IsPermutation-map tag_of (numbered_memory image 0 (mapped_segments image)) pairs moved) (tags_distinct (mapped_segments image)) in
          let differ = apart_from_distinct eqb _ p q 0 distinct less (omega (arith, within, length-map pairs tag_of)) in
          rw (← get_or-map tag_of pairs p no_pair 0 (omega arith), ← get_or-map tag_of pairs q no_pair 0 within) differ

      -- in whatever order they stand, no two share an address
      pub moved_apart : AllPairs (λ pair later. ¬ Shares pair.0 later.0) pairs
      moved_apart p q d less within shares =
          let one = pair_at p (omega (arith, less, within)) in
          let other = pair_at q within in
          let here = get_or_default pairs p d no_pair (omega (arith, less, within)) ∙ one.2 in
          let there = get_or_default pairs q d no_pair within ∙ other.2 in
          let both : Shares (memory_at image (get_or (mapped_segments image) one.0 0)) (memory_at image (get_or (mapped_segments image) other.0 0)) = rw (here, there) at shares in
          elim (cases_lt one.0 other.0) [
            | inl before ↦ apart one.0 other.0 before other.1 both
            | inr most ↦ elim (cases_lt other.0 one.0) [
              | inl behind ↦ apart other.0 one.0 behind one.1 (let (address, in_one, in_other) = both in (address, in_other, in_one))
              | inr least ↦
                  let differ = tags_differ p q less within in
                  let tag_p = ap tag_of one.2 in
                  let tag_q = ap tag_of other.2 in
                  let same : (get_or pairs p no_pair).1 ≡ (get_or pairs q no_pair).1 = omega (arith, tag_p, tag_q, most, least) in
                  absurd (grind (arith, nat_tests, differ, same))
            ]
          ]

      pub moved_placed : All (λ pair. IsPlaced pair.0) pairs
      moved_placed k d less =
          let one = pair_at k less in
          let here = get_or_default pairs k d no_pair less ∙ one.2 in
          subst (λ (pair : Span × ℕ). IsPlaced pair.0) (sym here) (placed _ (Contains-get_or (mapped_segments image) one.0 0 one.1))

  -- The mapping of an image

  module _ (pairs : List (Span × ℕ)) (files : List FilePart) (moved : IsPermutation (numbered_memory image 0 (mapped_segments image)) pairs)
      (parts : files ≡ map (file_at image) (mapped_segments image)) where
    -- a pair belongs to a segment
    pair_of : (pair : Span × ℕ) → Contains pairs pair → (i : ℕ) × (i < length (mapped_segments image)) × (pair ≡ (memory_at image (get_or (mapped_segments image) i 0), 0 + i))
    pair_of pair has = numbered_of 0 (mapped_segments image) pair (Contains-permutation pairs (numbered_memory image 0 (mapped_segments image)) pair (IsPermutation-sym _ _ moved) has)

    pub all_indexed : All (λ pair. pair.1 < length files) pairs
    all_indexed k d within =
        let (i, less, is) = pair_of (get_or pairs k d) (Contains-get_or pairs k d within) in
        let at = ap (λ (pair : Span × ℕ). pair.1) is in
        let count = ap length parts ∙ length-map (mapped_segments image) (file_at image) in omega arith

    pub all_fit : length image < 2 ^ 64 → IsOpened image → NothingBreaks (BreaksImage image None) → All FitsFile files
    all_fit short opened keeps = All-same FitsFile files (map (file_at image) (mapped_segments image)) parts
        (All-map FitsFile (file_at image) (mapped_segments image) (λ k d within. fits (get_or (mapped_segments image) k d) (mapped_among image _ (Contains-get_or (mapped_segments image) k d within))))
      where
        fits : (p : ℕ) → Contains (segments_of image (commands_of image)) p → FitsFile (file_at image p)
        fits p has some = elim (cases_lt (length image) (fileoff image p + filesize image p)) [
          | inl past ↦ absurd (keeps rule.SegmentFile p (inr (commands_of image, opened_commands image opened, (has, (some, past)))))
          | inr inside ↦ omega (arith, short, inside)
        ]

    -- the mapped segments of an unbroken image give what is at each address
    pub sources_given : AreSorted pairs → GivesSources image (sources_in pairs files)
    sources_given sorted address = (
      supplied,
      λ none. ap (option_map (source_from files address)) (none_holds address pairs (λ (k, pair, within, at, here).
          let (i, less, is) = pair_of pair (k, within, at) in
          none (get_or (mapped_segments image) i 0) (mapped_among image _ (Contains-get_or (mapped_segments image) i 0 less)) (subst (λ (one : Span × ℕ). Holds one.0 address) is here))),
    )
      where
        supplied : (s : ℕ) → Contains (segments_of image (commands_of image)) s → Supplies image s address → sources_in pairs files address ≡ Some (source image s address)
        supplied s has here =
            let (i, less, is, pair) = numbered_has 0 (mapped_segments image) s (among_mapped image s has (omega (arith, here.0, here.1))) in
            let found = one_holds address pairs (memory_at image s, 0 + i) sorted.apart (Contains-permutation (numbered_memory image 0 (mapped_segments image)) pairs _ moved pair) here in
            let no_part : FilePart = record { fileoff = 0; filesize = 0 } in
            let part = ap (λ all. get_or all (0 + i) no_part) parts
            ∙ (get_or-map (file_at image) (mapped_segments image) (0 + i) 0 no_part (omega arith) ∙ ap (file_at image) (ap (λ n. get_or (mapped_segments image) n 0) (omega arith) ∙ is)) in
            ap (option_map (source_from files address)) found ∙ ap (λ one. Some (source_past (address - vmaddr image s) one)) part

pub some_and : {X : Type 0} (o : Option X) (P Q : X → Type 0) → ((x : X) → P x → Q x) → IsSomeAnd o P → IsSomeAnd o Q
some_and None P Q to h = h
some_and (Some x) P Q to h = to x h

pub some_both : {X : Type 0} (o : Option X) (P Q R : X → Type 0) → ((x : X) → Q x → R x) → IsSomeAnd o P → IsSomeAnd o Q → IsSomeAnd o (λ x. P x × R x)
some_both None P Q R to h also = h
some_both (Some x) P Q R to h also = (h, to x also)

pub on_err : {T E P : Type 0} (answer : Result T E) → P → OnErr answer P
on_err (Ok x) p = tt
on_err (Err e) p = p

-- room that is not found was asked for
pub no_room : {T E : Type 0} {count : ℕ} {e : E} (answer : Result T E) → (count ≡ 0 → IsOk answer) → answer ≡ Err e → 0 < count
no_room {count = count} answer succeeds is = elim (cases_lt 0 count) [
  | inl more ↦ more
  | inr none ↦ absurd (false≢true (subst IsOk is (succeeds (omega arith))))
]

pub err_for : {T E P Q : Type 0} → (P → Q) → (answer : Result T E) → OnErr answer P → OnErr answer Q
err_for to (Ok x) p = tt
err_for to (Err e) p = to p
