-- The segments before a place, which are counted, and the ones with sections.
use Rattle.std.proofs.Common.{◌≡◌, ◌∙◌, ℕ, ◌+◌, ◌^◌, ◌≤◌, ◌<◌, List, [], ◌∷◌, ◌++◌, map, filter, length, get_or, drop, Bool, true, false, ap, append_assoc, arith, inl, inr, length-append, refl, subst, sym}
use Rattle.std.specs.Prelude.{nat_lt}
use Rattle.std.proofs.lemmas.Bool.{le-ltb, lt-ltb}
use Rattle.std.proofs.lemmas.List.{append-nil}
use Rattle.std.proofs.lemmas.List.Elements.{filter-append}
use Rattle.std.proofs.lemmas.List.Sums.{count_by-le-length, length-filter}
use Rattle.macho_fields.specs.Segment.{all_segments, nsects}
use Rattle.macho_image.specs.Opened.{IsOpened}
use Rattle.macho_image.specs.Segment.{SegmentView, segment_at}
use Rattle.macho_tables.proofs.Roomy.{segments_few}
use Rattle.macho_readers.proofs.Shifted.{IsFirstRun}
use Rattle.macho_readers.specs.Order.{earlier_runs, segment_number, IsRunNumber}

abbrev sectioned : List ℕ → ℕ → Bool
sectioned image segment = nat_lt 0 (nsects image segment)

-- those before the place
abbrev earlier : ℕ → List ℕ → List ℕ
earlier place segments = filter (λ s. nat_lt s place) segments

pub record AreCounted (image : List ℕ) (views : List SegmentView) (place number run : ℕ) : Type 0 where
  pub seen : List ℕ
  pub left : List ℕ
  pub first : ℕ
  pub all : all_segments image ≡ seen ++ left
  pub are : views ≡ map (segment_at image) left
  pub number_is : number ≡ length (earlier place seen)
  pub first_is : IsFirstRun image first
  pub run_is : run ≡ length (filter (sectioned image) (earlier place seen)) + first

pub counted_none : (image : List ℕ) (place : ℕ) (these : List SegmentView) (first : ℕ) → these ≡ map (segment_at image) (all_segments image) → IsFirstRun image first
    → AreCounted image these place 0 first
counted_none image place these first are is = record {
  seen = [];
  left = all_segments image;
  first = first;
  all = refl;
  are = are;
  number_is = refl;
  first_is = is;
  run_is = omega arith;
}

-- the next view is of the next segment
split : (image places : List ℕ) (v : SegmentView) (rest : List SegmentView) → map (segment_at image) places ≡ v ∷ rest
    → (p : ℕ) × (ps : List ℕ) × (places ≡ p ∷ ps) × (v ≡ segment_at image p) × (rest ≡ map (segment_at image) ps)
split image [] v rest is = absurd (cc)
split image (p ∷ ps) v rest is = (p, ps, refl, sym (ap (λ (these : List SegmentView). get_or these 0 v) is), sym (ap (λ (these : List SegmentView). drop 1 these) is))

kept_few : (test : ℕ → Bool) (xs : List ℕ) → length (filter test xs) ≤ length xs
kept_few test xs = let kept = length-filter test xs in let few = count_by-le-length test xs in omega (arith, kept, few)

module _ {image : List ℕ} {views : List SegmentView} {place number run : ℕ} (counted : AreCounted image views place number run) where
  module _ (v : SegmentView) (rest : List SegmentView) (next : views ≡ v ∷ rest) where
    its : (p : ℕ) × (ps : List ℕ) × (counted.left ≡ p ∷ ps) × (v ≡ segment_at image p) × (rest ≡ map (segment_at image) ps)
    its = split image counted.left v rest (sym counted.are ∙ next)

    abbrev before : List ℕ
    before = earlier place counted.seen

    last : earlier place (counted.seen ++ its.0 ∷ []) ≡ before ++ earlier place (its.0 ∷ [])
    last = filter-append (λ s. nat_lt s place) counted.seen (its.0 ∷ [])

    more : (n now : ℕ) → n ≡ length (earlier place (counted.seen ++ its.0 ∷ [])) → now ≡ length (filter (sectioned image) (earlier place (counted.seen ++ its.0 ∷ []))) + counted.first
        → AreCounted image rest place n now
    more n now number_now run_now = record {
      seen = counted.seen ++ its.0 ∷ [];
      left = its.1;
      first = counted.first;
      all = counted.all ∙ (ap (λ (these : List ℕ). counted.seen ++ these) its.2 ∙ sym (append_assoc counted.seen (its.0 ∷ []) its.1));
      are = its.4;
      number_is = number_now;
      first_is = counted.first_is;
      run_is = run_now;
    }

    -- a segment that is not before the place
    pub past : place ≤ v.place → AreCounted image rest place number run
    past late =
        let out : nat_lt its.0 place ≡ false = le-ltb its.0 place (subst (λ (w : SegmentView). place ≤ w.place) its.3 late) in
        let none : earlier place (its.0 ∷ []) ≡ [] = rw out refl in
        let all : earlier place (counted.seen ++ its.0 ∷ []) ≡ before = last ∙ (ap (λ (these : List ℕ). before ++ these) none ∙ append-nil before) in
        more number run (counted.number_is ∙ ap length (sym all)) (counted.run_is ∙ ap (λ (these : List ℕ). length (filter (sectioned image) these) + counted.first) (sym all))

    module _ (less : v.place < place) where
      all : earlier place (counted.seen ++ its.0 ∷ []) ≡ before ++ its.0 ∷ []
      all =
          let below : nat_lt its.0 place ≡ true = lt-ltb its.0 place (subst (λ (w : SegmentView). w.place < place) its.3 less) in
          let one : earlier place (its.0 ∷ []) ≡ its.0 ∷ [] = rw below refl in
          last ∙ ap (λ (these : List ℕ). before ++ these) one

      one_more : number + 1 ≡ length (earlier place (counted.seen ++ its.0 ∷ []))
      one_more = let size = ap length all ∙ length-append before (its.0 ∷ []) in let at = counted.number_is in omega (arith, size, at)

      runs : length (filter (sectioned image) (earlier place (counted.seen ++ its.0 ∷ []))) ≡ length (filter (sectioned image) before) + length (filter (sectioned image) (its.0 ∷ []))
      runs = ap (λ (these : List ℕ). length (filter (sectioned image) these)) all ∙ (ap length (filter-append (sectioned image) before (its.0 ∷ [])) ∙ length-append (filter (sectioned image) before) (filter (sectioned image) (its.0 ∷ [])))

      pub with_sections : 0 < nsects v.image v.place → AreCounted image rest place (number + 1) (run + 1)
      with_sections some =
          let has : sectioned image its.0 ≡ true = lt-ltb 0 (nsects image its.0) (subst (λ (w : SegmentView). 0 < nsects w.image w.place) its.3 some) in
          let one : length (filter (sectioned image) (its.0 ∷ [])) ≡ 1 = rw has refl in
          more (number + 1) (run + 1) one_more (let at = counted.run_is in omega (arith, runs, one, at))

      pub without_sections : nsects v.image v.place ≤ 0 → AreCounted image rest place (number + 1) run
      without_sections none =
          let has : sectioned image its.0 ≡ false = le-ltb 0 (nsects image its.0) (subst (λ (w : SegmentView). nsects w.image w.place ≤ 0) its.3 none) in
          let nothing : length (filter (sectioned image) (its.0 ∷ [])) ≡ 0 = rw has refl in
          more (number + 1) run one_more (let at = counted.run_is in omega (arith, runs, nothing, at))

  -- the numbers fit
  pub number_fits : IsOpened image → length image < 2 ^ 64 → (number + 1 < 2 ^ 64) × (run + 1 < 2 ^ 64)
  number_fits opened short =
      let few = segments_few image opened short in
      let size = ap length counted.all ∙ length-append counted.seen counted.left in
      let numbers = counted.number_is in
      let runs = counted.run_is in
      let less = kept_few (λ s. nat_lt s place) counted.seen in
      let fewer = kept_few (sectioned image) (earlier place counted.seen) in
      let first : counted.first ≤ 1 = elim counted.first_is [ inl one ↦ let is = one.1 in omega (arith, is) | inr none ↦ let is = none.1 in omega (arith, is) ] in
      (omega (arith, few, size, numbers, less), omega (arith, few, size, runs, less, fewer, first))

  -- all segments were passed
  pub ended : views ≡ [] → (number ≡ segment_number image place) × IsRunNumber image place run
  ended over = (counted.number_is ∙ ap (λ (these : List ℕ). length (earlier place these)) (sym whole), either counted.first_is)
    where
      nothing : (places : List ℕ) → map (segment_at image) places ≡ [] → places ≡ []
      nothing [] is = refl
      nothing (p ∷ ps) is = absurd (cc)

      whole : all_segments image ≡ counted.seen
      whole = counted.all ∙ (ap (λ (these : List ℕ). counted.seen ++ these) (nothing counted.left (sym counted.are ∙ over)) ∙ append-nil counted.seen)

      runs : run ≡ earlier_runs image place + counted.first
      runs = counted.run_is ∙ ap (λ (these : List ℕ). length (filter (sectioned image) (earlier place these)) + counted.first) (sym whole)

      either : IsFirstRun image counted.first → IsRunNumber image place run
      either (inl (has, one)) = inl (has, runs ∙ ap (λ n. earlier_runs image place + n) one)
      either (inr (without, none)) = inr (without, runs ∙ (ap (λ n. earlier_runs image place + n) none ∙ omega arith))
