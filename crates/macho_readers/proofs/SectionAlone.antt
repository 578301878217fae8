-- The searches of the rule section-alone find its least place.
use Rattle.std.proofs.Common.{◌≡◌, ◌↔◌, ℕ, suc, zero, ◌+◌, ◌-◌, ◌*◌, ◌^◌, ◌≤◌, ◌<◌, ◌⊎◌, min, List, [], ◌∷◌, map, length, get_or, Contains, Bool, true, slice_get, Option, None, Some, IsTrue, refl, sym, ap, ◌∙◌, subst, arith, inl, inr}
use Rattle.std.specs.Prelude.{flat_map, nat_lt, IsPermutation, IfSome, if◌then◌else◌}
use Rattle.std.specs.List.{range_with_len}
use Rattle.std.specs.List.Sorted.{IsNonDecreasingBy}
use Rattle.std.specs.Option.{option_map}
use Rattle.std.proofs.lemmas.Option.{slice_get-get_or}
use Rattle.std.proofs.lemmas.Bool.{cases_lt, cases_order, cases_Bool, lt-ltb, ltb-true}
use Rattle.std.proofs.lemmas.List.{get_or_default, get_or-map, length-map}
use Rattle.std.proofs.lemmas.List.Elements.{Contains-get_or}
use Rattle.std.proofs.lemmas.List.Sorted.{Contains-permutation, IsPermutation-sym}
use Rattle.macho_fields.specs.FirstPlace.{IsLeastPlace}
use Rattle.macho_fields.specs.Image.{commands_of}
use Rattle.macho_fields.specs.Layers.{NothingBreaks}
use Rattle.macho_fields.specs.NonZero.{HasNonZero}
use Rattle.macho_fields.specs.Rules.{BreaksImage}
use Rattle.macho_fields.specs.Segment.{all_segments, segments_of, sections_in, nsects, vmaddr, vmsize, fileoff, filesize, section_address, section_size, is_zero_fill, Source, File, Zero, Supplies, IsOutsideMemory}
use Rattle.macho_fields.specs.declared.rule.Rule.TheVariants as rule
use Rattle.macho_fields.proofs.Decided.{not_not, both_or_not, le_or_not}
use Rattle.macho_fields.proofs.Lists.{contains_later, contains_first, contains_mapped}
use Rattle.macho_image.specs.Opened.{IsOpened}
use Rattle.macho_image.specs.Segment.{SectionView, SegmentView, section_at, segment_at, sections_of, sections_with}
use Rattle.macho_rules.specs.Mapped.{mapped_segments, memory_at, mapped_memory}
use Rattle.macho_rules.proofs.Judged.{opened_commands}
use Rattle.macho_rules.proofs.Mapped.{among_mapped, mapped_among, mapped_positive}
use Rattle.macho_rules.proofs.Searches.{Ordered, ordered_append, ordered_at, ordered_map, has_number, mapped_has, any_of, one_of}
use Rattle.macho_rules.proofs.SectionItems.{section_before, with_segment}
use Rattle.macho_rules.proofs.SegmentItems.{EndsBefore, segments_spread}
use Rattle.macho_rules.proofs.Verdicts.{unbroken_opened}
use Rattle.macho_spans.specs.Overlap.{span_at, IsLastBy, SharesEarlier, IsLeastSharing}
use Rattle.macho_spans.specs.Span.{Holds, Shares}
use Rattle.macho_spans.specs.declared.span.Span.{Span}
use Rattle.macho_tables.specs.Places.{lesser}
use Rattle.macho_tables.proofs.Places.{least_joined}
use Rattle.macho_readers.proofs.NamedSections.{of_segments}
use Rattle.macho_readers.specs.SectionAlone.{section_span, mapped_part, SharesMapped, MeetsSegment, IsOverMapped, TellsOverMapped, IsHiding}
use Rattle.macho_readers.specs.Sections.{AtSection, HasAddress, IsDebug, SharesAddress, HidesByte, IsAmbiguous, BreaksSectionAlone}

-- a place with P is a place with Q, and none with Q is below all with P
pub least_within : (P Q : ℕ → Type 0) (found : Option ℕ) → ((p : ℕ) → P p → Q p) → ((p : ℕ) → Q p → (q : ℕ) × (q ≤ p) × P q) → IsLeastPlace P found → IsLeastPlace Q found
least_within P Q None to from none = λ p broken. let (q, low, here) = from p broken in none q here
least_within P Q (Some first) to from (here, least) = (to first here, λ p broken. let (q, low, there) = from p broken in let up = least q there in omega (arith, low, up))

-- Sections stand at places that rise

numbers_above : (f : ℕ → ℕ) → ((i k : ℕ) → i < k → f i < f k) → (a n : ℕ) → Ordered (λ p q. p < q) (map f (range_with_len a n))
numbers_above f up a zero = tt
numbers_above f up a (suc n) = (λ y has. above y (has_number f (a + 1) n y has), numbers_above f up (a + 1) n)
  where
    above : (y : ℕ) → (k : ℕ) × (a + 1 ≤ k) × (k < a + 1 + n) × (f k ≡ y) → f a < y
    above y (k, low, high, at) = subst (λ z. f a < z) at (up a k (omega arith))

module _ (image : List ℕ) (opened : IsOpened image) where
  above_from : (segments : List ℕ) → Ordered (EndsBefore image) segments → ((segment : ℕ) → Contains segments segment → Contains (segments_of image (commands_of image)) segment)
      → Ordered (λ (a b : ℕ × ℕ). a.1 < b.1) (flat_map (sections_with image) segments)
  above_from [] order among = tt
  above_from (x ∷ xs) (first, rest) among =
      ordered_append (λ (a b : ℕ × ℕ). a.1 < b.1) (sections_with image x) (flat_map (sections_with image) xs)
      (ordered_map (λ (a b : ℕ × ℕ). a.1 < b.1) (λ section. (x, section)) (sections_in image x) (numbers_above (λ k. x + 72 + 80 * k) (λ i k less. omega arith) 0 (nsects image x)))
      (above_from xs rest (λ s has. among s (contains_later x s xs has)))
      (λ a b has_a has_b.
      let (same, in_x) = with_segment image x a has_a in
      let (later, in_b) = of_segments image xs b has_b in
      let before : a.1 ≤ b.0 = section_before image opened x b.0 a.1 (among x (contains_first x xs)) (first b.0 later) in_x in
      let (k, _, _, at) = has_number (λ k. b.0 + 72 + 80 * k) 0 (nsects image b.0) b.1 in_b in omega (arith, before, at))

  pub sections_above : Ordered (λ (a b : ℕ × ℕ). a.1 < b.1) (sections_of image (commands_of image))
  sections_above = above_from (segments_of image (commands_of image)) (segments_spread image opened) (λ s has. has)

-- Of the mapped segments, the last that begins by the last address of a span

module _ (image : List ℕ) (keeps : NothingBreaks (BreaksImage image None)) where
  -- an address has one segment
  before_apart : (p q address : ℕ) → Contains (all_segments image) p → Contains (all_segments image) q → Supplies image p address → Supplies image q address → p < q → ⊥
  before_apart p q address has_p has_q here there less =
      keeps rule.SegmentOverlap q (inr (commands_of image, opened_commands image (unbroken_opened image keeps), (has_q, any_of _ _ p has_p (less, (address, here, there)))))

  one_segment : (p q address : ℕ) → Contains (all_segments image) p → Contains (all_segments image) q → Supplies image p address → Supplies image q address → p ≡ q
  one_segment p q address has_p has_q here there = elim (cases_order p q) [
    | inl same ↦ same
    | inr (inl less) ↦ absurd (before_apart p q address has_p has_q here there less)
    | inr (inr more) ↦ absurd (before_apart q p address has_q has_p there here more)
  ]

  near : (q : ℕ) → Contains (all_segments image) q → {address : ℕ} → Supplies image q address → vmaddr image q < 2 ^ 64
  near q has here = elim (cases_lt (2 ^ 64) (vmaddr image q + vmsize image q)) [
    | inl past ↦ absurd (keeps rule.SegmentAddress q (inr (commands_of image, opened_commands image (unbroken_opened image keeps), (has, past))))
    | inr within ↦ omega (arith, within, here.0, here.1)
  ]

  module _ (spans : List Span) (moved : IsPermutation (mapped_memory image) spans) (rising : IsNonDecreasingBy (λ span. span.start) spans) (span : Span) (some : 0 < span.len) (last : ℕ)
      (least : last ≤ span.start + (span.len - 1)) (most : (p : ℕ) → p < 2 ^ 64 → p ≤ span.start + (span.len - 1) → p ≤ last) where
    abbrev no_span : Span
    no_span = record { start = 0; len = 0 }

    -- a segment that has an address of the span is listed, and begins by the last address
    listed : (q address : ℕ) → Contains (all_segments image) q → Holds span address → Supplies image q address
        → (j : ℕ) × (j < length spans) × (span_at spans j ≡ memory_at image q) × (vmaddr image q ≤ last)
    listed q address has within here =
        let (j, less, at) = Contains-permutation (mapped_memory image) spans (memory_at image q) moved (contains_mapped (memory_at image) (mapped_segments image) q (among_mapped image q has (omega (arith, here.0, here.1)))) in
        (j, less, get_or_default spans j no_span (memory_at image q) less ∙ at, most (vmaddr image q) (near q has here) (omega (arith, within.1, here.0, some)))

    pub met_some : (found : Span) → IsLastBy spans last (Some found) → Shares found span ↔ MeetsSegment image span
    met_some found (k, less, is, by, after) = (to, from)
      where
        its : (p : ℕ) × Contains (mapped_segments image) p × (memory_at image p ≡ found)
        its = mapped_has (memory_at image) (mapped_segments image) found (Contains-permutation spans (mapped_memory image) found (IsPermutation-sym (mapped_memory image) spans moved) (k, less, get_or_default spans k found no_span less ∙ is))

        to : Shares found span → MeetsSegment image span
        to (address, here, there) = any_of (λ segment. (a : ℕ) × Holds span a × Supplies image segment a) (all_segments image) its.0 (mapped_among image its.0 its.1)
            (address, there, subst (λ (s : Span). Holds s address) (sym its.2) here)

        from : MeetsSegment image span → Shares found span
        from any =
            let (q, has, (address, within, here)) = one_of (λ segment. (a : ℕ) × Holds span a × Supplies image segment a) (all_segments image) any in
            let (j, below, at, begins) = listed q address has within here in
            let at_start : (span_at spans j).start ≡ vmaddr image q = ap (λ (s : Span). s.start) at in
            let its_start : found.start ≡ vmaddr image its.0 = ap (λ (s : Span). s.start) (sym its.2) in
            let its_len : found.len ≡ vmsize image its.0 = ap (λ (s : Span). s.len) (sym its.2) in
            let is_start : (span_at spans k).start ≡ found.start = ap (λ (s : Span). s.start) is in
            let positive = mapped_positive image its.0 its.1 in
            let up : (span_at spans j).start ≤ (span_at spans k).start = elim (cases_lt k j) [
              | inl beyond ↦ absurd (let far = after j beyond below in omega (arith, far, at_start, begins))
              | inr most ↦ rising j k no_span most less
            ] in
            elim (cases_lt address found.start) [
              | inl past ↦ (found.start, (omega arith, omega (arith, its_len, positive)), (omega (arith, within.0, past), omega (arith, by, least, some)))
              | inr reach ↦
                  let same = one_segment its.0 q found.start (mapped_among image its.0 its.1) has (omega (arith, its_start), omega (arith, its_start, its_len, positive)) (omega (arith, up, at_start, is_start), omega (arith, reach, here.1)) in
                  (address, subst (λ (s : Span). Holds s address) (ap (memory_at image) (sym same) ∙ its.2) here, within)
            ]

    pub met_none : IsLastBy spans last None → ¬ MeetsSegment image span
    met_none after any =
        let (q, has, (address, within, here)) = one_of (λ segment. (a : ℕ) × Holds span a × Supplies image segment a) (all_segments image) any in
        let (j, below, at, begins) = listed q address has within here in
        let at_start : (span_at spans j).start ≡ vmaddr image q = ap (λ (s : Span). s.start) at in
        let far = after j below in omega (arith, far, at_start, begins)

-- The whole rule

module _ (image : List ℕ) (keeps : NothingBreaks (BreaksImage image None)) where
  abbrev sections : List (ℕ × ℕ)
  sections = sections_of image (commands_of image)

  -- a section with an address there is one of a mapped segment
  part_of : (section : ℕ × ℕ) (address : ℕ) → Holds (mapped_part image section) address → (0 < vmsize image section.0) × HasAddress image section address
  part_of section address here = elim (cases_lt 0 (vmsize image section.0)) [
    | inl some ↦ (some, rw (lt-ltb 0 (vmsize image section.0) some) at here)
    | inr none ↦ absurd (let no : vmsize image section.0 ≡ 0 = omega (arith, none) in empty (rw no at here))
  ]
    where
      empty : Holds (record { start = 0; len = 0 }) address → ⊥
      empty (_, past) = omega (arith, past)

  part_has : (section : ℕ × ℕ) (address : ℕ) → 0 < vmsize image section.0 → HasAddress image section address → Holds (mapped_part image section) address
  part_has section address some at = rw (lt-ltb 0 (vmsize image section.0) some) at

  -- a section of a mapped segment is inside it
  inside : (section : ℕ × ℕ) → Contains sections section → 0 < vmsize image section.0 → 0 < section_size image section.1
      → (vmaddr image section.0 ≤ section_address image section.1) × (section_address image section.1 + section_size image section.1 ≤ vmaddr image section.0 + vmsize image section.0)
  inside section has mapped some =
      let opened = unbroken_opened image keeps in
      let (has_segment, among) = of_segments image (segments_of image (commands_of image)) section has in
      not_not (both_or_not (le_or_not (vmaddr image section.0) (section_address image section.1)) (le_or_not (section_address image section.1 + section_size image section.1) (vmaddr image section.0 + vmsize image section.0)))
      (λ out. keeps rule.SectionAddress section.1 (inr (
        commands_of image,
        opened_commands image opened,
        any_of (λ segment. Contains (sections_in image segment) section.1 × IsOutsideMemory image segment section.1) (segments_of image (commands_of image)) section.0 has_segment (among, (mapped, some, out)),
      )))

  module _ (end : Option ℕ) (shared : IsLeastPlace (AtSection image (SharesMapped image)) end) where
    abbrev pub Searched : ℕ → Type 0
    Searched place = AtSection image (SharesMapped image) place ⊎ (AtSection image (IsOverMapped image image) place ⊎ AtSection image (IsHiding end image) place)

    abbrev Bad : ℕ × ℕ → Type 0
    Bad section = (0 < section_size image section.1) × (¬ IsDebug image section) × IsAmbiguous image section

    breaks : (place : ℕ) → Searched place → BreaksSectionAlone image place
    breaks place (inl at) =
        let (s, has, (is, any)) = one_of (λ s. (place ≡ s.1) × SharesMapped image s) sections at in
        let (e, has_e, (less, (address, in_e, in_s))) = one_of (λ e. (e.1 < s.1) × Shares (mapped_part image e) (mapped_part image s)) sections any in
        let (mapped_e, at_e) = part_of e address in_e in
        let (mapped_s, at_s) = part_of s address in_s in
        any_of (λ s. (place ≡ s.1) × Bad s) sections s has (
          is,
          (
            omega (arith, at_s.0, at_s.1),
            (λ debug. let no = debug.0 in omega (arith, no, mapped_s)),
            inl (
              mapped_s,
              inl (any_of (λ earlier. (earlier.1 < s.1) × (¬ IsDebug image earlier) × ((a : ℕ) × HasAddress image earlier a × HasAddress image s a)) sections e has_e
                  (less, (λ debug. let no = debug.0 in omega (arith, no, mapped_e)), (address, at_e, at_s))),
            ),
          ),
        )
    breaks place (inr (inl at)) =
        let (s, has, (is, (unmapped, some, looked, over))) = one_of (λ s. (place ≡ s.1) × IsOverMapped image image s) sections at in
        any_of (λ s. (place ≡ s.1) × Bad s) sections s has (is, (some, looked, inr (unmapped, over)))
    breaks place (inr (inr at)) =
        let (s, has, (is, (before, mapped, some, low, hides))) = one_of (λ s. (place ≡ s.1) × IsHiding end image s) sections at in
        any_of (λ s. (place ≡ s.1) × Bad s) sections s has (is, (some, (λ debug. let no = debug.0 in omega (arith, no, mapped)), inl (mapped, inr hides)))

    hidden : (found : Option ℕ) → found ≡ end → IsLeastPlace (AtSection image (SharesMapped image)) found → (s : ℕ × ℕ) → Contains sections s → 0 < vmsize image s.0 → 0 < section_size image s.1 → HidesByte image s
        → (q : ℕ) × (q ≤ s.1) × Searched q
    hidden None same none s has mapped some hides =
        (s.1, omega arith, inr (inr (any_of (λ t. (s.1 ≡ t.1) × IsHiding end image t) sections s has (refl, (subst (λ e. IfSome e (λ end. s.1 < end)) same tt, mapped, some, (inside s has mapped some).0, hides)))))
    hidden (Some first) is (here, least) s has mapped some hides = elim (cases_lt s.1 first) [
      | inl less ↦ (s.1, omega arith, inr (inr (any_of (λ t. (s.1 ≡ t.1) × IsHiding end image t) sections s has (refl, (subst (λ e. IfSome e (λ end. s.1 < end)) is less, mapped, some, (inside s has mapped some).0, hides)))))
      | inr more ↦ (first, more, inl here)
    ]

    searched : (place : ℕ) → BreaksSectionAlone image place → (q : ℕ) × (q ≤ place) × Searched q
    searched place at =
        let (s, has, (is, (some, looked, ambiguous))) = one_of (λ s. (place ≡ s.1) × Bad s) sections at in
        subst (λ p. (q : ℕ) × (q ≤ p) × Searched q) (sym is) (elim ambiguous [
          | inl both ↦ elim both.1 [
            | inl any ↦ shares s has both.0 any
            | inr hides ↦ hidden end refl shared s has both.0 some hides
          ]
          | inr both ↦ (s.1, omega arith, inr (inl (any_of (λ t. (s.1 ≡ t.1) × IsOverMapped image image t) sections s has (refl, (both.0, some, looked, both.1)))))
        ])
      where
        shares : (s : ℕ × ℕ) → Contains sections s → 0 < vmsize image s.0 → SharesAddress image s → (q : ℕ) × (q ≤ s.1) × Searched q
        shares s has mapped any =
            let (e, has_e, (less, looked, (address, at_e, at_s))) = one_of (λ e. (e.1 < s.1) × (¬ IsDebug image e) × ((a : ℕ) × HasAddress image e a × HasAddress image s a)) sections any in
            elim (cases_lt 0 (vmsize image e.0)) [
              | inl more ↦ (
                s.1,
                omega arith,
                inl (any_of (λ t. (s.1 ≡ t.1) × SharesMapped image t) sections s has (
                  refl,
                  any_of (λ e. (e.1 < s.1) × Shares (mapped_part image e) (mapped_part image s)) sections e has_e (less, (address, part_has e address more at_e, part_has s address mapped at_s)),
                )),
              )
              | inr none ↦
                  let within = inside s has mapped (omega (arith, at_s.0, at_s.1)) in
                  let has_segment = (of_segments image (segments_of image (commands_of image)) s has).0 in (
                    e.1,
                    omega (arith, less),
                    inr (inl (any_of (λ t. (e.1 ≡ t.1) × IsOverMapped image image t) sections e has_e (
                      refl,
                      (
                        omega (arith, none),
                        omega (arith, at_e.0, at_e.1),
                        looked,
                        any_of (λ segment. (a : ℕ) × Holds (section_span image e) a × Supplies image segment a) (all_segments image) s.0 has_segment (address, at_e, (omega (arith, within.0, at_s.0), omega (arith, within.1, at_s.1))),
                      ),
                    ))),
                  )
            ]

    pub least_alone : (over hiding : Option ℕ) → IsLeastPlace (AtSection image (IsOverMapped image image)) over → IsLeastPlace (AtSection image (IsHiding end image)) hiding
        → IsLeastPlace (BreaksSectionAlone image) (lesser end (lesser over hiding))
    least_alone over hiding is_over is_hiding =
        least_within Searched (BreaksSectionAlone image) (lesser end (lesser over hiding)) breaks searched
        (least_joined (AtSection image (SharesMapped image)) (λ place. AtSection image (IsOverMapped image image) place ⊎ AtSection image (IsHiding end image) place) end (lesser over hiding) shared
        (least_joined (AtSection image (IsOverMapped image image)) (AtSection image (IsHiding end image)) over hiding is_over is_hiding))

-- as they are listed
pub parts_of : (image : List ℕ) (pairs : List (ℕ × ℕ)) → map (λ (s : SectionView). mapped_part s.image (s.segment, s.place)) (map (section_at image) pairs) ≡ map (mapped_part image) pairs
parts_of image [] = refl
parts_of image (p ∷ ps) = ap (λ rest. mapped_part image p ∷ rest) (parts_of image ps)

-- The first part that shares an address with an earlier one

module _ (image : List ℕ) (opened : IsOpened image) where
  abbrev all_sections : List (ℕ × ℕ)
  all_sections = sections_of image (commands_of image)

  abbrev parts : List Span
  parts = map (mapped_part image) all_sections

  part_is : (i : ℕ) → i < length all_sections → span_at parts i ≡ mapped_part image (get_or all_sections i (0, 0))
  part_is i less = get_or-map (mapped_part image) all_sections i (0, 0) (record { start = 0; len = 0 }) less

  above : (i j : ℕ) → i < j → j < length all_sections → (get_or all_sections i (0, 0)).1 < (get_or all_sections j (0, 0)).1
  above i j less within = ordered_at (λ (a b : ℕ × ℕ). a.1 < b.1) all_sections (0, 0) i j (sections_above image opened) less within

  at_index : (place : ℕ) → AtSection image (SharesMapped image) place → (j : ℕ) × (j < length all_sections) × ((get_or all_sections j (0, 0)).1 ≡ place) × SharesEarlier parts j
  at_index place (j, s, within, at, (is, (i, e, below, at_e, (less, shares)))) = (j, within, ap (λ (p : ℕ × ℕ). p.1) here ∙ sym is, (omega (arith, within, length-map all_sections (mapped_part image)), (i, before, both)))
    where
      here : get_or all_sections j (0, 0) ≡ s
      here = get_or_default all_sections j (0, 0) s within ∙ at

      there : get_or all_sections i (0, 0) ≡ e
      there = get_or_default all_sections i (0, 0) e below ∙ at_e

      lower : (get_or all_sections i (0, 0)).1 < (get_or all_sections j (0, 0)).1
      lower = rw (here, there) less

      before : i < j
      before = elim (cases_order i j) [
        | inl same ↦ absurd (let one = ap (λ n. (get_or all_sections n (0, 0)).1) same in omega (arith, one, lower))
        | inr (inl first) ↦ first
        | inr (inr after) ↦ absurd (let wrong = above j i after below in omega (arith, wrong, lower))
      ]

      both : Shares (span_at parts i) (span_at parts j)
      both = rw (part_is i below, part_is j within, here, there) shares

  of_index : (j : ℕ) → SharesEarlier parts j → AtSection image (SharesMapped image) (get_or all_sections j (0, 0)).1
  of_index j (inside, (i, less, shares)) =
      let within : j < length all_sections = omega (arith, inside, length-map all_sections (mapped_part image)) in
      let s = get_or all_sections j (0, 0) in
      let e = get_or all_sections i (0, 0) in
      let here : Shares (mapped_part image e) (mapped_part image s) = rw (part_is i (omega (arith, less, within)), part_is j within) at shares in
      any_of (λ t. (s.1 ≡ t.1) × SharesMapped image t) all_sections s (Contains-get_or all_sections j (0, 0) within) (
        refl,
        any_of (λ t. (t.1 < s.1) × Shares (mapped_part image t) (mapped_part image s)) all_sections e (Contains-get_or all_sections i (0, 0) (omega (arith, less, within))) (above i j less within, here),
      )

  pub least_shared : (j : ℕ) (found : Option SectionView) → found ≡ option_map (section_at image) (slice_get all_sections j) → (spans : List Span) → spans ≡ parts → IsLeastSharing spans j
      → IsLeastPlace (AtSection image (SharesMapped image)) (option_map (λ (s : SectionView). s.place) found)
  least_shared j found is spans are given =
      subst (λ (r : Option SectionView). IsLeastPlace (AtSection image (SharesMapped image)) (option_map (λ (s : SectionView). s.place) r)) (sym (is ∙ ap (option_map (section_at image)) (slice_get-get_or all_sections j (0, 0) within)))
      (of_index j sharing.0, least)
    where
      sharing : IsLeastSharing parts j
      sharing = subst (λ those. IsLeastSharing those j) are given

      within : j < length all_sections
      within = omega (arith, sharing.0.0, length-map all_sections (mapped_part image))

      least : (q : ℕ) → AtSection image (SharesMapped image) q → (get_or all_sections j (0, 0)).1 ≤ q
      least q broken =
          let (k, below, here, shares) = at_index q broken in
          elim (cases_order j k) [
            | inl same ↦ let one = ap (λ n. (get_or all_sections n (0, 0)).1) same in omega (arith, here, one)
            | inr (inl apart) ↦ let up = above j k apart below in omega (arith, here, up)
            | inr (inr lower) ↦ absurd (sharing.1 k lower shares)
          ]

  pub none_shared : (spans : List Span) → spans ≡ parts → ((j : ℕ) → ¬ SharesEarlier spans j) → (place : ℕ) → ¬ AtSection image (SharesMapped image) place
  none_shared spans are none place broken =
      let (j, within, here, shares) = at_index place broken in
      none j (subst (λ those. SharesEarlier those j) (sym are) shares)

-- The bytes of the file under a section

place_in : Source → ℕ
place_in (File place) = place
place_in Zero = 0

module _ (image : List ℕ) (segment section : ℕ) (low : vmaddr image segment ≤ section_address image section) (fill : is_zero_fill image section ≡ true) where
  abbrev HasByte : Type 0
  HasByte = HasNonZero image (fileoff image segment + (section_address image section - vmaddr image segment))
      (fileoff image segment + min (section_address image section - vmaddr image segment + section_size image section) (filesize image segment))

  from_source : (past place : ℕ) → (if nat_lt past (filesize image segment) then File (fileoff image segment + past) else Zero) ≡ File place → (past < filesize image segment) × (place ≡ fileoff image segment + past)
  unfolding place_in
  from_source past place is = elim (cases_Bool (nat_lt past (filesize image segment))) [
    | inl less ↦ (ltb-true past (filesize image segment) less, let at : File (fileoff image segment + past) ≡ File place = rw less at is in sym (ap place_in at))
    | inr most ↦ absurd (let at : Zero ≡ File place = rw most at is in cc)
  ]

  pub hides : HasByte ↔ HidesByte image (segment, section)
  hides = (
    λ (place, lower, below, byte).
        let past : ℕ = place - fileoff image segment in
        let less : vmaddr image segment + past - vmaddr image segment < filesize image segment = omega (arith, lower, below) in (
          fill,
          (
            vmaddr image segment + past,
            place,
            (omega (arith, lower, below, low), omega (arith, lower, below, low)),
            rw (lt-ltb _ _ less) (ap (λ p. File p) (omega (arith, lower))),
            byte,
          ),
        ),
    λ (_, (address, place, at, is, byte)).
        let (less, same) = from_source (address - vmaddr image segment) place is in
        (place, omega (arith, same, at.0, low), omega (arith, same, less, at.1, low), byte),
  )

-- as it is asked: of the segment, with numbers that were read
pub hides_asked : (image : List ℕ) (segment section : ℕ) → vmaddr image segment ≤ section_address image section → is_zero_fill image section ≡ true
    → (view : SegmentView) → view ≡ segment_at image segment → (start base len : ℕ) → start ≡ section_address image section → base ≡ vmaddr view.image view.place → len ≡ section_size image section
    → (is : Bool) → IsTrue is ↔ HasNonZero view.image (fileoff view.image view.place + (start - base)) (fileoff view.image view.place + min (start - base + len) (filesize view.image view.place))
    → IsTrue is ↔ HidesByte image (segment, section)
hides_asked image segment section low fill view same start base len at_start at_base at_len is tells =
    let of_view : (v : SegmentView) (s b l : ℕ) → Type 0 = λ v s b l. IsTrue is ↔ HasNonZero v.image (fileoff v.image v.place + (s - b)) (fileoff v.image v.place + min (s - b + l) (filesize v.image v.place)) in
    let read = subst (λ (l : ℕ). of_view view (section_address image section) (vmaddr view.image view.place) l) at_len (subst (λ (b : ℕ). of_view view (section_address image section) b len) at_base (subst (λ (s : ℕ). of_view view s base len) at_start tells)) in
    let here = subst (λ (v : SegmentView). of_view v (section_address image section) (vmaddr v.image v.place) (section_size image section)) same read in
    let both = hides image segment section low fill in
    (λ true_is. both.0 (here.0 true_is), λ hidden. here.1 (both.1 hidden))

pub told : (is : Bool) (spans : List Span) (bytes : List ℕ) (section : ℕ × ℕ) (image : List ℕ) → NothingBreaks (BreaksImage image None) → IsPermutation (mapped_memory image) spans
    → IsNonDecreasingBy (λ span. span.start) spans → TellsOverMapped is spans bytes section → IsTrue is ↔ IsOverMapped image bytes section
unfolding TellsOverMapped
told is spans bytes section image keeps moved rising tells = tells image keeps moved rising
