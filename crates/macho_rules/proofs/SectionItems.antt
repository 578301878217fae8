-- The sections of an opened image, one after the other.
use Rattle.std.proofs.Common.{◌≡◌, ℕ, ◌+◌, ◌*◌, ◌≤◌, ◌<◌, List, [], ◌∷◌, map, Contains, refl, sym, ap, subst, arith, inl, inr}
use Rattle.std.specs.Prelude.{flat_map}
use Rattle.std.proofs.lemmas.List.Elements.{Contains-append_left, Contains-append_right, Contains-append_cases}
use Rattle.macho_fields.proofs.Lists.{none_in_nil, contains_first, contains_later, first_or_later, contains_mapped}
use Rattle.macho_fields.specs.Image.{commands_of}
use Rattle.macho_fields.specs.Segment.{segments_of, sections_in, nsects, AtSection}
use Rattle.macho_fields.specs.Rules.{BreaksCommands}
use Rattle.macho_fields.specs.declared.rule.Rule.{Rule}
use Rattle.macho_fields.specs.declared.header.loader.TheConstants as loader
use Rattle.macho_fields.proofs.Opened.{sections_inside}
use Rattle.macho_fields.proofs.Parts.{with_cmd_is, with_cmd_among}
use Rattle.macho_image.specs.Opened.{IsOpened}
use Rattle.macho_image.specs.Segment.{SectionView, section_at, sections_with, sections_of}
use Rattle.macho_rules.specs.Survey.{BreaksSection, IsSectionRule}
use Rattle.macho_rules.proofs.Searches.{mapped_has, has_number, numbers_rise, Ordered}
use Rattle.macho_fields.proofs.FirstPlaces.{AreBreaks}
use Rattle.macho_rules.proofs.Searches.{ordered_append, ordered_map, Rising, are_breaks_at, are_breaks_as, any_of, one_of}
use Rattle.macho_rules.proofs.Judged.{opened_facts, opened_commands}
use Rattle.macho_rules.proofs.SegmentItems.{EndsBefore, segments_spread}

-- each section of a segment has a number
numbered : (image : List ℕ) (segment place : ℕ) → Contains (sections_in image segment) place → (k : ℕ) × (k < nsects image segment) × (place ≡ segment + 72 + 80 * k)
numbered image segment place has = let (k, low, high, at) = has_number (λ k. segment + 72 + 80 * k) 0 (nsects image segment) place has in (k, omega arith, sym at)

-- the sections of a segment come after its command begins
pub after_segment : (image : List ℕ) (segment place : ℕ) → Contains (sections_in image segment) place → segment ≤ place
after_segment image segment place has = let (k, _, at) = numbered image segment place has in omega arith

pub sections_rise : (image : List ℕ) (segment : ℕ) → Ordered (λ (a b : ℕ × ℕ). a.1 ≤ b.1) (sections_with image segment)
sections_rise image segment =
    ordered_map (λ (a b : ℕ × ℕ). a.1 ≤ b.1) (λ section. (segment, section)) (sections_in image segment) (numbers_rise (λ k. segment + 72 + 80 * k) (λ i k less. omega arith) 0 (nsects image segment))

pub with_segment : (image : List ℕ) (segment : ℕ) (pair : ℕ × ℕ) → Contains (sections_with image segment) pair → (pair.0 ≡ segment) × Contains (sections_in image segment) pair.1
with_segment image segment pair has =
    let (p, among, at) = mapped_has (λ section. (segment, section)) (sections_in image segment) pair has in
    (ap (λ (q : ℕ × ℕ). q.0) (sym at), subst (λ (q : ℕ × ℕ). Contains (sections_in image segment) q.1) at among)

module _ (image : List ℕ) (opened : IsOpened image) where
  -- the sections of a segment come before a later segment
  pub section_before : (a b p : ℕ) → Contains (segments_of image (commands_of image)) a → EndsBefore image a b → Contains (sections_in image a) p → p ≤ b
  section_before a b p has apart in_a =
      let (i, within, at_p) = numbered image a p in_a in
      let holds = sections_inside image (commands_of image) (opened_facts image opened) (opened_commands image opened) a (with_cmd_among image (commands_of image) loader.LC_SEGMENT_64 a has)
      (with_cmd_is image (commands_of image) loader.LC_SEGMENT_64 a has) in
      omega (arith, within, at_p, holds, apart)

  from_segments : (segments : List ℕ) (pair : ℕ × ℕ) → Contains (flat_map (sections_with image) segments) pair → Contains segments pair.0 × Contains (sections_in image pair.0) pair.1
  from_segments [] pair has = absurd (none_in_nil pair has)
  from_segments (x ∷ xs) pair has =
      elim (Contains-append_cases (sections_with image x) (flat_map (sections_with image) xs) pair has) [
        | inl here ↦ (let (same, among) = with_segment image x pair here in
            (subst (Contains (x ∷ xs)) (sym same) (contains_first x xs), subst (λ s. Contains (sections_in image s) pair.1) (sym same) among))
        | inr later ↦ (let (has_segment, among) = from_segments xs pair later in (contains_later x pair.0 xs has_segment, among))
      ]

  to_segments : (segments : List ℕ) (segment section : ℕ) → Contains segments segment → Contains (sections_in image segment) section
      → Contains (flat_map (sections_with image) segments) (segment, section)
  to_segments [] segment section has among = absurd (none_in_nil segment has)
  to_segments (x ∷ xs) segment section has among =
      elim (first_or_later x segment xs has) [
        | inl same ↦ Contains-append_left (sections_with image x) (flat_map (sections_with image) xs) (segment, section)
            (subst (λ s. Contains (sections_with image s) (segment, section)) (sym same) (contains_mapped (λ p. (segment, p)) (sections_in image segment) section among))
        | inr later ↦ Contains-append_right (sections_with image x) (flat_map (sections_with image) xs) (segment, section) (to_segments xs segment section later among)
      ]

  rise_from : (segments : List ℕ) → Ordered (EndsBefore image) segments → ((segment : ℕ) → Contains segments segment → Contains (segments_of image (commands_of image)) segment)
      → Ordered (λ (a b : ℕ × ℕ). a.1 ≤ b.1) (flat_map (sections_with image) segments)
  rise_from [] order among = tt
  rise_from (x ∷ xs) (first, rest) among =
      ordered_append (λ (a b : ℕ × ℕ). a.1 ≤ b.1) (sections_with image x) (flat_map (sections_with image) xs)
      (sections_rise image x)
      (rise_from xs rest (λ s has. among s (contains_later x s xs has)))
      (λ a b has_a has_b.
      let (same, in_x) = with_segment image x a has_a in
      let (later, in_b) = from_segments xs b has_b in
      let before : a.1 ≤ b.0 = section_before x b.0 a.1 (among x (contains_first x xs)) (first b.0 later) in_x in
      let after : b.0 ≤ b.1 = after_segment image b.0 b.1 in_b in omega (arith, before, after))

-- the sections of the image
abbrev pub AreSections : List ℕ → List SectionView → Type 0
AreSections image all = all ≡ map (section_at image) (sections_of image (commands_of image))

module _ (image : List ℕ) (all : List SectionView) (opened : IsOpened image) (are : AreSections image all) where
  pub sections_rising : Rising (λ s. s.place) all
  sections_rising =
      subst (Rising (λ s. s.place)) (sym are)
      (ordered_map (λ (s t : SectionView). s.place ≤ t.place) (section_at image) (sections_of image (commands_of image))
      (rise_from image opened (segments_of image (commands_of image)) (segments_spread image opened) (λ s has. has)))

  -- what breaks a rule of sections
  sections_break : (P : List ℕ → ℕ → ℕ → Type 0) → AreBreaks (AtSection image (commands_of image) (P image)) (λ s. s.place) (λ s. P s.image s.segment s.place) all
  sections_break P =
      subst (AreBreaks (AtSection image (commands_of image) (P image)) (λ s. s.place) (λ s. P s.image s.segment s.place)) (sym are)
      (are_breaks_at (AtSection image (commands_of image) (P image)) (λ (s : SectionView). s.place) (λ s. P s.image s.segment s.place) (section_at image) (sections_of image (commands_of image))
      (λ pair has here. let (segment, among) = from_segments image opened (segments_of image (commands_of image)) pair has in
      any_of (λ segment. Contains (sections_in image segment) pair.1 × P image segment pair.1) (segments_of image (commands_of image)) pair.0 segment (among, here))
      (λ place broken. let (segment, has, (among, here)) = one_of (λ segment. Contains (sections_in image segment) place × P image segment place) (segments_of image (commands_of image)) broken in
      ((segment, place), to_segments image opened (segments_of image (commands_of image)) segment place has among, here, refl)))

  pub section_rule_breaks : (r : Rule) → IsSectionRule image r → AreBreaks (BreaksCommands image (commands_of image) r) (λ s. s.place) (BreaksSection r) all
  section_rule_breaks r is = are_breaks_as is (sections_break (λ bytes segment section. BreaksSection r (section_at bytes (segment, section))))
