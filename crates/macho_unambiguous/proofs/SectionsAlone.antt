-- At an address of a segment is one section that readers look for.
use Rattle.std.proofs.Common.{◌≡◌, ℕ, ◌<◌, List, Any, Contains, refl, sym, ◌∙◌, arith, inl, inr}
use Rattle.std.proofs.lemmas.Bool.{cases_lt, cases_order}
use Rattle.macho_fields.specs.Image.{commands_of}
use Rattle.macho_fields.specs.Segment.{all_segments, vmsize, section_size, Supplies}
use Rattle.macho_image.specs.Segment.{sections_of}
use Rattle.macho_rules.proofs.Searches.{any_of, one_of}
use Rattle.macho_readers.specs.Models.{IsSectionAt, IsLookedFor, HasOneSectionAt}
use Rattle.macho_readers.specs.Sections.{IsDebug, HasAddress, IsAmbiguous, BreaksSectionAlone}

-- a section that readers look for is not ambiguous
pub not_ambiguous : (image : List ℕ) → ((place : ℕ) → ¬ BreaksSectionAlone image place) → (s : ℕ × ℕ) → Contains (sections_of image (commands_of image)) s → 0 < section_size image s.1 → ¬ IsDebug image s
    → ¬ IsAmbiguous image s
not_ambiguous image none s has some looked ambiguous =
    none s.1 (any_of (λ section. (s.1 ≡ section.1) × ((0 < section_size image section.1) × (¬ IsDebug image section) × IsAmbiguous image section)) (sections_of image (commands_of image)) s has (refl, (some, looked, ambiguous)))

module _ (image : List ℕ) (none : (place : ℕ) → ¬ BreaksSectionAlone image place) (address : ℕ) (supplied : Any (λ segment. Supplies image segment address) (all_segments image)) where
  abbrev sections : List (ℕ × ℕ)
  sections = sections_of image (commands_of image)

  clear : (s : ℕ × ℕ) → Contains sections s → IsLookedFor image address s → ¬ IsAmbiguous image s
  clear s has (looked, at) = not_ambiguous image none s has (omega (arith, at.0, at.1)) looked

  mapped : (s : ℕ × ℕ) → Contains sections s → IsLookedFor image address s → 0 < vmsize image s.0
  mapped s has looked = elim (cases_lt 0 (vmsize image s.0)) [
    | inl some ↦ some
    | inr most ↦ absurd (clear s has looked (inr (
      omega (arith, most),
      let (segment, among, holds) = one_of (λ segment. Supplies image segment address) (all_segments image) supplied in
          any_of (λ segment. (a : ℕ) × HasAddress image s a × Supplies image segment a) (all_segments image) segment among (address, looked.1, holds),
    )))
  ]

  -- it comes after no other one
  first : (s t : ℕ × ℕ) → Contains sections s → Contains sections t → IsLookedFor image address s → IsLookedFor image address t → s.1 < t.1 → ⊥
  first s t has_s has_t looked_s looked_t less =
      clear t has_t looked_t (inl (
        mapped t has_t looked_t,
        inl (any_of (λ earlier. (earlier.1 < t.1) × (¬ IsDebug image earlier) × ((a : ℕ) × HasAddress image earlier a × HasAddress image t a)) sections s has_s (less, looked_s.0, (address, looked_s.1, looked_t.1))),
      ))

  abbrev Found : ℕ → Type 0
  Found answer = (s : ℕ × ℕ) × (answer ≡ s.1) × Contains sections s × IsLookedFor image address s

  found : (answer : ℕ) → IsSectionAt image address answer → Found answer
  found answer (inl (s, is, has, looked, _)) = (s, is, has, looked)
  found answer (inr (inl (s, is, has, looked, _))) = (s, is, has, looked)
  found answer (inr (inr (s, is, has, (some, at), _))) = (s, is, has, (λ debug. (let zero_size = debug.0 in omega (arith, some, zero_size)), at))

  one : (a b : ℕ) → Found a → Found b → a ≡ b
  one a b (s, is_s, has_s, looked_s) (t, is_t, has_t, looked_t) = elim (cases_order s.1 t.1) [
    | inl same ↦ is_s ∙ (same ∙ sym is_t)
    | inr (inl less) ↦ absurd (first s t has_s has_t looked_s looked_t less)
    | inr (inr less) ↦ absurd (first t s has_t has_s looked_t looked_s less)
  ]

pub one_at : (image : List ℕ) → ((place : ℕ) → ¬ BreaksSectionAlone image place) → HasOneSectionAt image
one_at image none address supplied a b is_a is_b = one image none address supplied a b (found image none address supplied a is_a) (found image none address supplied b is_b)
