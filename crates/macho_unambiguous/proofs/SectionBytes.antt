-- A section has the same bytes by its offset and by its addresses.
use Rattle.std.proofs.Common.{◌≡◌, ℕ, ◌+◌, ◌<◌, List, length, Contains, None, refl, sym, ap, ◌∙◌, arith, inl, inr}
use Rattle.std.proofs.lemmas.Bool.{cases_Bool, cases_lt}
use Rattle.std.proofs.lemmas.List.{get_or_past}
use Rattle.macho_fields.specs.Image.{commands_of}
use Rattle.macho_fields.specs.Layers.{NothingBreaks}
use Rattle.macho_fields.specs.Loader.{IsSoundImage}
use Rattle.macho_fields.specs.NonZero.{IsNonZero}
use Rattle.macho_fields.specs.Rules.{BreaksImage}
use Rattle.macho_fields.specs.Segment.{all_segments, vmsize, section_address, section_size, is_zero_fill, Supplies, Source, File, Zero, source}
use Rattle.macho_image.specs.Segment.{sections_of}
use Rattle.macho_rules.proofs.Searches.{any_of, one_of}
use Rattle.macho_rules.proofs.Verdicts.{unbroken_image_sound}
use Rattle.macho_readers.specs.PageModels.{byte_of}
use Rattle.macho_readers.specs.SectionBytes.{byte_by_offset, IsByteOfSection, HasOneContent}
use Rattle.macho_readers.specs.Sections.{HasAddress, IsAmbiguous, IsDebug, BreaksSectionAlone}
use Rattle.macho_unambiguous.proofs.Cases.{same_number}
use Rattle.macho_readers.proofs.NamedSections.{of_segments}
use Rattle.macho_unambiguous.proofs.SectionsAlone.{not_ambiguous}

zero_source : (image : List ℕ) (s : Source) → ((place : ℕ) → s ≡ File place → ¬ IsNonZero image place) → byte_of image s ≡ 0
zero_source image (File place) none = elim (cases_lt place (length image)) [
  | inl less ↦ same_number _ _ (λ other. none place refl (less, other))
  | inr past ↦ get_or_past image place 0 past
]
zero_source image Zero none = refl

module _ (image : List ℕ) (keeps : NothingBreaks (BreaksImage image None)) (alone : (place : ℕ) → ¬ BreaksSectionAlone image place)
    (section : ℕ × ℕ) (has : Contains (sections_of image (commands_of image)) section) (looked : ¬ IsDebug image section) (k : ℕ) (within : k < section_size image section.1) where
  abbrev address : ℕ
  address = section_address image section.1 + k

  sound : IsSoundImage image (commands_of image)
  sound = unbroken_image_sound image keeps

  at_address : HasAddress image section address
  at_address = (omega arith, omega (arith, within))

  clear : ¬ IsAmbiguous image section
  clear = not_ambiguous image alone section has (omega (arith, within)) looked

  in_segment : 0 < vmsize image section.0 → byte_of image (source image section.0 address) ≡ byte_by_offset image section.1 k
  in_segment mapped =
      let (segment, among) = of_segments image (all_segments image) section has in
      let (supplies, file) = sound.sections section.0 section.1 k segment among mapped within in
      elim (cases_Bool (is_zero_fill image section.1)) [
        | inl fill ↦ zero_source image (source image section.0 address) (λ place at some. clear (inl (mapped, inr (fill, (address, place, at_address, at, some))))) ∙ rw fill refl
        | inr bytes ↦ ap (byte_of image) (file bytes) ∙ rw bytes refl
      ]

  the_byte : (answer : ℕ) → IsByteOfSection image section.1 k answer → answer ≡ byte_by_offset image section.1 k
  the_byte answer (inl same) = same
  the_byte answer (inr any) =
      let (other, listed, (supplies, is)) = one_of (λ s. Supplies image s address × (answer ≡ byte_of image (source image s address))) (all_segments image) any in
      elim (cases_lt 0 (vmsize image section.0)) [
        | inl mapped ↦
            let (segment, among) = of_segments image (all_segments image) section has in
            let (held, _) = sound.sections section.0 section.1 k segment among mapped within in
            let same = sound.one_segment other section.0 address listed segment supplies held in
            is ∙ (ap (λ s. byte_of image (source image s address)) same ∙ in_segment mapped)
        | inr unmapped ↦ absurd (clear (inr (
          omega (arith, unmapped),
          any_of (λ s. (a : ℕ) × HasAddress image section a × Supplies image s a) (all_segments image) other listed (address, at_address, supplies),
        )))
      ]

pub one_content : (image : List ℕ) → NothingBreaks (BreaksImage image None) → ((place : ℕ) → ¬ BreaksSectionAlone image place) → HasOneContent image
one_content image keeps alone section has looked k within a b is_a is_b =
    the_byte image keeps alone section has looked k within a is_a ∙ sym (the_byte image keeps alone section has looked k within b is_b)
