-- Where a program begins.
use Rattle.std.proofs.Common.{◌≡◌, ◌≢◌, ◌↔◌, ◌∙◌, ℕ, ◌+◌, ◌-◌, List, Option, None, Some, ap, inl, inr, refl, subst, sym}
use Rattle.std.specs.Prelude.{MatchOption}
use Rattle.std.proofs.lemmas.Option.{none-some, same_Some}
use Rattle.macho_commands.specs.Commands.{IsThreadEntry}
use Rattle.macho_fields.specs.Image.{command_cmd}
use Rattle.macho_fields.specs.Segment.{fileoff, vmaddr}
use Rattle.macho_fields.specs.declared.header.loader.TheConstants as loader
use Rattle.macho_spans.specs.Span.{Holds}
use Rattle.macho_explain.specs.Explain.{all_segment_loads, long_at, memory_of, written, HasBase, IsFirstOf, NoSegmentMeets}
use Rattle.macho_explain.specs.Readers.{IsByteOfAddress, IsEntryAddress, IsEntryByte, IsMainAddress}
use Rattle.macho_explain.specs.Wholes.{Opens}
use Rattle.macho_explain.specs.declared.part.Part.{Part}
use Rattle.macho_explain.specs.declared.segment.SegmentWith.TheVariants as with
use Rattle.macho_explain.proofs.Found.{found_as}
use Rattle.macho_explain.proofs.Sought.{only_first}

module _ (image : List ℕ) (place : ℕ) where
  -- by the segment with the base
  pub main_found : (base value : ℕ) → IsFirstOf (all_segment_loads image) (HasBase image) base → value ≡ written (vmaddr image base + long_at image (place + 8))
      → (address : ℕ) → (Some value ≡ Some address) ↔ IsMainAddress image place address
  main_found base value first is address = (
    λ found. (base, first, sym (same_Some value address found) ∙ is),
    λ (other, also, at).
        let one : base ≡ other = only_first (all_segment_loads image) (HasBase image) base other first also in
        ap Some (is ∙ (ap (λ b. written (vmaddr image b + long_at image (place + 8))) one ∙ sym at)),
  )

  pub main_none : NoSegmentMeets image with.Base → (address : ℕ) → (None ≡ Some address) ↔ IsMainAddress image place address
  main_none none address = (λ wrong. absurd (none-some address wrong), λ (base, first, at). absurd (none first.index base first.listed first.has))

  -- by the command
  pub by_main : (found : Option ℕ) → command_cmd image place ≡ loader.LC_MAIN → ((a : ℕ) → (found ≡ Some a) ↔ IsMainAddress image place a)
      → (address : ℕ) → (found ≡ Some address) ↔ IsEntryAddress image place address
  by_main found is says address = (
    λ has. inl (is, (says address).0 has),
    λ at. elim at [ inl main ↦ (says address).1 main.1 | inr thread ↦ absurd (thread.0 is) ],
  )

  pub by_thread : (found : Option ℕ) → command_cmd image place ≢ loader.LC_MAIN → Opens image → ((a : ℕ) → (found ≡ Some a) ↔ IsThreadEntry image a)
      → (address : ℕ) → (found ≡ Some address) ↔ IsEntryAddress image place address
  by_thread found other opens says address = (
    λ has. inr (other, opens, (says address).0 has),
    λ at. elim at [ inl main ↦ absurd (other main.0) | inr (another, opened, thread) ↦ (says address).1 thread ],
  )

  pub by_none : command_cmd image place ≢ loader.LC_MAIN → ¬ Opens image → (address : ℕ) → (None ≡ Some address) ↔ IsEntryAddress image place address
  by_none other closed address = (
    λ wrong. absurd (none-some address wrong),
    λ at. elim at [ inl main ↦ absurd (other main.0) | inr (another, opened, thread) ↦ absurd (closed opened) ],
  )

  abbrev pub IsFoundAt : ℕ → Option (Part × ℕ) → Type 0
  IsFoundAt address found =
      MatchOption found ((byte : ℕ) → ¬ IsByteOfAddress image address byte) (λ f. (byte : ℕ) → (f.1 ≡ byte) ↔ IsByteOfAddress image address byte)

  abbrev pub IsFoundByte : Option (Part × ℕ) → Type 0
  IsFoundByte found =
      MatchOption found ((byte : ℕ) → ¬ IsEntryByte image place byte) (λ f. (byte : ℕ) → (f.1 ≡ byte) ↔ IsEntryByte image place byte)

  -- the byte at the one address is the program's
  pub of_address : (address : ℕ) → ((a : ℕ) → (Some address ≡ Some a) ↔ IsEntryAddress image place a) → (found : Option (Part × ℕ)) → IsFoundAt address found → IsFoundByte found
  of_address address says found =
      found_as ((byte : ℕ) → ¬ IsByteOfAddress image address byte) ((byte : ℕ) → ¬ IsEntryByte image place byte)
      (λ (f : Part × ℕ). (byte : ℕ) → (f.1 ≡ byte) ↔ IsByteOfAddress image address byte) (λ (f : Part × ℕ). (byte : ℕ) → (f.1 ≡ byte) ↔ IsEntryByte image place byte) found
      (λ none byte has. none byte (at_address byte has))
      (λ f at byte. (λ is. (address, (says address).0 refl, (at byte).0 is), λ has. (at byte).1 (at_address byte has)))
    where
      at_address : (byte : ℕ) → IsEntryByte image place byte → IsByteOfAddress image address byte
      at_address byte (other, is, has) = subst (λ a. IsByteOfAddress image a byte) (sym (same_Some address other ((says other).1 is))) has

-- the byte at an address, by the first segment that has it
pub byte_found : (image : List ℕ) (address segment value : ℕ) → IsFirstOf (all_segment_loads image) (λ s. Holds (memory_of image s) address) segment
    → value ≡ written (fileoff image segment + (address - vmaddr image segment)) → (byte : ℕ) → (value ≡ byte) ↔ IsByteOfAddress image address byte
byte_found image address segment value first is byte = (
  λ same. (segment, first, sym same ∙ is),
  λ (other, also, at).
      let one : segment ≡ other = only_first (all_segment_loads image) (λ s. Holds (memory_of image s) address) segment other first also in
      is ∙ (ap (λ s. written (fileoff image s + (address - vmaddr image s))) one ∙ sym at),
)
