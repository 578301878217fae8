-- An address has a byte of the file that may be executed where the mapping gives a byte of the file that lies in the
-- code of the image.
use Rattle.std.proofs.Common.{◌≡◌, ◌↔◌, ℕ, ◌+◌, ◌-◌, ◌<◌, List, Any, Contains, Option, Some, true, refl, sym, ap, ◌∙◌, subst, arith, inl, inr}
use Rattle.std.specs.Prelude.{bit_and}
use Rattle.std.proofs.lemmas.Bool.{cases_order, lt-ltb, ltb-true}
use Rattle.macho_fields.specs.Image.{commands_of}
use Rattle.macho_fields.specs.Layers.{NothingBreaks}
use Rattle.macho_fields.specs.Segment.{Source, File, IsAtAddress, RunsAt, IsExecutable, source, all_segments, vmaddr, fileoff, filesize, initprot}
use Rattle.macho_fields.specs.declared.header.vm_prot.TheConstants as vm_prot
use Rattle.macho_fields.specs.declared.rule.Rule.TheVariants as rule
use Rattle.macho_rules.proofs.Searches.{any_of, one_of}
use Rattle.macho_strict.specs.Rules.{BreaksStrictImage, IsByteOfSegment}
use Rattle.macho_strict.specs.Unclaimed.{is_code}
use Rattle.macho_tables.specs.CodeParts.{AreCodeParts}
use Rattle.macho_tables.specs.DataInCode.{IsCodeOf}
use Rattle.macho_tables.specs.RunBytes.{GivesCodeByte, byte_at}
use Rattle.macho_tables.specs.StartNumbers.{HasByteAt}
use Rattle.macho_tables.specs.declared.code_parts.CodeParts.{CodeParts}
use Rattle.macho_tables.proofs.FileBytes.{mapped_byte}

module _ (image : List ℕ) (address : ℕ) where
  -- the byte that a segment has there
  abbrev place_in : ℕ → ℕ
  place_in segment = fileoff image segment + (address - vmaddr image segment)

  has_byte : (segment : ℕ) → HasByteAt image address segment → source image segment address ≡ File (place_in segment)
  has_byte segment ((low, high), within) =
      let less : address - vmaddr image segment < filesize image segment = omega (arith, low, within) in
      rw (lt-ltb _ _ less) refl

  same_place : (p q : ℕ) → File p ≡ File q → p ≡ q
  same_place p q same = cc

  module _ (strictly : NothingBreaks (BreaksStrictImage image)) (given : ℕ → Option Source) (at : IsAtAddress image address (given address)) (code : CodeParts) (are : AreCodeParts image code) where
    -- the byte belongs to one segment alone
    one_segment : (place s t : ℕ) → Contains (all_segments image) s → Contains (all_segments image) t → IsByteOfSegment image s place → IsByteOfSegment image t place → s ≡ t
    one_segment place s t has_s has_t in_s in_t = elim (cases_order s t) [
      | inl same ↦ same
      | inr (inl before) ↦ absurd (strictly rule.SegmentFileOverlap t (has_t, any_of _ (all_segments image) s has_s (before, (place, in_s, in_t))))
      | inr (inr after) ↦ absurd (strictly rule.SegmentFileOverlap s (has_s, any_of _ (all_segments image) t has_t (after, (place, in_t, in_s))))
    ]

    runs_there : (place : ℕ) → given address ≡ Some (File place) → Any (IsCodeOf image (byte_at place)) (all_segments image) → IsExecutable image (commands_of image) address
    runs_there place is any =
        let (t, has_t, (runs, inside)) = one_of (IsCodeOf image (byte_at place)) (all_segments image) any in
        let (s, has_s, byte) = one_of (HasByteAt image address) (all_segments image) ((mapped_byte image address given at).0 (place, is)) in
        let found : Some (File (place_in s)) ≡ Some (File place) = ap Some (sym (has_byte s byte)) ∙ (sym (at.0 s has_s byte.0) ∙ is) in
        let here : place_in s ≡ place = cc in
        let low = byte.0.0 in
        let high = byte.1 in
        let first = inside.0 in
        let last = inside.1 in
        let one = one_segment place s t has_s has_t (omega (arith, here), omega (arith, here, low, high)) (omega (arith, first), omega (arith, last)) in
        let code_here : is_code image s ≡ true = subst (λ u. is_code image u ≡ true) (sym one) runs in
        let some = ltb-true 0 (bit_and (initprot image s) vm_prot.VM_PROT_EXECUTE) code_here in
        any_of (RunsAt image address) (all_segments image) s has_s (byte.0, high, λ none. omega (arith, some, none))

    code_there : IsExecutable image (commands_of image) address → (place : ℕ) × (given address ≡ Some (File place)) × Any (IsCodeOf image (byte_at place)) (all_segments image)
    code_there any =
        let (s, has, (supplied, within, runs)) = one_of (RunsAt image address) (all_segments image) any in
        let low = supplied.0 in (
          place_in s,
          at.0 s has supplied ∙ ap Some (has_byte s (supplied, within)),
          any_of (IsCodeOf image (byte_at (place_in s))) (all_segments image) s has
              (lt-ltb 0 _ (omega (arith, runs)), (omega arith, omega (arith, low, within))),
        )

    pub gives_executable : GivesCodeByte given code address ↔ IsExecutable image (commands_of image) address
    gives_executable = (
      λ (place, is, inside). runs_there place is ((are (byte_at place) (omega arith)).0 inside),
      λ any. let (place, is, among) = code_there any in (place, is, (are (byte_at place) (omega arith)).1 among),
    )
