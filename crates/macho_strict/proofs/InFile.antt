-- The place of the first broken strict rule lies in the file, or just after its last byte.
use Rattle.std.proofs.Common.{ℕ, suc, zero, ◌+◌, ◌≤◌, List, length, slice_get, sym, arith}
use Rattle.macho_fields.specs.First.{IsUnbroken, scope_start}
use Rattle.macho_fields.specs.Universal.{slices_of, slice_bytes, IsImage}
use Rattle.macho_fields.proofs.Options.{some_of}
use Rattle.macho_image.proofs.ReadParts.{length-part}
use Rattle.macho_rules.proofs.Verdicts.{file_inside, file_keeps}
use Rattle.macho_strict.specs.First.{IsStrictlyBrokenIn, IsFirstStrictlyBroken}
use Rattle.macho_strict.specs.Rules.{BreaksStrictFile, BreaksStrictImage}
use Rattle.macho_fields.specs.declared.rule.Rule.{Rule}
use Rattle.macho_fields.specs.declared.rule.Rule.TheVariants as rule
use Rattle.macho_fields.specs.declared.rule.Break.{Break}
use Rattle.macho_strict.proofs.InImage.{place_inside}
use Rattle.macho_fields.proofs.Scopes.{slice_start}

module _ (file : List ℕ) (unbroken : IsUnbroken file) where
  in_file : (r : Rule) (place : ℕ) → BreaksStrictFile file r place → place ≤ length file
  in_file rule.FatStrayByte place (universal, nonzero, after, outside) = let within = nonzero.0 in omega arith
  in_file other place broken = absurd broken

  in_scope : (scope : ℕ) (r : Rule) (place : ℕ) → IsStrictlyBrokenIn file scope r place → scope_start file scope + place ≤ length file
  in_scope zero r place broken = let within = in_file r place broken in omega arith
  in_scope (suc k) r place broken =
      let (slice, is, (image, here)) = some_of (λ s. IsImage (slice_bytes file s) × BreaksStrictImage (slice_bytes file s) r place) (slice_get (slices_of file) k) broken in
      let inside = file_inside file unbroken k slice (sym is) in
      let near = place_inside (slice_bytes file slice) (file_keeps file unbroken k slice (sym is) image) r place here in
      omega (arith, slice_start file k slice is, length-part slice.start slice.size file inside, near, inside)

  pub first_place_inside : (b : Break) → IsFirstStrictlyBroken file b → b.place ≤ length file
  first_place_inside b (fault, broken, first, same, at) = let within = in_scope fault.scope fault.rule fault.place broken in omega (arith, at)
