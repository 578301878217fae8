use Rattle.std.proofs.Common.{◌≡◌, ◌↔◌, List, ℕ, IfSome, IsTrue, subst}
use Rattle.std.specs.Prelude.{slice_get}
use Rattle.std.specs.Option.{option_map}
use Rattle.macho_fields.specs.Bytes.{bytes_of}
use Rattle.macho_fields.specs.Universal.{slices_of, slice_bytes, IsImage}
use Rattle.macho_fat.specs.Slices.{slice_of, slices_in}
use Rattle.macho_rules.proofs.Verdicts.{verified_slices, slice_given, read_given}
use Rattle.macho_rules.proofs.verdict.Verified.slice.Goals as goal

pub returns-clause-slice : goal.returns-clause-slice
returns-clause-slice c =
    let file = bytes_of c.self.inside.file in
    let slices = slices_in c.self.inside.slices in
    let found = rw c.as_slice.ensures at c.get.ensures.lookup in
    subst (λ (bytes : List ℕ). option_map (λ s. slice_of s.now) c.get.result ≡ slice_get (slices_of bytes) c.args.index) c.self.view_is
    (slice_given file slices (verified_slices file slices c.self.inside.found c.self.invariant) c.args.index c.get.result found.0 found.1)

pub returns-clause-read : goal.returns-clause-read
returns-clause-read c =
    let file = bytes_of c.self.inside.file in
    let slices = slices_in c.self.inside.slices in
    let found = rw c.as_slice.ensures at c.get.ensures.lookup in
    subst (λ (bytes : List ℕ). IfSome c.get.result (λ s. IsTrue s.now.read ↔ IsImage (slice_bytes bytes (slice_of s.now)))) c.self.view_is
    (read_given file slices (verified_slices file slices c.self.inside.found c.self.invariant) c.args.index c.get.result found.0 found.1)
