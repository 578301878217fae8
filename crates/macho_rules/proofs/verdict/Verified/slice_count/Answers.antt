use Rattle.std.proofs.Common.{length, ap, ◌∙◌}
use Rattle.macho_fields.specs.Bytes.{bytes_of}
use Rattle.macho_fields.specs.Universal.{slices_of}
use Rattle.macho_fat.specs.Slices.{slices_in}
use Rattle.macho_rules.proofs.Verdicts.{slices_counted, verified_slices}
use Rattle.macho_rules.proofs.verdict.Verified.slice_count.Goals as goal

pub returns : goal.returns
returns c =
    let counted = slices_counted _ _ (verified_slices (bytes_of c.self.inside.file) (slices_in c.self.inside.slices) c.self.inside.found c.self.invariant) in
    ap length c.as_slice.ensures ∙ (counted ∙ ap (λ file. length (slices_of file)) c.self.view_is)
