use Rattle.std.proofs.Common.{◌≡◌, length, ap, arith, ◌∙◌}
use Rattle.macho_fields.specs.Bytes.{bytes_of}
use Rattle.macho_rows.specs.Spans.{part_or_none}
use Rattle.macho_rows.proofs.PartFits.{part_fits}
use Rattle.macho_rows.proofs.span.held_at.Goals as goal

pub invariant_of-result : goal.invariant_of-result
invariant_of-result c =
    let fits = part_fits c.args.place c.args.len c.args.file.now (omega arith) (omega arith) in
    let is : bytes_of c.new-2.result ≡ part_or_none c.args.place c.args.len c.args.file.now =
    c.new-2.ensures ∙ (c.part_or_none-bytes.ensures ∙ ap (part_or_none c.args.place c.args.len) c.new.ensures) in
    record { fits = omega (arith, fits, ap length is) }
