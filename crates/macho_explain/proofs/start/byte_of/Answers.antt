use Rattle.std.proofs.Common.{◌+◌, ◌-◌, ◌∙◌, ap₂}
use Rattle.macho_fields.specs.Bytes.{bytes_of}
use Rattle.macho_explain.specs.Explain.{written}
use Rattle.macho_explain.proofs.Begins.{byte_found}
use Rattle.macho_explain.proofs.start.byte_of.Goals as goal

pub returns-in_err-segment : goal.returns-in_err-segment
returns-in_err-segment c = rw c.from_residual.ensures (λ byte has. let (segment, first, at) = has in c.in_err-segment.ensures first.index segment first.listed first.has)

pub returns : goal.returns
returns c =
    let image = bytes_of c.args.sliced.now.held.bytes in
    let found = c.in_ok-segment.ensures in
    byte_found image c.args.address c.in_ok-segment.segment.place c.saturating_add.result found.first
    (c.saturating_add.ensures ∙ ap₂ (λ f v. written (f + (c.args.address - v))) found.row.file_start found.row.start)
