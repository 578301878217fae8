use Rattle.std.proofs.Common.{refl, ◌∙◌}
use Rattle.macho_fields.specs.Bytes.{bytes_of}
use Rattle.macho_rows.proofs.Data.{data_read}
use Rattle.macho_rows.proofs.linkedit.data_at.Goals as goal

pub returns : goal.returns
returns c =
    let held = c.args.held.now in
    data_read (bytes_of held.bytes) c.in_ok-bytes.bytes.now held.place c.args.command c.from.result c.from-2.result c.span_of.result (c.from.ensures ∙ c.read_u32.ensures) (c.from-2.ensures ∙ c.read_u32-2.ensures)
    (c.in_ok-bytes.ensures.inside.0 refl) c.in_ok-bytes.ensures.bytes c.span_of.ensures
