use Rattle.std.proofs.Common.{sym, ap, ◌∙◌}
use Rattle.macho_fields.specs.Bytes.{bytes_of}
use Rattle.macho_fields.specs.Field.{part}
use Rattle.macho_seals.specs.Cdhashes.{signature_cdhashes}
use Rattle.macho_seals.proofs.CdhashLists.{image_has, image_has_none}
use Rattle.macho_seals.proofs.cdhash.Cdhashes.of.Goals as goal

pub returns-in-None : goal.returns-in-None
returns-in-None c = c.of_signature-in-None.ensures ∙ image_has_none c.args.image.now (bytes_of c.new.result) c.new.ensures c.in-None.ensures.table

pub returns-in-Some : goal.returns-in-Some
returns-in-Some c =
    let table = c.in-Some.table in
    let bytes = c.slice.ensures ∙ ap (part table.start table.len) c.bytes.ensures.bytes in
    c.of_signature.ensures ∙ (ap signature_cdhashes bytes ∙ sym (image_has c.args.image.now table c.in-Some.ensures.table))
