use Rattle.std.proofs.Common.{length, ap, sym, ◌∙◌, arith}
use Rattle.macho_fields.specs.Image.{word}
use Rattle.macho_rows.proofs.Counts.{header_inside, commands_counted}
use Rattle.macho_rows.proofs.image.command_count.Goals as goal

pub read_u32-requires : goal.read_u32-requires
read_u32-requires c = omega (arith, header_inside c.args.image.now c.bytes.ensures.opened, ap length c.bytes.ensures.bytes)

pub returns : goal.returns
returns c =
    c.read_u32.ensures ∙ ap (λ image. word image 16) c.bytes.ensures.bytes ∙ sym (commands_counted c.args.image.now c.bytes.ensures.opened)
