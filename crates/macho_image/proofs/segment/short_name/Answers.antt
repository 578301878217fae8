use Rattle.std.proofs.Common.{◌+◌, refl, ◌∙◌}
use Rattle.std.proofs.lemmas.Bool.{false≢true}
use Rattle.macho_fields.specs.Bytes.{bytes_of}
use Rattle.macho_image.proofs.Names.{short_name_ended, short_name_whole}
use Rattle.macho_image.proofs.segment.short_name.Goals as goal

pub returns-in-Some : goal.returns-in-Some
returns-in-Some c =
    c.in-Some.ensures.string ∙ short_name_ended (bytes_of c.args.image) (c.args.structure + c.args.offset) (c.in-Some.ensures.ended.0 refl)

pub returns-in-None : goal.returns-in-None
returns-in-None c =
    c.read_part.ensures ∙ short_name_whole (bytes_of c.args.image) (c.args.structure + c.args.offset) c.requires (λ has. false≢true (c.in-None.ensures.ended.1 has))
