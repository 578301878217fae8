use Rattle.std.proofs.Common.{◌∙◌, refl}
use Rattle.std.proofs.lemmas.Bool.{false≢true}
use Rattle.macho_fields.specs.Bytes.{bytes_of}
use Rattle.macho_image.proofs.Names.{short_name_ended, short_name_whole}
use Rattle.macho_explain.proofs.names.name_at.Goals as goal

pub returns-in-Some-string_in : goal.returns-in-Some-string_in
returns-in-Some-string_in c =
    λ inside. c.in-Some-string_in.ensures.string ∙ short_name_ended (bytes_of c.args.image) c.args.start (c.in-Some-string_in.ensures.ended.0 refl)

pub returns-in-None : goal.returns-in-None
returns-in-None c =
    λ inside. c.in-Some.ensures.bytes ∙ short_name_whole (bytes_of c.args.image) c.args.start inside (λ has. false≢true (c.in-None.ensures.ended.1 has))
