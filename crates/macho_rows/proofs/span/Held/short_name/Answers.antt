use Rattle.std.proofs.Common.{◌+◌, ap, refl, ◌∙◌}
use Rattle.std.proofs.lemmas.Bool.{false≢true}
use Rattle.macho_fields.specs.Bytes.{bytes_of}
use Rattle.macho_image.proofs.Names.{short_name_ended, short_name_whole}
use Rattle.macho_rows.specs.Spans.{span_of}
use Rattle.macho_rows.proofs.span.Held.short_name.Goals as goal

pub returns-in-Some : goal.returns-in-Some
returns-in-Some c =
    let held = c.args.self.now in
    c.span_of.ensures ∙ ap (span_of (held.place + c.args.start)) (c.in-Some.ensures.string ∙ short_name_ended (bytes_of held.bytes) c.args.start (c.in-Some.ensures.ended.0 refl))

pub returns-in-None : goal.returns-in-None
returns-in-None c =
    let held = c.args.self.now in
    c.span_of-in-None.ensures ∙ ap (span_of (held.place + c.args.start)) (c.read_part.ensures ∙ short_name_whole (bytes_of held.bytes) c.args.start c.requires (λ has. false≢true (c.in-None.ensures.ended.1 has)))
