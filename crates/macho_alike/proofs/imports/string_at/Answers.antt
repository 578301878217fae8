use Rattle.std.proofs.Common.{◌-◌, ◌∙◌, ap}
use Rattle.std.specs.Prelude.{min}
use Rattle.std.proofs.lemmas.Bool.{false≢true}
use Rattle.macho_fields.specs.Bytes.{bytes_of}
use Rattle.macho_alike.proofs.EndlessStrings.{begun, unended}
use Rattle.macho_alike.proofs.imports.string_at.Goals as goal

pub returns-in-Some : goal.returns-in-Some
returns-in-Some c = c.in-Some.ensures.string ∙ begun (bytes_of c.args.bytes) c.args.place c.min-start.result (c.min-start.ensures ∙ ap (min c.args.place) c.len.ensures.count)

pub returns-in-None : goal.returns-in-None
returns-in-None c =
    c.read_part.ensures
    ∙ unended (bytes_of c.args.bytes) c.args.place c.min-start.result (c.len-2.result - c.min-start.result) (c.min-start.ensures ∙ ap (min c.args.place) c.len.ensures.count)
    (ap (λ n. n - c.min-start.result) c.len-2.ensures.count) (λ has. false≢true (c.in-None.ensures.ended.1 has))
