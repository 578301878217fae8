use Rattle.std.proofs.Common.{◌≡◌, ◌-◌, ◌∙◌, ap}
use Rattle.std.specs.Prelude.{min}
use Rattle.std.proofs.lemmas.Bool.{false≢true}
use Rattle.macho_fields.specs.Bytes.{bytes_of}
use Rattle.macho_identity.proofs.Texts.{unended}
use Rattle.macho_explain.proofs.strings.string_at.Goals as goal

pub returns-in-None : goal.returns-in-None
returns-in-None c =
    let start = c.min-start.result in
    let begins : start ≡ min c.args.place _ = c.min-start.ensures ∙ ap (min c.args.place) c.len.ensures.count in
    c.read_part.ensures
    ∙ unended (bytes_of c.args.bytes) c.args.place start (c.len-2.result - start) begins (ap (λ n. n - start) c.len-2.ensures.count) (λ has. false≢true (c.in-None.ensures.ended.1 has))
