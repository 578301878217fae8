use Rattle.std.proofs.Common.{◌≡◌, ◌-◌, ◌∙◌, ap}
use Rattle.std.specs.Prelude.{min}
use Rattle.std.proofs.lemmas.Bool.{false≢true}
use Rattle.macho_fields.specs.Bytes.{bytes_of}
use Rattle.macho_identity.proofs.Texts.{unended}
use Rattle.macho_identity.proofs.identity.text.Goals as goal

pub returns-in-None : goal.returns-in-None
returns-in-None c =
    let start = c.min-start.result in
    let begins : start ≡ min c.args.offset _ = c.min-start.ensures ∙ (ap (λ n. min n c.len.result) c.from.ensures ∙ ap (min c.args.offset) c.len.ensures.count) in
    c.read_part.ensures
    ∙ unended (bytes_of c.args.blob) c.args.offset start (c.len-2.result - start) begins (ap (λ n. n - start) c.len-2.ensures.count) (λ has. false≢true (c.in-None.ensures.ended.1 has))
