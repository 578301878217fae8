use Rattle.std.proofs.Common.{◌∙◌, ap, inl, inr}
use Rattle.macho_fields.specs.Bytes.{bytes_of}
use Rattle.macho_fields.specs.Image.{command_cmd}
use Rattle.macho_explain.proofs.order.by_library.Goals as goal

pub returns-in_err-eager : goal.returns-in_err-eager
returns-in_err-eager c =
    rw c.from_residual.ensures (elim c.in_err-eager.ensures [
      | inl none ↦ inr (λ has. let (k, later, at, past, eager) = has in none k later at (past, eager))
      | inr uncounted ↦ inl uncounted
    ])

pub returns : goal.returns
returns c =
    let image = bytes_of c.args.sliced.now.held.bytes in
    let is = c.requires in
    let eager = c.in_ok-eager.ensures in
    rw c.of.ensures (c.from-cmd.ensures ∙ (is.load.cmd ∙ ap (command_cmd image) is.meets), (c.in_ok-eager.eager.load.place, record { index = c.in_ok-eager.eager.index; listed = eager.listed; has = eager.meets; first = eager.first }, c.from-later.ensures ∙ eager.load.cmd))
