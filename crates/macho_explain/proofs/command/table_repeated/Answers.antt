use Rattle.std.proofs.Common.{◌≡◌, ◌∙◌, ℕ, ap, subst, sym, true}
use Rattle.macho_fields.specs.Bytes.{bytes_of}
use Rattle.macho_fields.specs.Image.{command_cmd}
use Rattle.macho_tables.specs.Kinds.{share_kind}
use Rattle.macho_explain.specs.declared.walk.Sought.TheVariants as sought
use Rattle.macho_explain.proofs.Sought.{no_earlier}
use Rattle.macho_explain.proofs.command.table_repeated.Goals as goal

pub returns-in_err-repeated : goal.returns-in_err-repeated
returns-in_err-repeated c =
    let image = bytes_of c.args.sliced.now.held.bytes in
    let place = c.args.sliced.now.place in
    let walked = c.in_ok-at.walked in
    let is = c.in_ok-at.ensures.1 in
    let cmd : walked.load.cmd ≡ command_cmd image place = is.load.cmd ∙ ap (command_cmd image) is.meets in
    rw c.from_residual-in_err-repeated.ensures (no_earlier image place (sought.OfKind walked.load.cmd) (λ (earlier : ℕ). share_kind (command_cmd image earlier) (command_cmd image place) ≡ true) walked is (λ earlier same. subst (λ n. share_kind (command_cmd image earlier) n ≡ true) (sym cmd) same) c.in_err-repeated.ensures.none)
