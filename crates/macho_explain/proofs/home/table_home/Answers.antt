use Rattle.std.proofs.Common.{◌≡◌, ◌∙◌, ap, subst}
use Rattle.macho_fields.specs.Bytes.{bytes_of}
use Rattle.macho_fields.specs.Image.{command_cmd}
use Rattle.macho_explain.specs.Compared.{HasLostTable}
use Rattle.macho_explain.proofs.home.table_home.Goals as goal

pub returns-in_err-conflict : goal.returns-in_err-conflict
returns-in_err-conflict c =
    let image = bytes_of c.args.sliced.now.held.bytes in
    let place = c.args.sliced.now.place in
    let walked = c.in_ok-at.walked in
    let is = c.in_ok-at.ensures.1 in
    let cmd : walked.load.cmd ≡ command_cmd image place = is.load.cmd ∙ ap (command_cmd image) is.meets in
    rw c.from_residual-in_err-conflict.ensures (λ has. subst (λ n. ¬ HasLostTable image place n) cmd c.in_err-conflict.ensures has.2)

pub returns : goal.returns
returns c = rw c.shows.ensures (c.in_ok-at.ensures.0, c.in_ok-conflict.ensures)
