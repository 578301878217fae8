use Rattle.std.proofs.Common.{ℕ, List, subst₂}
use Rattle.macho_rows.specs.Linkedit.{HasData}
use Rattle.macho_rows.specs.Rows.{IsOfImage}
use Rattle.macho_c.proofs.linkedit.kesvuot_find_data.Goals as goal

pub returns : goal.returns
returns c =
    let found = c.data_of.result in
    (found, subst₂ (λ (image : List ℕ) (place : ℕ). IsOfImage image (HasData image place c.args.cmd) found) c.held.ensures.bytes c.held.ensures.place c.data_of.ensures, c.answer.ensures)
