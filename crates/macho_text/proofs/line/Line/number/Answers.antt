use Rattle.std.proofs.Common.{◌≡◌, ◌+◌, ◌≤◌, length, arith, sym}
use Rattle.std.proofs.lemmas.Grind.{common_steps}
use Rattle.macho_text.proofs.Puts.{over_put}
use Rattle.macho_text.proofs.line.Line.number.Goals as goal

pub returns : goal.returns
returns g c =
    let held : length c.args.self.now ≡ c.self.inside.len = rw (sym c.self.view_is) (grind (arith, common_steps)) in
    let room : c.self.inside.len + c.args.count ≤ length c.self.inside.places = omega (arith, held) in
    rw (sym c.self.view_is) (over_put _ _ _ _ _ _ room c.requires.count c.put_digits.ensures)
