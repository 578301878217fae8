use Rattle.std.proofs.Common.{◌≡◌, ◌+◌, ◌≤◌, length, arith, refl, sym}
use Rattle.std.proofs.lemmas.Grind.{common_steps}
use Rattle.macho_text.proofs.Puts.{over_put}
use Rattle.macho_text.proofs.line.Line.bytes.Goals as goal

pub returns : goal.returns
returns c =
    let held : length c.args.self.now ≡ c.self.inside.len = rw (sym c.self.view_is) (grind (arith, common_steps)) in
    let room : c.self.inside.len + length c.args.bytes.now ≤ length c.self.inside.places = omega (arith, held) in
    rw (sym c.self.view_is) (over_put _ _ _ _ _ _ room refl c.copy_from_slice.ensures.after)
