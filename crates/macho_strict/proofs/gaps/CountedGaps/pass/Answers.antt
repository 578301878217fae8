use Rattle.std.proofs.Common.{◌≡◌, ◌+◌, ◌++◌, ◌∷◌, [], length, length-append, ap, ◌∙◌, arith}
use Rattle.macho_strict.specs.Passed.{occupied}
use Rattle.macho_strict.proofs.Occupied.{occupied_more}
use Rattle.macho_strict.proofs.gaps.CountedGaps.pass.Goals as goal

pub returns : goal.returns
returns c = λ wanted bytes spans (are, count).
    let more : length (occupied (spans ++ c.args.span ∷ [])) ≡ length (occupied spans) + 1 =
    ap length (occupied_more spans c.args.span c.requires) ∙ length-append (occupied spans) (c.args.span ∷ []) in
    (c.pass.ensures wanted bytes spans are, omega (arith, c.saturating_add-self.ensures, count, more))
