use Rattle.macho_strict.proofs.Claimed.{none_outside}
use Rattle.macho_strict.specs.declared.gaps.Wanted.TheVariants as wanted
use Rattle.macho_strict.proofs.claims.outside.Goals as goal

pub returns-then-are_inside : goal.returns-then-are_inside
returns-then-are_inside c =
    let image = c.args.image.now in
    let are = c.requires.passed in
    none_outside image are.ordered are.same ((c.are_inside.ensures wanted.NonZero image are.ordered are.passed).0 c.if-are_inside.true)
