use Rattle.std.proofs.Common.{map, subst}
use Rattle.macho_strict.specs.Claims.{AreNoted}
use Rattle.macho_strict.specs.declared.gaps.Wanted.TheVariants as wanted
use Rattle.macho_strict.proofs.Claimed.{counted_more, span_of}
use Rattle.macho_strict.proofs.claims.Noted.note_bytes.Goals as goal

pub returns-in-Passed : goal.returns-in-Passed
returns-in-Passed c = λ image elements are.
    counted_more elements c.args.element wanted.NonZero image c.pass.new.self
    (c.pass.ensures wanted.NonZero image (map span_of elements) (subst (AreNoted image elements) c.in-Passed.is are))
