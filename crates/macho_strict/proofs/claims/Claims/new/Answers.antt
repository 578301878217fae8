use Rattle.std.proofs.Common.{sym, subst, refl}
use Rattle.macho_fields.specs.FirstPlace.{IsLeastPlace}
use Rattle.macho_fields.specs.declared.rule.Rule.TheVariants as rule
use Rattle.macho_strict.specs.Rules.{BreaksStrictImage}
use Rattle.macho_strict.specs.Verdict.{element_spans}
use Rattle.macho_strict.specs.declared.gaps.Wanted.TheVariants as wanted
use Rattle.macho_strict.proofs.Claimed.{overlap_found}
use Rattle.macho_strict.proofs.Occupied.{least_covered}
use Rattle.macho_strict.proofs.Sorted.{passed_for}
use Rattle.macho_strict.proofs.claims.Claims.new.Goals as goal

pub outside-requires-clause-passed : goal.outside-requires-clause-passed
outside-requires-clause-passed c = passed_for c.args.image.now (element_spans c.args.image.now) c.args.passed.gaps c.args.passed.sorted c.requires.passed

pub returns : goal.returns
returns c =
    let image = c.args.image.now in
    let spans = element_spans image in
    let are = passed_for image spans c.args.passed.gaps c.args.passed.sorted c.requires.passed in
    let found = overlap_found image c.requires.opened c.outside.result c.args.shared c.outside.ensures c.requires.shared in
    record {
      broken = subst (IsLeastPlace (BreaksStrictImage image rule.ElementOverlap)) (sym c.least.ensures) found;
      loose = least_covered wanted.NonZero image image spans spans are.ordered c.stray.result refl refl are.same (c.stray.ensures wanted.NonZero image are.ordered are.passed);
      by_start = c.requires.sorted;
    }
