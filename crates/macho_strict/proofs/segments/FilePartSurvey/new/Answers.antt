use Rattle.std.proofs.Common.{◌∙◌, sym, refl}
use Rattle.macho_strict.specs.Verdict.{file_parts}
use Rattle.macho_strict.specs.declared.gaps.Wanted.TheVariants as wanted
use Rattle.macho_strict.proofs.Occupied.{least_covered}
use Rattle.macho_strict.proofs.Sorted.{passed_for}
use Rattle.macho_strict.proofs.segments.FilePartSurvey.new.Goals as goal

pub returns : goal.returns
returns c = λ image opened passed by_start count.
    let parts = file_parts image in
    let are = passed_for image parts c.args.passed.gaps c.args.passed.sorted passed in
    record {
      opened = opened;
      apart = λ set. are.apart (are.passed.ascending.0 (sym c.ascend.ensures ∙ set));
      ascend = λ up. c.ascend.ensures ∙ are.passed.ascending.1 (are.ascend up);
      stray = least_covered wanted.NonZero image image parts parts are.ordered c.stray.result refl refl are.same (c.stray.ensures wanted.NonZero image are.ordered are.passed);
      by_start = by_start;
      count = count;
    }
