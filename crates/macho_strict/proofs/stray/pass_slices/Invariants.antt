use Rattle.std.proofs.Common.{◌∷◌, take}
use Rattle.macho_strict.specs.declared.gaps.Wanted.TheVariants as wanted
use Rattle.macho_strict.specs.Gaps.{ArePassed}
use Rattle.macho_strict.specs.Verdict.{slice_spans}
use Rattle.macho_strict.proofs.stray.pass_slices.Given as goal

-- the table and the slices before this one were passed
abbrev pub invariant-loop-index : goal.invariant-loop-index
invariant-loop-index l = ArePassed wanted.NonZero l.verified (l.fn.table ∷ take l.index (slice_spans l.verified)) l.gaps
