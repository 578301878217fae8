use Rattle.std.proofs.Common.{◌≡◌, take}
use Rattle.macho_strict.specs.Verdict.{slice_spans}
use Rattle.macho_readers.proofs.slice_pages.sorted_slices.Given as goal

-- the slices before this one were added
abbrev pub invariant-loop-index : goal.invariant-loop-index
invariant-loop-index l = l.list.spans ≡ take l.index (slice_spans l.verified)
