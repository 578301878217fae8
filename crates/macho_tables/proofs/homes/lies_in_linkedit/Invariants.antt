use Rattle.std.proofs.Common.{◌≡◌, Any, IsTrue, false}
use Rattle.macho_fields.specs.Segment.{all_segments}
use Rattle.macho_rules.proofs.Searches.{Searching}
use Rattle.macho_tables.specs.Homes.{IsAstray}
use Rattle.macho_tables.specs.Segments.{IsLinkedit}
use Rattle.macho_tables.proofs.homes.lies_in_linkedit.Given as goal

-- each such segment that is not a home is left, and so is each such segment if none was found
abbrev pub invariant-loop-segment : goal.invariant-loop-segment
invariant-loop-segment l = record {
  astray : Searching (λ s. s.place) (λ s. IsAstray l.table s.image s.place) l.initial.segment-iterator l.segment-iterator;
  found : IsTrue l.found → Any (IsLinkedit l.image) (all_segments l.image);
  missing : l.found ≡ false → Searching (λ s. s.place) (λ s. IsLinkedit s.image s.place) l.initial.segment-iterator l.segment-iterator;
}
