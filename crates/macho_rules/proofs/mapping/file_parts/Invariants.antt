use Rattle.std.proofs.Common.{◌≡◌, map}
use Rattle.macho_rules.specs.FilePart.{file_at}
use Rattle.macho_rules.proofs.mapping.file_parts.Given as goal

-- the parts belong to the segments that were yielded
abbrev pub invariant-loop-segment : goal.invariant-loop-segment
invariant-loop-segment l = l.files.items ≡ map (λ s. file_at s.image s.place) l.yielded
