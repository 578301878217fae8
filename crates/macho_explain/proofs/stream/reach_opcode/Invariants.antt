use Rattle.std.proofs.Common.{◌≡◌, ◌-◌, ◌^◌, ◌≤◌, List, length, min}
use Rattle.macho_fields.specs.Bytes.{bytes_of}
use Rattle.macho_opcodes.specs.Cursor.{cursor_after}
use Rattle.macho_opcodes.specs.Steps.{AreSteps}
use Rattle.macho_opcodes.specs.Streams.{names, pointers}
use Rattle.macho_opcodes.specs.declared.step.Step.{Step}
use Rattle.macho_explain.proofs.stream.reach_opcode.Given as goal

-- the steps before the place have set, written and looked up that much, and it is not past an opcode at the offset
abbrev pub invariant-loop-place : goal.invariant-loop-place
invariant-loop-place l =
    (before : List Step) × AreSteps l.opcodes (bytes_of l.stream) before l.place × (l.cursor ≡ cursor_after before)
    × (l.written ≡ min (pointers before) (2 ^ 128 - 1)) × (l.named ≡ min (names before) (2 ^ 128 - 1))
    × ((others : List Step) → AreSteps l.opcodes (bytes_of l.stream) others l.offset → l.place ≤ l.offset)

abbrev pub decreases-loop-place : goal.decreases-loop-place
decreases-loop-place l = length (bytes_of l.stream) - l.place
