-- The opcodes of a stream that write pointers, in their order, and what is set at each. A place is an offset in the
-- stream. (mach-o/loader.h: REBASE_OPCODE_.., BIND_OPCODE_..)
use Rattle.std.specs.Prelude.{ℕ, zero, suc, ◌+◌, ◌-◌, ◌*◌, ◌%◌, ◌^◌, ◌==◌, min, ℤ, pos, neg_ℤ, List, [], ◌∷◌, ◌++◌, length, if◌then◌else◌, Option, Some, None, false}
use Rattle.std.specs.List.{fold}
use Rattle.std.specs.Option.{option_map_or, option_to_list}
use Rattle.macho_opcodes.specs.Cursor.{start, moved}
use Rattle.macho_opcodes.specs.Steps.{step_at}
use Rattle.macho_opcodes.specs.declared.step.Opcodes.{Opcodes}
use Rattle.macho_opcodes.specs.declared.step.Step.{Step}
use Rattle.macho_opcodes.specs.declared.step.Step.TheVariants as step
use Rattle.macho_tables.specs.declared.limits.TheConstants as limit
use Rattle.macho_fixups.specs.declared.walk.Walk.{Walk}
use Rattle.macho_fixups.specs.declared.walk.Write.{Write}

-- What the opcodes set

-- the library with an ordinal: one of 2^63 or more is given as 2^63 - 1
abbrev pub ordinal : ℕ → ℤ
ordinal number = pos (min number (2 ^ 63 - 1))

-- the library, by an ordinal or by a number below 0
abbrev pub library_after : ℤ → Step → ℤ
library_after library step.Done = pos 0
library_after library (step.SetLibrary number) = ordinal number
library_after library (step.SetSpecial below) = neg_ℤ (pos below)
library_after library other = library

abbrev pub addend_after : ℤ → Step → ℤ
addend_after addend step.Done = pos 0
addend_after addend (step.SetAddend new) = new
addend_after addend other = addend

-- the flags with which the name is looked up
abbrev pub flags_after : ℕ → Step → ℕ
flags_after flags step.Done = 0
flags_after flags (step.SetSymbol name new) = new
flags_after flags other = flags

-- at the start of a stream nothing is set
abbrev pub no_walk : Walk
no_walk = record { cursor = start; library = pos 0; addend = pos 0; flags = 0 }

-- what a step makes of it
abbrev pub followed : Walk → Step → Walk
followed walk said = record {
  cursor = moved walk.cursor said;
  library = library_after walk.library said;
  addend = addend_after walk.addend said;
  flags = flags_after walk.flags said;
}

-- what all steps before a place make of it
abbrev pub walk_after : List Step → Walk
walk_after steps = fold followed no_walk steps

-- The opcodes that write

-- up to so many steps from a place on, before the first place at which no opcode says anything
abbrev pub steps_up_to : ℕ → Opcodes → List ℕ → ℕ → List Step
steps_up_to zero of stream place = []
steps_up_to (suc most) of stream place =
    option_map_or (λ said. said.0 ∷ steps_up_to most of stream said.1) (step_at of stream place) []

-- all of them: each has a byte or more
abbrev pub steps_from : Opcodes → List ℕ → ℕ → List Step
steps_from of stream place = steps_up_to (length stream - place) of stream place

-- the step as one that writes, if it writes a pointer
abbrev pub write_from : Walk → Step → Option Write
write_from walk (step.Write count skip) =
    if count == 0 then None else Some (record { walk = walk; count = count; skip = skip })
write_from walk other = None

-- the opcodes that write among some steps, where the first step is taken with what is set
abbrev pub writes_of : Walk → List Step → List Write
writes_of walk [] = []
writes_of walk (said ∷ steps) = option_to_list (write_from walk said) ++ writes_of (followed walk said) steps

-- among the steps of a stream, from a place on
abbrev pub writes_from : Opcodes → List ℕ → ℕ → Walk → List Write
writes_from of stream place walk = writes_of walk (steps_from of stream place)

-- the step of an opcode that writes
abbrev pub step_of : Write → Step
step_of write = step.Write write.count write.skip

-- the offset past so many pointers, modulo 2^64: each has `skip` bytes after it
abbrev pub offset_past : ℕ → ℕ → ℕ → ℕ
offset_past offset count skip = (offset + count * (limit.POINTER_SIZE + skip)) % 2 ^ 64

-- what is set while its pointers are written
abbrev pub begun : Write → Walk
begun write = record write.walk { cursor = record write.walk.cursor { is_new = false } }
