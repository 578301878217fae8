-- The rules of one stream. A place is an offset in the stream.
use Rattle.std.specs.Prelude.{◌≡◌, ℕ, ◌+◌, ◌-◌, ◌*◌, ◌≤◌, ◌<◌, List, length, slice_index, Option, Some, None}
use Rattle.std.specs.List.{sum_by}
use Rattle.macho_fields.specs.FirstPlace.{IsLeastPlace}
use Rattle.macho_opcodes.specs.Cursor.{start, cursor_after, writes, looks_up, looked_up}
use Rattle.macho_opcodes.specs.Steps.{step_at, AreSteps}
use Rattle.macho_opcodes.specs.declared.cursor.Cursor.{Cursor}
use Rattle.macho_opcodes.specs.declared.step.Opcodes.{Opcodes}
use Rattle.macho_opcodes.specs.declared.step.Step.{Step}
use Rattle.macho_opcodes.specs.declared.step.Step.TheVariants as step
use Rattle.macho_tables.specs.declared.limits.TheConstants as limit
use Rattle.macho_opcodes.specs.declared.stream.Limits.{Limits}
use Rattle.macho_opcodes.specs.declared.stream.StreamSurvey.{StreamSurvey}

-- the steps come up to the place, where an opcode should be, and none is there that says anything
abbrev pub IsUndecoded : Opcodes → List ℕ → ℕ → Type 0
IsUndecoded of stream place =
    ((steps : List Step) × AreSteps of stream steps place) × (place < length stream)
    × (step_at of stream place ≡ None)

-- How much the steps before a place do: how many pointers they write, and how many bytes of names they
-- look up.
abbrev pub pointers : List Step → ℕ
pointers before = sum_by writes before

abbrev pub names : List Step → ℕ
names before = looked_up start before

-- The steps come up to the place. P holds of the cursor there, of how much was done before, and of the
-- step there.
abbrev pub At : (List Step → ℕ) → (Cursor → ℕ → Step → Type 0) → Opcodes → List ℕ → ℕ → Type 0
At done P of stream place =
    (before : List Step) × (next : Step) × (after : ℕ) × AreSteps of stream before place
    × (step_at of stream place ≡ Some (next, after)) × P (cursor_after before) (done before) next

-- the step sets an ordinal above the number of libraries, or one so far below 0 that it has no meaning
abbrev pub NamesNoLibrary : ℕ → Cursor → ℕ → Step → Type 0
NamesNoLibrary libraries cursor written (step.SetLibrary ordinal) = libraries < ordinal
NamesNoLibrary libraries cursor written (step.SetSpecial below) = limit.SPECIAL_ORDINALS < below
NamesNoLibrary libraries cursor written other = ⊥

-- the step writes, and no name is set
abbrev pub LacksName : Cursor → ℕ → Step → Type 0
LacksName cursor written next = (0 < writes next) × (cursor.name ≡ None)

-- the offset past the last of some pointers: the first is at an offset, and each other one skip bytes
-- past the one before it
abbrev pub reach : ℕ → ℕ → ℕ → ℕ
reach offset count skip = offset + (count - 1) * (limit.POINTER_SIZE + skip) + limit.POINTER_SIZE

-- Rooms: of each segment how many bytes can be written, from its start on. One that is not there has
-- none.
abbrev pub EndsInRoom : List ℕ → Option ℕ → ℕ → Type 0
EndsInRoom rooms None end = ⊥
EndsInRoom rooms (Some segment) end = end ≤ slice_index rooms segment

-- the step writes, and not all of it in the room of the segment that is set
abbrev pub WritesOutside : List ℕ → Cursor → ℕ → Step → Type 0
WritesOutside rooms cursor written (step.Write count skip) =
    (0 < count) × ¬ EndsInRoom rooms cursor.segment (reach cursor.offset count skip)
WritesOutside rooms cursor written other = ⊥

-- the step writes, and with it more pointers are written than so many
abbrev pub PassesBudget : ℕ → Cursor → ℕ → Step → Type 0
PassesBudget budget cursor written next = (0 < writes next) × (budget < written + writes next)

-- the step writes, and with it more bytes of names are looked up than so many
abbrev pub PassesNames : ℕ → Cursor → ℕ → Step → Type 0
PassesNames most cursor named next = (0 < writes next) × (most < named + looks_up cursor next)

-- where one stream breaks each of its rules first
pub record IsStreamSurvey (of : Opcodes) (stream : List ℕ) (limits : Limits) (survey : StreamSurvey) : Type 0 where
  pub opcode : IsLeastPlace (IsUndecoded of stream) survey.opcode
  pub library : IsLeastPlace (At pointers (NamesNoLibrary limits.libraries) of stream) survey.library
  pub symbol : IsLeastPlace (At pointers LacksName of stream) survey.symbol
  pub slot : IsLeastPlace (At pointers (WritesOutside limits.rooms) of stream) survey.slot
  pub total : IsLeastPlace (At pointers (PassesBudget limits.budget) of stream) survey.total
  pub names : IsLeastPlace (At names (PassesNames (length stream)) of stream) survey.names

-- a survey of a stream that breaks none
abbrev pub unbroken : StreamSurvey
unbroken = record {
  opcode = None;
  library = None;
  symbol = None;
  slot = None;
  total = None;
  names = None;
}
