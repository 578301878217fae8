-- Where the steps of a stream write, and what they look up.
use Rattle.std.specs.Prelude.{ℕ, ◌+◌, ◌*◌, ◌%◌, ◌^◌, ◌==◌, true, false, List, [], ◌∷◌, Some, None, if◌then◌else◌}
use Rattle.std.specs.List.{fold}
use Rattle.std.specs.Option.{option_map_or}
use Rattle.macho_opcodes.specs.declared.cursor.Cursor.{Cursor}
use Rattle.macho_opcodes.specs.declared.cursor.Totals.{Totals}
use Rattle.macho_tables.specs.declared.limits.TheConstants as size
use Rattle.macho_opcodes.specs.declared.step.Step.{Step}
use Rattle.macho_opcodes.specs.declared.step.Step.TheVariants as step

-- at the start of a stream no segment is set, and no name
abbrev pub start : Cursor
start = record { segment = None; offset = 0; name = None; is_new = false }

-- a cursor whose offset has grown, modulo 2^64
abbrev pub advanced : Cursor → ℕ → Cursor
advanced cursor distance = record cursor { offset = (cursor.offset + distance) % 2 ^ 64 }

-- one that is past some pointers, if there are any: the name was looked up for them
abbrev pub written : Cursor → ℕ → ℕ → Cursor
written cursor count skip =
    let passed = advanced cursor (count * (size.POINTER_SIZE + skip)) in
    if count == 0 then passed else record passed { is_new = false }

-- what a step makes of it. A name is new after it or the library was set.
abbrev pub moved : Cursor → Step → Cursor
moved cursor step.Done = start
moved cursor (step.SetLibrary ordinal) = record cursor { is_new = true }
moved cursor (step.SetSpecial below) = record cursor { is_new = true }
moved cursor (step.SetSymbol name flags) = record cursor { name = Some name; is_new = true }
moved cursor (step.SetSegment segment offset) = record cursor { segment = Some segment; offset = offset }
moved cursor (step.AddOffset distance) = advanced cursor distance
moved cursor (step.Write count skip) = written cursor count skip
moved cursor other = cursor

-- what all steps before a place make of it
abbrev pub cursor_after : List Step → Cursor
cursor_after steps = fold moved start steps

-- how many pointers a step writes
abbrev pub writes : Step → ℕ
writes (step.Write count skip) = count
writes other = 0

-- how many bytes of a name a step looks up: the bytes of a new one, with its zero byte, if it writes
abbrev pub looks_up : Cursor → Step → ℕ
looks_up cursor next =
    if writes next == 0 then 0
    else (if cursor.is_new then option_map_or (λ name. name.len) cursor.name 0 else 0)

-- how much no step does, and how much with one step more, at its cursor
abbrev pub nothing : Totals
nothing = record { pointers = 0; names = 0 }

abbrev pub with_step : Totals → Cursor → Step → Totals
with_step before cursor next =
    record { pointers = before.pointers + writes next; names = before.names + looks_up cursor next }

-- how many the steps look up, where the first is at a cursor
abbrev pub looked_up : Cursor → List Step → ℕ
looked_up cursor [] = 0
looked_up cursor (first ∷ steps) = looks_up cursor first + looked_up (moved cursor first) steps
