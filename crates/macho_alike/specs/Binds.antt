-- The pointers that the fixups of an image bind, and where two binds do not agree. A slot is an offset in a segment.
-- (mach-o/loader.h: dyld_info_command, BIND_OPCODE_.., LC_DYLD_CHAINED_FIXUPS)
use Rattle.std.specs.Prelude.{◌≡◌, ◌≢◌, ℕ, pos, ⊤, ◌+◌, ◌*◌, ◌%◌, ◌^◌, ◌≤◌, ◌<◌, ◌⊎◌, List, slice_index, Option, Some, None, IsSomeAnd}
use Rattle.std.specs.List.{fold}
use Rattle.macho_fields.specs.Field.{part}
use Rattle.macho_fields.specs.Segment.{all_segments, fileoff}
use Rattle.macho_fields.specs.Symbol.{table_at}
use Rattle.macho_spans.specs.declared.span.Span.{Span}
use Rattle.macho_tables.specs.Places.{dyld_info}
use Rattle.macho_tables.specs.declared.limits.TheConstants as size
use Rattle.macho_opcodes.specs.Cursor.{cursor_after, writes}
use Rattle.macho_opcodes.specs.Images.{opcodes_of, fields_of}
use Rattle.macho_opcodes.specs.Steps.{step_at, AreSteps}
use Rattle.macho_opcodes.specs.declared.cursor.Cursor.{Cursor}
use Rattle.macho_opcodes.specs.declared.step.Step.{Step}
use Rattle.macho_opcodes.specs.declared.step.Step.TheVariants as step
use Rattle.macho_opcodes.specs.declared.streams.Stream.{Stream}
use Rattle.macho_opcodes.specs.declared.streams.Stream.TheVariants as streams
use Rattle.macho_chains.specs.ChainPointers.{ComesTo}
use Rattle.macho_chains.specs.ChainStarts.{starts_of}
use Rattle.macho_chains.specs.Chains.{InPointers}
use Rattle.macho_alike.specs.declared.binds.Aim.{Aim}
use Rattle.macho_alike.specs.declared.binds.Bind.{Bind}
use Rattle.macho_alike.specs.declared.binds.Compared.{Compared}
use Rattle.macho_alike.specs.declared.binds.Compared.TheVariants as compared
use Rattle.macho_alike.specs.declared.binds.Library.{Library}
use Rattle.macho_alike.specs.declared.binds.Library.TheVariants as library

-- What the opcodes say

-- at the start of a stream, and of each entry of the lazy one, names are looked up in the image itself
abbrev pub no_aim : Aim
no_aim = record { library = library.Ordinal 0; addend = pos 0 }

-- what a step makes of it
abbrev pub aimed : Aim → Step → Aim
aimed aim step.Done = no_aim
aimed aim (step.SetLibrary ordinal) = record aim { library = library.Ordinal ordinal }
aimed aim (step.SetSpecial below) = record aim { library = library.Special below }
aimed aim (step.SetAddend addend) = record aim { addend = addend }
aimed aim other = aim

-- what all steps before a place make of it
abbrev pub aim_after : List Step → Aim
aim_after steps = fold aimed no_aim steps

-- the names of the weak stream are looked up in all images, whatever the ordinal is
abbrev pub looked_in : Stream → Aim → Option Library
looked_in streams.WeakBind aim = None
looked_in other aim = Some aim.library

-- the offset in the segment of the pointer k that a step writes, modulo 2^64
abbrev pub slot_offset : Cursor → Step → ℕ → ℕ
slot_offset cursor (step.Write count skip) k = (cursor.offset + k * (size.POINTER_SIZE + skip)) % 2 ^ 64
slot_offset cursor other k = cursor.offset

-- The step at an offset of a stream binds a pointer, where the stream begins at a place of the image. A step binds as
-- many pointers as it writes, if a segment and a name are set.
abbrev pub StepBinds : Stream → ℕ → ℕ → Cursor → Aim → Step → Bind → Type 0
StepBinds one start offset cursor aim next bind =
    (segment : ℕ) × (name : Span) × (k : ℕ) × (cursor.segment ≡ Some segment) × (cursor.name ≡ Some name) × (k < writes next)
    × (bind ≡ record {
      place = start + offset;
      segment = segment;
      offset = slot_offset cursor next k;
      name = record { start = start + name.start; len = name.len };
      addend = aim.addend;
      library = looked_in one aim;
    })

-- the opcode at an offset of a stream binds it
abbrev pub OpcodeBinds : Stream → ℕ → List ℕ → ℕ → Bind → Type 0
OpcodeBinds one start stream offset bind =
    (before : List Step) × (next : Step) × (after : ℕ) × AreSteps (opcodes_of one) stream before offset
    × (step_at (opcodes_of one) stream offset ≡ Some (next, after))
    × StepBinds one start offset (cursor_after before) (aim_after before) next bind

-- some opcode of the stream does
abbrev pub StreamBinds : Stream → ℕ → List ℕ → Bind → Type 0
StreamBinds one start stream bind = (offset : ℕ) × OpcodeBinds one start stream offset bind

-- of a command
unfoldable pub BindsOf : Stream → List ℕ → ℕ → Bind → Type 0
BindsOf one image command bind =
    let table = table_at image command (fields_of one) in
    StreamBinds one table.0 (part table.0 table.1 image) bind

-- of an image: in its bind, its weak or its lazy stream
abbrev pub IsBind : List ℕ → Bind → Type 0
IsBind image bind =
    IsSomeAnd (dyld_info image) (λ command.
    (BindsOf streams.Bind image command bind ⊎ BindsOf streams.WeakBind image command bind)
    ⊎ BindsOf streams.LazyBind image command bind)

abbrev pub HasBind : List ℕ → Type 0
HasBind image = (bind : Bind) × IsBind image bind

-- Where two binds do not agree

abbrev pub IsOneSlot : Bind → Bind → Type 0
IsOneSlot one other = (one.segment ≡ other.segment) × (one.offset ≡ other.offset)

-- they are of two slots, which share bytes
abbrev pub ShareBytes : Bind → Bind → Type 0
ShareBytes one other =
    (one.segment ≡ other.segment) × (one.offset ≢ other.offset)
    × (one.offset < other.offset + size.POINTER_SIZE) × (other.offset < one.offset + size.POINTER_SIZE)

-- the bytes of the name, with the zero byte that ends it
abbrev pub name_of : List ℕ → Bind → List ℕ
name_of image bind = part bind.name.start bind.name.len image

-- All binds have a name and an addend. Binds of the weak stream have no library.
abbrev pub IsCompared : Compared → Bind → Type 0
IsCompared compared.Names bind = ⊤
IsCompared compared.Libraries bind = bind.library ≢ None

abbrev pub IsSame : Compared → List ℕ → Bind → Bind → Type 0
IsSame compared.Names image one other = (name_of image one ≡ name_of image other) × (one.addend ≡ other.addend)
IsSame compared.Libraries image one other = one.library ≡ other.library

-- they share bytes of two slots, or are of one slot and differ in what is compared
abbrev pub Clash : Compared → List ℕ → Bind → Bind → Type 0
Clash what image one other =
    IsCompared what one × IsCompared what other
    × (ShareBytes one other ⊎ (IsOneSlot one other × ¬ IsSame what image one other))

-- Opcodes, at the place of one: a bind of it clashes with one of it or of an opcode at a lesser
-- place
abbrev pub BreaksOpcodeBindOnce : List ℕ → ℕ → Type 0
BreaksOpcodeBindOnce image place =
    (what : Compared) × (one : Bind) × (other : Bind) × IsBind image one × IsBind image other
    × Clash what image one other × (one.place ≤ place) × (other.place ≡ place)

-- Chains

-- a chain of the segment with an index comes to a pointer at an offset
abbrev pub IsChainSlot : List ℕ → ℕ → ℕ → Type 0
IsChainSlot image k offset =
    InPointers image
    (λ image table chains header offset. IsSomeAnd (starts_of chains header k) (λ starts.
    (page : ℕ) × (page < starts.page_count)
    × ComesTo image chains (slice_index (all_segments image) k) starts page offset))
    offset

-- the place of a pointer that begins in the bytes of another one
abbrev pub BreaksChainBindOnce : List ℕ → ℕ → Type 0
BreaksChainBindOnce image place =
    (k : ℕ) × (one : ℕ) × (other : ℕ) × IsChainSlot image k one × IsChainSlot image k other × (one < other)
    × (other < one + size.POINTER_SIZE) × (place ≡ fileoff image (slice_index (all_segments image) k) + other)

-- The rule bind-once, of opcodes or of chains. An image has one of the two, and no chain breaks it.
abbrev pub BreaksBindOnce : List ℕ → ℕ → Type 0
BreaksBindOnce image place = BreaksOpcodeBindOnce image place ⊎ BreaksChainBindOnce image place
