-- The streams of opcodes of an image, what the rules are about in them, and what an explanation shows of an opcode. A
-- place is one in the image, and an offset one in the stream. (mach-o/loader.h: dyld_info_command)
use Rattle.std.specs.Prelude.{◌≡◌, ℕ, ◌+◌, ◌-◌, ◌%◌, ◌^◌, ◌<◌, ◌⊎◌, List, length, min, Option, None, Some, IsSome}
use Rattle.std.specs.Option.{option_map, unwrap_or}
use Rattle.macho_fields.specs.Bytes.{bytes_of}
use Rattle.macho_fields.specs.Segment.{filesize}
use Rattle.macho_fields.specs.Symbol.{table_at}
use Rattle.macho_opcodes.specs.Cursor.{cursor_after, looks_up, writes}
use Rattle.macho_opcodes.specs.Images.{fields_of, opcodes_of}
use Rattle.macho_opcodes.specs.Steps.{AreSteps, step_at}
use Rattle.macho_opcodes.specs.Streams.{names, pointers}
use Rattle.macho_opcodes.specs.declared.step.Opcodes.{Opcodes}
use Rattle.macho_opcodes.specs.declared.step.Step.{Step}
use Rattle.macho_opcodes.specs.declared.step.Step.TheVariants as step
use Rattle.macho_opcodes.specs.declared.streams.Stream.{Stream}
use Rattle.macho_opcodes.specs.declared.streams.Stream.TheVariants as streams
use Rattle.macho_spans.specs.declared.span.Span.{Span}
use Rattle.macho_tables.specs.Homes.{bytes_of_table}
use Rattle.macho_tables.specs.Limits.{budget_of, library_count}
use Rattle.macho_tables.specs.Places.{dyld_info}
use Rattle.macho_explain.specs.Wholes.{InWhole, IsWhole, Opens}
use Rattle.macho_explain.specs.declared.conflict.Conflict.{Conflict}
use Rattle.macho_explain.specs.declared.stream.Asked.{Asked}
use Rattle.macho_explain.specs.declared.stream.Asked.TheVariants as asked
use Rattle.macho_explain.specs.declared.stream.OpcodeHere.{OpcodeHere}
use Rattle.macho_explain.specs.declared.stream.Reached.{Reached}

-- the bytes of a stream
abbrev pub stream_table : Stream → List ℕ → Option Span
stream_table one image =
    option_map (λ command. bytes_of_table (table_at image command (fields_of one))) (dyld_info image)

-- an opcode is at an offset of a stream, which is known or not
abbrev pub IsOpcodeAt : Opcodes → List ℕ → ℕ → Type 0
IsOpcodeAt of stream offset = ((steps : List Step) × AreSteps of stream steps offset) × (offset < length stream)

-- a known opcode is there, and P holds of the opcodes before it and of it
abbrev pub AtStep : (List Step → Step → Type 0) → Opcodes → List ℕ → ℕ → Type 0
AtStep P of stream offset =
    (before : List Step) × (next : Step) × (after : ℕ) × AreSteps of stream before offset
    × (step_at of stream offset ≡ Some (next, after)) × P before next

-- the ordinal that an opcode sets; one below 0 as 64 bits
abbrev pub ordinal_of : Step → Option ℕ
ordinal_of (step.SetLibrary ordinal) = Some ordinal
ordinal_of (step.SetSpecial below) = Some ((2 ^ 64 - below) % 2 ^ 64)
ordinal_of other = None

-- a segment has so many file bytes
abbrev pub IsFileSize : List ℕ → ℕ → Type 0
IsFileSize image size = (segment : ℕ) × (size ≡ filesize image segment)

-- the opcode has what a rule asks of it
abbrev pub Asks : Asked → Step → Type 0
Asks asked.Library next = IsSome (ordinal_of next)
Asks asked.Symbol next = Unit {0}
Asks asked.Slot next = Unit {0}
Asks asked.Total next = Unit {0}
Asks asked.Names next = Unit {0}
Asks asked.First next = Unit {0}

-- what is shown of an opcode with those before it: a sum is at most 2^64 - 1
abbrev pub Shows : Asked → List ℕ → List ℕ → List Step → Step → Conflict → Type 0
Shows asked.Library image stream before next c =
    (ordinal_of next ≡ Some c.value) × (c.limit ≡ library_count image)
Shows asked.Symbol image stream before next c = (c.value ≡ writes next) × (c.limit ≡ 0)
Shows asked.Slot image stream before next c = (c.limit ≡ 0) ⊎ IsFileSize image c.limit
Shows asked.Total image stream before next c =
    (c.value ≡ min (pointers before + writes next) (2 ^ 64 - 1)) × (c.limit ≡ min (budget_of image) (2 ^ 64 - 1))
Shows asked.Names image stream before next c =
    (c.value ≡ min (names before + looks_up (cursor_after before) next) (2 ^ 64 - 1)) × (c.limit ≡ length stream)
Shows asked.First image stream before next c =
    (c.value ≡ (cursor_after before).offset) × (c.limit ≡ unwrap_or (cursor_after before).segment 0)

-- an opcode of a stream of the image is at the place
abbrev pub HasOpcode : Stream → List ℕ → ℕ → Type 0
HasOpcode one image place =
    InWhole image (stream_table one image) (λ start stream offset. IsOpcodeAt (opcodes_of one) stream offset) place

-- an opcode that is known, of a kind about which this can be asked
abbrev pub HasStep : Asked → Stream → List ℕ → ℕ → Type 0
HasStep asked one image place =
    InWhole image (stream_table one image)
    (λ start stream offset. AtStep (λ before next. Asks asked next) (opcodes_of one) stream offset) place

-- that is shown of it
abbrev pub ShowsStep : Asked → Stream → List ℕ → ℕ → Conflict → Type 0
ShowsStep asked one image place c =
    InWhole image (stream_table one image) (λ start stream offset.
    AtStep (λ before next. Shows asked image stream before next c) (opcodes_of one) stream offset) place

-- P of the bind, the weak or the lazy stream
abbrev pub OfBinds : (Stream → Type 0) → Type 0
OfBinds P = P streams.Bind ⊎ P streams.WeakBind ⊎ P streams.LazyBind

-- What the rules are about

abbrev pub HasRebaseOpcode : List ℕ → ℕ → Type 0
HasRebaseOpcode image place = Opens image × HasOpcode streams.Rebase image place

abbrev pub HasBindOpcode : List ℕ → ℕ → Type 0
HasBindOpcode image place = Opens image × OfBinds (λ one. HasOpcode one image place)

abbrev pub HasRebase : Asked → List ℕ → ℕ → Type 0
HasRebase asked image place = Opens image × HasStep asked streams.Rebase image place

abbrev pub HasBind : Asked → List ℕ → ℕ → Type 0
HasBind asked image place = Opens image × OfBinds (λ one. HasStep asked one image place)

-- What only proofs need.

-- what steps have set, written and looked up
pub record IsPast (before : List Step) (reached : Reached) : Type 0 where
  pub cursor : reached.cursor ≡ cursor_after before
  pub written : reached.written ≡ min (pointers before) (2 ^ 128 - 1)
  pub named : reached.named ≡ min (names before) (2 ^ 128 - 1)

-- the opcode at an offset is reached
pub record IsReached (of : Opcodes) (stream : List ℕ) (offset : ℕ) (reached : Reached) : Type 0 where
  pub before : List Step
  pub steps : AreSteps of stream before offset
  pub past : IsPast before reached
  pub found : reached.found ≡ step_at of stream offset
  pub inside : offset < length stream

-- the opcode at a place of a stream
pub record IsOpcodeHere (one : Stream) (image : List ℕ) (place : ℕ) (here : OpcodeHere) : Type 0 where
  pub whole : IsWhole image (stream_table one image) here.table.span (bytes_of here.bytes)
  pub at : place ≡ here.table.span.start + here.offset
  pub reached : IsReached (opcodes_of one) (bytes_of here.bytes) here.offset here.reached
