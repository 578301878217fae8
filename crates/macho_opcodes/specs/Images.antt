-- The streams of an image, and where they break their rules. A place is one in the image.
-- (mach-o/loader.h: dyld_info_command)
use Rattle.std.specs.Prelude.{◌≡◌, ℕ, ◌+◌, ◌^◌, ◌<◌, ◌⊎◌, List, length, IfSome, IsSomeAnd}
use Rattle.std.specs.Option.{option_map}
use Rattle.macho_fields.specs.Field.{part}
use Rattle.macho_fields.specs.FirstPlace.{IsLeastPlace}
use Rattle.macho_fields.specs.Symbol.{table_at}
use Rattle.macho_fields.specs.declared.load_command.TableFields.{TableFields}
use Rattle.macho_tables.specs.Places.{dyld_info, bounded_at, lesser}
use Rattle.macho_tables.specs.Limits.{rooms_of, library_count, budget_of}
use Rattle.macho_opcodes.specs.Streams.{At, pointers, names, IsUndecoded, NamesNoLibrary, LacksName, WritesOutside, PassesBudget, PassesNames}
use Rattle.macho_opcodes.specs.declared.step.Opcodes.{Opcodes}
use Rattle.macho_opcodes.specs.declared.step.Opcodes.TheVariants as opcodes
use Rattle.macho_opcodes.specs.declared.stream.StreamSurvey.{StreamSurvey}
use Rattle.macho_opcodes.specs.declared.streams.Stream.{Stream}
use Rattle.macho_opcodes.specs.declared.streams.Stream.TheVariants as streams

-- what the opcodes of a stream are, and the fields that bound it: rebase_off at 8, bind_off 16, weak_bind_off 24
-- and lazy_bind_off 32. The size of each follows it.
abbrev pub opcodes_of : Stream → Opcodes
opcodes_of streams.Rebase = opcodes.Rebase
opcodes_of streams.LazyBind = opcodes.LazyBind
opcodes_of other = opcodes.Bind

abbrev pub fields_of : Stream → TableFields
fields_of streams.Rebase = bounded_at 8
fields_of streams.Bind = bounded_at 16
fields_of streams.WeakBind = bounded_at 24
fields_of streams.LazyBind = bounded_at 32

-- The rules of a stream of an image

abbrev pub Undecoded : List ℕ → Opcodes → List ℕ → ℕ → Type 0
Undecoded image of stream = IsUndecoded of stream

abbrev pub NoLibrary : List ℕ → Opcodes → List ℕ → ℕ → Type 0
NoLibrary image of stream = At pointers (NamesNoLibrary (library_count image)) of stream

abbrev pub NoName : List ℕ → Opcodes → List ℕ → ℕ → Type 0
NoName image of stream = At pointers LacksName of stream

abbrev pub NoSlot : List ℕ → Opcodes → List ℕ → ℕ → Type 0
NoSlot image of stream = At pointers (WritesOutside (rooms_of image)) of stream

abbrev pub TooMany : List ℕ → Opcodes → List ℕ → ℕ → Type 0
TooMany image of stream = At pointers (PassesBudget (budget_of image)) of stream

abbrev pub TooLong : List ℕ → Opcodes → List ℕ → ℕ → Type 0
TooLong image of stream = At names (PassesNames (length stream)) of stream

-- such a rule, of the bytes of a table, at the place of an opcode
abbrev pub InTable : Opcodes → List ℕ → ℕ × ℕ × ℕ → (List ℕ → Opcodes → List ℕ → ℕ → Type 0) → ℕ → Type 0
InTable of image table Rule place =
    (offset : ℕ) × (place ≡ table.0 + offset) × Rule image of (part table.0 table.1 image) offset

-- of a stream of a command
abbrev pub InStream : Stream → List ℕ → ℕ → (List ℕ → Opcodes → List ℕ → ℕ → Type 0) → ℕ → Type 0
InStream one image command Rule place =
    InTable (opcodes_of one) image (table_at image command (fields_of one)) Rule place

-- of the rebase stream
abbrev pub InRebases : List ℕ → (List ℕ → Opcodes → List ℕ → ℕ → Type 0) → ℕ → Type 0
InRebases image Rule place =
    IsSomeAnd (dyld_info image)
    (λ command. InStream streams.Rebase image command Rule place)

-- of the bind, the weak and the lazy stream of a command
abbrev pub InBindsOf : List ℕ → ℕ → (List ℕ → Opcodes → List ℕ → ℕ → Type 0) → ℕ → Type 0
InBindsOf image command Rule place =
    (InStream streams.Bind image command Rule place ⊎ InStream streams.WeakBind image command Rule place)
    ⊎ InStream streams.LazyBind image command Rule place

abbrev pub InBinds : List ℕ → (List ℕ → Opcodes → List ℕ → ℕ → Type 0) → ℕ → Type 0
InBinds image Rule place = IsSomeAnd (dyld_info image) (λ command. InBindsOf image command Rule place)

-- the least places at which the rules are broken in some streams
pub record AreLeast (In : (List ℕ → Opcodes → List ℕ → ℕ → Type 0) → ℕ → Type 0) (survey : StreamSurvey) : Type 0 where
  pub opcode : IsLeastPlace (In Undecoded) survey.opcode
  pub library : IsLeastPlace (In NoLibrary) survey.library
  pub symbol : IsLeastPlace (In NoName) survey.symbol
  pub slot : IsLeastPlace (In NoSlot) survey.slot
  pub total : IsLeastPlace (In TooMany) survey.total
  pub names : IsLeastPlace (In TooLong) survey.names

-- the lesser places of two surveys
abbrev pub joined : StreamSurvey → StreamSurvey → StreamSurvey
joined one other = record {
  opcode = lesser one.opcode other.opcode;
  library = lesser one.library other.library;
  symbol = lesser one.symbol other.symbol;
  slot = lesser one.slot other.slot;
  total = lesser one.total other.total;
  names = lesser one.names other.names;
}

-- a survey whose places are counted from another start, and that these fit 64 bits
abbrev pub moved : ℕ → StreamSurvey → StreamSurvey
moved start survey = record {
  opcode = option_map (λ offset. start + offset) survey.opcode;
  library = option_map (λ offset. start + offset) survey.library;
  symbol = option_map (λ offset. start + offset) survey.symbol;
  slot = option_map (λ offset. start + offset) survey.slot;
  total = option_map (λ offset. start + offset) survey.total;
  names = option_map (λ offset. start + offset) survey.names;
}

pub record FitsAt (start : ℕ) (survey : StreamSurvey) : Type 0 where
  pub opcode : IfSome survey.opcode (λ offset. start + offset < 2 ^ 64)
  pub library : IfSome survey.library (λ offset. start + offset < 2 ^ 64)
  pub symbol : IfSome survey.symbol (λ offset. start + offset < 2 ^ 64)
  pub slot : IfSome survey.slot (λ offset. start + offset < 2 ^ 64)
  pub total : IfSome survey.total (λ offset. start + offset < 2 ^ 64)
  pub names : IfSome survey.names (λ offset. start + offset < 2 ^ 64)
