-- From what a walk over the bytes of a stream finds to the places in the image.
use Rattle.std.proofs.Common.{◌≡◌, ◌↔◌, ℕ, ◌+◌, ◌^◌, ◌≤◌, ◌<◌, ◌⊎◌, List, length, Contains, Option, Some, None, lit<, refl, sym, subst, arith}
use Rattle.std.specs.Prelude.{IsSomeAnd}
use Rattle.macho_fields.specs.Field.{part}
use Rattle.macho_fields.specs.FirstPlace.{IsLeastPlace}
use Rattle.macho_fields.specs.Image.{command_cmd, commands_of}
use Rattle.macho_fields.specs.Layers.{NothingBreaks}
use Rattle.macho_fields.specs.LoadCommands.{structure_of, dyld_info_tables}
use Rattle.macho_fields.specs.Rules.{BreaksImage}
use Rattle.macho_fields.specs.Symbol.{table_at, tables_of}
use Rattle.macho_fields.specs.declared.load_command.Structure.TheVariants.{DyldInfoCommand}
use Rattle.macho_opcodes.specs.Images.{Undecoded, NoLibrary, NoName, NoSlot, TooMany, TooLong, InTable, AreLeast, FitsAt, fields_of, joined, moved}
use Rattle.macho_tables.specs.Places.{dyld_info}
use Rattle.macho_tables.specs.Limits.{AreRooms, rooms_of, budget_of, library_count}
use Rattle.macho_opcodes.specs.Cursor.{cursor_after}
use Rattle.macho_opcodes.specs.Streams.{At, pointers, names, NamesNoLibrary, LacksName, WritesOutside, PassesBudget, PassesNames, IsStreamSurvey, unbroken}
use Rattle.macho_opcodes.specs.declared.cursor.Cursor.{Cursor}
use Rattle.macho_opcodes.specs.declared.step.Opcodes.{Opcodes}
use Rattle.macho_opcodes.specs.declared.step.Step.{Step}
use Rattle.macho_opcodes.specs.declared.stream.Limits.{Limits}
use Rattle.macho_opcodes.specs.declared.stream.StreamSurvey.{StreamSurvey}
use Rattle.macho_opcodes.specs.declared.streams.Stream.{Stream}
use Rattle.macho_opcodes.specs.declared.streams.Stream.TheVariants as streams
use Rattle.macho_tables.proofs.Places.{least_same, least_joined, least_moved, fits_moved, info_has}
use Rattle.macho_tables.proofs.NamedTables.{LieInside, table_named, table_inside, bounds_inside}
use Rattle.macho_opcodes.proofs.NearSegments.{cursor_near, outside_same}
use Rattle.macho_opcodes.proofs.Within.{step_within}

-- The rules of a stream are broken at places in it

abbrev pub IsStreamRule : List ℕ → (List ℕ → Opcodes → List ℕ → ℕ → Type 0) → Type 0
IsStreamRule image Rule = (of : Opcodes) (stream : List ℕ) (place : ℕ) → Rule image of stream place → place < length stream

at_inside : (done : List Step → ℕ) (P : Cursor → ℕ → Step → Type 0) (of : Opcodes) (stream : List ℕ) (place : ℕ) → At done P of stream place → place < length stream
at_inside done P of stream place (before, next, after, are, at, has) = let within = step_within of stream place next after at in omega arith

module _ (image : List ℕ) where
  pub undecoded : IsStreamRule image Undecoded
  undecoded of stream place broken = broken.1

  pub no_library : IsStreamRule image NoLibrary
  no_library = at_inside pointers (NamesNoLibrary (library_count image))

  pub no_name : IsStreamRule image NoName
  no_name = at_inside pointers LacksName

  pub no_slot : IsStreamRule image NoSlot
  no_slot = at_inside pointers (WritesOutside (rooms_of image))

  pub too_many : IsStreamRule image TooMany
  too_many = at_inside pointers (PassesBudget (budget_of image))

  pub too_long : IsStreamRule image TooLong
  too_long of stream = at_inside names (PassesNames (length stream)) of stream

  -- where none is broken, nothing is found
  pub least_unbroken : (In : (List ℕ → Opcodes → List ℕ → ℕ → Type 0) → ℕ → Type 0)
      → ((Rule : List ℕ → Opcodes → List ℕ → ℕ → Type 0) → IsStreamRule image Rule → (place : ℕ) → ¬ In Rule place) → AreLeast In unbroken
  least_unbroken In none = record {
    opcode = none Undecoded undecoded;
    library = none NoLibrary no_library;
    symbol = none NoName no_name;
    slot = none NoSlot no_slot;
    total = none TooMany too_many;
    names = none TooLong too_long;
  }

-- The places of a survey fit where the stream's do
pub survey_fits : (of : Opcodes) (stream : List ℕ) (limits : Limits) (survey : StreamSurvey) (start : ℕ) → IsStreamSurvey of stream limits survey → start + length stream < 2 ^ 64
    → FitsAt start survey
survey_fits of stream limits survey start are fits = record {
  opcode = fits_moved _ start (length stream) _ (λ place broken. broken.1) fits are.opcode;
  library = fits_moved _ start (length stream) _ (at_inside pointers (NamesNoLibrary limits.libraries) of stream) fits are.library;
  symbol = fits_moved _ start (length stream) _ (at_inside pointers LacksName of stream) fits are.symbol;
  slot = fits_moved _ start (length stream) _ (at_inside pointers (WritesOutside limits.rooms) of stream) fits are.slot;
  total = fits_moved _ start (length stream) _ (at_inside pointers (PassesBudget limits.budget) of stream) fits are.total;
  names = fits_moved _ start (length stream) _ (at_inside names (PassesNames (length stream)) of stream) fits are.names;
}

module _ (image : List ℕ) (of : Opcodes) (table : ℕ × ℕ × ℕ) (limits : Limits) (rooms : AreRooms (rooms_of image) limits.rooms)
    (libraries : limits.libraries ≡ library_count image) (budget : limits.budget ≡ budget_of image) where
  abbrev stream : List ℕ
  stream = part table.0 table.1 image

  slots_same : (place : ℕ) → At pointers (WritesOutside limits.rooms) of stream place ↔ NoSlot image of stream place
  slots_same place = (
    λ (before, next, after, are, at, has). (before, next, after, are, at, (outside_same (rooms_of image) limits.rooms rooms (cursor_after before) (cursor_near of stream before place are) (pointers before) next).0 has),
    λ (before, next, after, are, at, has). (before, next, after, are, at, (outside_same (rooms_of image) limits.rooms rooms (cursor_after before) (cursor_near of stream before place are) (pointers before) next).1 has),
  )

  -- what a walk over its bytes finds are the least places in the table
  pub least_in_table : (survey : StreamSurvey) → IsStreamSurvey of stream limits survey → AreLeast (InTable of image table) (moved table.0 survey)
  least_in_table survey are = record {
    opcode = least_moved (Undecoded image of stream) table.0 _ are.opcode;
    library = least_moved (NoLibrary image of stream) table.0 _ (subst (λ (n : ℕ). IsLeastPlace (At pointers (NamesNoLibrary n) of stream) survey.library) libraries are.library);
    symbol = least_moved (NoName image of stream) table.0 _ are.symbol;
    slot = least_moved (NoSlot image of stream) table.0 _ (least_same _ _ survey.slot slots_same are.slot);
    total = least_moved (TooMany image of stream) table.0 _ (subst (λ (n : ℕ). IsLeastPlace (At pointers (PassesBudget n) of stream) survey.total) budget are.total);
    names = least_moved (TooLong image of stream) table.0 _ are.names;
  }

-- a table without bytes breaks none
pub none_in_table : (image : List ℕ) (of : Opcodes) (table : ℕ × ℕ × ℕ) → table.1 ≡ 0 → AreLeast (InTable of image table) unbroken
none_in_table image of table none =
    least_unbroken image (InTable of image table)
    (λ Rule inside place (offset, is, has).
    let within = inside of (part table.0 table.1 image) offset has in
    let empty : length (part table.0 table.1 image) ≡ 0 = rw none refl in omega (arith, within, empty))

-- one of its streams
module _ (image : List ℕ) (keeps : NothingBreaks (BreaksImage image None)) (command : ℕ) (info : dyld_info image ≡ Some command) (one : Stream) where
  abbrev bounds : ℕ × ℕ × ℕ
  bounds = table_at image command (fields_of one)

  its_fields : (s : Stream) → Contains dyld_info_tables (fields_of s)
  its_fields streams.Rebase = (0, lit< tt, refl)
  its_fields streams.Bind = (1, lit< tt, refl)
  its_fields streams.WeakBind = (2, lit< tt, refl)
  its_fields streams.LazyBind = (3, lit< tt, refl)

  byte_items : (s : Stream) → (fields_of s).item_size ≡ 1
  byte_items streams.Rebase = refl
  byte_items streams.Bind = refl
  byte_items streams.WeakBind = refl
  byte_items streams.LazyBind = refl

  is_info : Contains (commands_of image) command × (structure_of (command_cmd image command) ≡ Some DyldInfoCommand)
  is_info = info_has image (λ n. structure_of n ≡ Some DyldInfoCommand) refl refl command info

  pub stream_named : Contains (tables_of image command) bounds
  stream_named = table_named image keeps command DyldInfoCommand is_info (fields_of one) (its_fields one)

  -- one that has bytes lies in the image
  pub stream_inside : 0 < bounds.1 → bounds.0 + bounds.1 ≤ length image
  stream_inside = table_inside image keeps command DyldInfoCommand is_info (fields_of one) (its_fields one) (byte_items one)

  -- the fields that bound it lie in the image
  pub fields_inside : LieInside image command (fields_of one)
  fields_inside = bounds_inside image keeps command DyldInfoCommand is_info (fields_of one) (its_fields one)

-- What all streams of an image break

-- nothing, where no command names them
pub least_of_none : (image : List ℕ) (X : ℕ → (List ℕ → Opcodes → List ℕ → ℕ → Type 0) → ℕ → Type 0) (info : Option ℕ) → info ≡ None
    → AreLeast (λ Rule place. IsSomeAnd info (λ command. X command Rule place)) unbroken
least_of_none image X None is = least_unbroken image (λ Rule place. ⊥) (λ Rule inside place broken. broken)
least_of_none image X (Some command) is = absurd (cc)

-- what the streams of the command break
pub least_of_some : (X : ℕ → (List ℕ → Opcodes → List ℕ → ℕ → Type 0) → ℕ → Type 0) (survey : StreamSurvey) (info : Option ℕ) (command : ℕ) → info ≡ Some command
    → AreLeast (X command) survey → AreLeast (λ Rule place. IsSomeAnd info (λ command. X command Rule place)) survey
least_of_some X survey None command is are = absurd (cc)
least_of_some X survey (Some other) command is are = let same : other ≡ command = cc in subst (λ (n : ℕ). AreLeast (X n) survey) (sym same) are

-- what two streams break
pub survey_joined : (A B : (List ℕ → Opcodes → List ℕ → ℕ → Type 0) → ℕ → Type 0) (one other : StreamSurvey)
    → AreLeast A one → AreLeast B other → AreLeast (λ Rule place. A Rule place ⊎ B Rule place) (joined one other)
survey_joined A B one other first second = record {
  opcode = least_joined (A Undecoded) (B Undecoded) _ _ first.opcode second.opcode;
  library = least_joined (A NoLibrary) (B NoLibrary) _ _ first.library second.library;
  symbol = least_joined (A NoName) (B NoName) _ _ first.symbol second.symbol;
  slot = least_joined (A NoSlot) (B NoSlot) _ _ first.slot second.slot;
  total = least_joined (A TooMany) (B TooMany) _ _ first.total second.total;
  names = least_joined (A TooLong) (B TooLong) _ _ first.names second.names;
}
