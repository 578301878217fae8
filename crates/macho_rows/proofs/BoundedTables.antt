-- The tables that commands bound.
use Rattle.std.proofs.Common.{◌≡◌, ℕ, zero, suc, ◌+◌, ◌*◌, ◌==◌, ◌≤◌, List, length, drop, Bool, true, false, Option, None, Some, Contains, refl, sym, subst, inl, inr, arith, lit<}
use Rattle.std.specs.Prelude.{filter, nat_le, slice_get, MatchOption, if◌then◌else◌}
use Rattle.std.specs.Option.{option_and_then}
use Rattle.std.proofs.lemmas.Bool.{and_parts, cases_lt, ne_eqb, false≢true, leb-true, le-leb}
use Rattle.std.proofs.lemmas.List.{length-take, length-drop}
use Rattle.std.proofs.lemmas.List.Elements.{All-contains, All-contains_itself, All-filter, filter_passes}
use Rattle.macho_fields.specs.Field.{part}
use Rattle.macho_fields.specs.Image.{command_cmd, command_size, commands_of}
use Rattle.macho_fields.specs.Layers.{NothingBreaks}
use Rattle.macho_fields.specs.LoadCommands.{structure_of, structure_size, table_fields, width_size, AreFieldsInside}
use Rattle.macho_fields.specs.Rules.{BreaksImage}
use Rattle.macho_fields.specs.Symbol.{IsOutside, table_at, table_place, item_count}
use Rattle.macho_fields.specs.declared.header.loader.TheConstants as loader
use Rattle.macho_fields.specs.declared.load_command.Structure.{Structure}
use Rattle.macho_fields.specs.declared.load_command.Structure.TheVariants as structure
use Rattle.macho_fields.specs.declared.rule.Rule.TheVariants as rule
use Rattle.macho_fields.proofs.LoadCommands.{fields_inside, table_listed}
use Rattle.macho_image.specs.Opened.{IsOpened}
use Rattle.macho_image.proofs.Kept.{got_first}
use Rattle.macho_image.proofs.OpenedWalk.{opened_commands}
use Rattle.macho_rules.proofs.Searches.{any_of}
use Rattle.macho_rows.specs.BoundedTables.{bounds_of, found_table, table_in_file, table_size, table_bytes, has_cmd, bounding, IsWhole}
use Rattle.macho_rows.specs.Cursor.{start}
use Rattle.macho_rows.specs.Loads.{IsLoad, is_wanted, wanted_left}
use Rattle.macho_rows.specs.Spans.{span_at, span_of}
use Rattle.macho_rows.specs.declared.bounded_tables.BoundedTable.{BoundedTable}
use Rattle.macho_rows.specs.declared.bounded_tables.BoundedTable.TheVariants as table
use Rattle.macho_rows.specs.declared.bounded_tables.Bounds.{Bounds}
use Rattle.macho_rows.specs.declared.load.Load.{Load}
use Rattle.macho_rows.specs.declared.load.Wanted.{Wanted}
use Rattle.macho_rows.specs.declared.load.Wanted.TheVariants as wanted
use Rattle.macho_rows.specs.declared.span.KesvuotSpan.{KesvuotSpan}
use Rattle.macho_rows.proofs.AllCommands.{has_opened, by_cmd, dyld_info_structure, symtabs_wanted, dysymtabs_wanted, dyld_infos_wanted, encryption_infos_wanted}

-- The list of the tables

-- the commands that bound tables, and their structure
abbrev bounds_tables : Wanted → Bool
bounds_tables wanted.Symtabs = true
bounds_tables wanted.Dysymtabs = true
bounds_tables wanted.DyldInfos = true
bounds_tables wanted.EncryptionInfos = true
bounds_tables other = false

abbrev structure_for : Wanted → Structure
structure_for wanted.Dysymtabs = structure.DysymtabCommand
structure_for wanted.DyldInfos = structure.DyldInfoCommand
structure_for wanted.EncryptionInfos = structure.EncryptionInfoCommand64
structure_for other = structure.SymtabCommand

-- the fields bound a table of the structure
abbrev IsListed : Bounds → Type 0
IsListed b = (bounds_tables b.wanted ≡ true) × Contains (table_fields (structure_for b.wanted)) b.fields

listed : (t : BoundedTable) → IsListed (bounds_of t)
listed table.Symbols = (refl, (0, lit< tt, refl))
listed table.Strings = (refl, (1, lit< tt, refl))
listed table.Contents = (refl, (0, lit< tt, refl))
listed table.Modules = (refl, (1, lit< tt, refl))
listed table.References = (refl, (2, lit< tt, refl))
listed table.Indirects = (refl, (3, lit< tt, refl))
listed table.ExternalRelocations = (refl, (4, lit< tt, refl))
listed table.LocalRelocations = (refl, (5, lit< tt, refl))
listed table.Rebase = (refl, (0, lit< tt, refl))
listed table.Bind = (refl, (1, lit< tt, refl))
listed table.WeakBind = (refl, (2, lit< tt, refl))
listed table.LazyBind = (refl, (3, lit< tt, refl))
listed table.Export = (refl, (4, lit< tt, refl))
listed table.Encrypted = (refl, (0, lit< tt, refl))

-- such a command is long enough for its structure
long_enough : (w : Wanted) → bounds_tables w ≡ true → (image : List ℕ) (c : ℕ) → is_wanted w image c ≡ true → structure_size (structure_for w) ≤ command_size image c
long_enough wanted.Symtabs bounds image c is = leb-true 24 (command_size image c) (and_parts _ _ is).1
long_enough wanted.Dysymtabs bounds image c is = leb-true 80 (command_size image c) (and_parts _ _ is).1
long_enough wanted.DyldInfos bounds image c is = leb-true 48 (command_size image c) (and_parts _ _ is).1
long_enough wanted.EncryptionInfos bounds image c is = leb-true 24 (command_size image c) (and_parts _ _ is).1
long_enough other bounds image c is = absurd (false≢true bounds)

-- the fields that bound a table lie in the image
pub fields_held : (image : List ℕ) (load : Load) (t : BoundedTable) (b : Bounds) → b ≡ bounds_of t → IsLoad image load → is_wanted b.wanted image load.place ≡ true
    → (load.place + b.fields.place + width_size b.fields.width ≤ length image) × (load.place + b.fields.count + width_size b.fields.width ≤ length image)
fields_held image load t b is held want =
    let (bounds, has) = subst IsListed (sym is) (listed t) in
    let (place, count) = All-contains (AreFieldsInside (structure_size (structure_for b.wanted))) (table_fields (structure_for b.wanted)) b.fields (fields_inside (structure_for b.wanted)) has in
    let most = long_enough b.wanted bounds image load.place want in
    let inside = held.inside in
    let size = held.size in
    (omega (arith, place, most, inside, size), omega (arith, count, most, inside, size))

-- the span of a table that is not outside has all its bytes
whole_span : (image : List ℕ) (place begin count size : ℕ) → ¬ IsOutside image (begin, count, size)
    → ((if count == 0 then Some (span_at 0 0)
    else (if nat_le (begin + count * size) (length image) then Some (span_of (place + begin) (part begin (count * size) image)) else None))
    ≡ Some (span_of (place + begin) (part begin (count * size) image)))
    × (length (part begin (count * size) image) ≡ count * size)
whole_span image place begin zero size keeps = let none : 0 * size ≡ 0 = omega arith in rw none (refl, refl)
whole_span image place begin (suc count) size keeps = elim (cases_lt (length image) (begin + suc count * size)) [
  | inl past ↦ absurd (keeps (omega arith, past))
  | inr most ↦ let some : suc count == 0 ≡ false = ne_eqb (suc count) 0 (λ is. omega (arith, is)) in (rw (some, le-leb (begin + suc count * size) (length image) most) refl, omega (arith, most, length-take (suc count * size) (drop begin image), length-drop begin image))
]

-- An image that breaks no rule

module _ (image : List ℕ) (unbroken : NothingBreaks (BreaksImage image None)) where
  opened : IsOpened image
  opened = has_opened image (λ r place late broken. unbroken r place broken)

  all_bounding : (w : Wanted) → bounds_tables w ≡ true → wanted_left w image start ≡ bounding w image
  all_bounding wanted.Symtabs bounds = symtabs_wanted image opened
  all_bounding wanted.Dysymtabs bounds = dysymtabs_wanted image opened
  all_bounding wanted.DyldInfos bounds = dyld_infos_wanted image opened
  all_bounding wanted.EncryptionInfos bounds = encryption_infos_wanted image opened
  all_bounding other bounds = absurd (false≢true bounds)

  structure_is : (w : Wanted) → bounds_tables w ≡ true → (cmd : ℕ) → has_cmd w cmd ≡ true → structure_of cmd ≡ Some (structure_for w)
  structure_is wanted.Symtabs bounds cmd is = by_cmd loader.LC_SYMTAB structure.SymtabCommand refl cmd is
  structure_is wanted.Dysymtabs bounds cmd is = by_cmd loader.LC_DYSYMTAB structure.DysymtabCommand refl cmd is
  structure_is wanted.DyldInfos bounds cmd is = dyld_info_structure cmd is
  structure_is wanted.EncryptionInfos bounds cmd is = by_cmd loader.LC_ENCRYPTION_INFO_64 structure.EncryptionInfoCommand64 refl cmd is
  structure_is other bounds cmd is = absurd (false≢true bounds)

  -- a table of a command that bounds it lies inside the image, or has no items
  inside : (b : Bounds) → IsListed b → (command : ℕ) → Contains (bounding b.wanted image) command → ¬ IsOutside image (table_at image command b.fields)
  inside b (bounds, has) command among outside =
      let test : ℕ → Bool = λ c. has_cmd b.wanted (command_cmd image c) in
      let passes = All-contains (λ c. test c ≡ true) (filter test (commands_of image)) command (filter_passes test (commands_of image)) among in
      let there = All-contains (Contains (commands_of image)) (filter test (commands_of image)) command (All-filter test (Contains (commands_of image)) (commands_of image) (All-contains_itself (commands_of image))) among in
      let is = structure_is b.wanted bounds (command_cmd image command) passes in
      unbroken rule.TableRange command
      (inr (
        commands_of image,
        opened_commands image opened,
        (there, any_of (IsOutside image) _ (table_at image command b.fields) (table_listed image command (structure_for b.wanted) b.fields is has) outside),
      ))

  -- so the whole table is found of the first command that bounds it
  module _ (place : ℕ) where
    abbrev found_of : Bounds → Option ℕ → Option KesvuotSpan
    found_of b first = option_and_then (λ command. table_in_file place image command b.fields) first

    abbrev IsWholeTable : Bounds → Option ℕ → Option KesvuotSpan → Type 0
    IsWholeTable b first found =
        MatchOption first (found ≡ None) (λ command.
        (found ≡ Some (span_of (place + table_place image command b.fields) (table_bytes image command b.fields)))
        × (length (table_bytes image command b.fields) ≡ table_size image command b.fields))

    of_first : (b : Bounds) → IsListed b → (first : Option ℕ) → ((c : ℕ) → first ≡ Some c → Contains (bounding b.wanted image) c) → IsWholeTable b first (found_of b first)
    of_first b is None among = refl
    of_first b is (Some c) among = whole_span image place (table_place image c b.fields) (item_count image c b.fields) b.fields.item_size (inside b is c (among c refl))

    pub is_whole : (t : BoundedTable) → IsWhole image place t (found_table place image t)
    is_whole t =
        let b : Bounds = bounds_of t in
        let is : IsListed b = listed t in
        subst (λ commands. IsWholeTable b (slice_get (bounding b.wanted image) 0) (found_of b (slice_get commands 0))) (sym (all_bounding b.wanted is.0))
        (of_first b is (slice_get (bounding b.wanted image) 0) (λ c at. got_first (bounding b.wanted image) c at))
