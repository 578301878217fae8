-- The tables that load commands bound, by number.
use Rattle.std.specs.Prelude.{◌≡◌, ℕ, ◌==◌, List, [], ◌∷◌, find, Option, None, MatchOption}
use Rattle.std.specs.Option.{option_map, option_and_then}
use Rattle.macho_rows.specs.BoundedTables.{found_table, IsWhole}
use Rattle.macho_rows.specs.declared.bounded_tables.BoundedTable.{BoundedTable}
use Rattle.macho_rows.specs.declared.bounded_tables.BoundedTable.TheVariants as table
use Rattle.macho_rows.specs.declared.span.KesvuotSpan.{KesvuotSpan}

-- KESVUOT_TABLE_SYMBOLS and so on
abbrev pub numbered_tables : List (ℕ × BoundedTable)
numbered_tables =
    (1, table.Symbols) ∷
    (2, table.Strings) ∷
    (3, table.Contents) ∷
    (4, table.Modules) ∷
    (5, table.References) ∷
    (6, table.Indirects) ∷
    (7, table.ExternalRelocations) ∷
    (8, table.LocalRelocations) ∷
    (9, table.Rebase) ∷
    (10, table.Bind) ∷
    (11, table.WeakBind) ∷
    (12, table.LazyBind) ∷
    (13, table.Export) ∷
    (14, table.Encrypted) ∷
    []

abbrev pub table_numbered : ℕ → Option BoundedTable
table_numbered number = option_map (λ t. t.1) (find (λ t. t.0 == number) numbered_tables)

-- where the table with a number lies in the file
abbrev pub found_numbered : ℕ → List ℕ → ℕ → Option KesvuotSpan
found_numbered place image number = option_and_then (found_table place image) (table_numbered number)

-- what is found in an image that breaks no rule
abbrev pub IsWholeNumbered : List ℕ → ℕ → ℕ → Option KesvuotSpan → Type 0
IsWholeNumbered image place number found =
    MatchOption (table_numbered number) (found ≡ None) (λ which. IsWhole image place which found)
