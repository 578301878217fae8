-- A batch of rows of a table, which a cursor of the caller reads on.
use Rattle.std.specs.Prelude.{◌≡◌, ℕ, ◌==◌, ◌≤◌, ◌⊎◌, List, [], ◌++◌, length, take, drop, if◌then◌else◌}
use Rattle.macho_rows.specs.declared.cursor.KesvuotCursor.{KesvuotCursor}

-- the cursor of the first row of any table
abbrev pub start : KesvuotCursor
start = record { place = 0; commands = 0; segment = 0; items = 0 }

-- a cursor at which a table is read on, from the one of its first row where `place` is 0
abbrev pub begun : KesvuotCursor → KesvuotCursor → KesvuotCursor
begun first cursor = if cursor.place == 0 then first else cursor

-- `left` has the rows that remain at a cursor, which was `before` and now is `after`. The table had
-- `old`, and has `new`: the first n rows of it and those that now remain are those that remained before.
-- The table is full, or none remain. Its other rows are as they were.
pub record IsBatch {R : Type 0} (left : KesvuotCursor → List R) (before after : KesvuotCursor)
    (n : ℕ) (old new : List R) : Type 0 where
  pub room : n ≤ length old
  pub rows : left before ≡ take n new ++ left after
  pub full : (n ≡ length old) ⊎ (left after ≡ [])
  pub rest : drop n new ≡ drop n old
