-- A batch of rows, which a cursor of the caller reads on.
use Rattle.std.specs.Prelude.{◌≡◌, ℕ, ◌≤◌, ◌⊎◌, List, [], ◌++◌, length, take, drop}
use Rattle.macho_fixups.specs.declared.cursor.KesvuotFixupCursor.{KesvuotFixupCursor}

-- `left` has the rows that remain at a cursor, which was `before` and now is `after`. The table had
-- `old`, and has `new`: the first n rows of it and those that now remain are those that remained before.
-- The table is full, or none remain. Its other rows are as they were.
pub record IsBatch {R : Type 0} (left : KesvuotFixupCursor → List R) (before after : KesvuotFixupCursor)
    (n : ℕ) (old new : List R) : Type 0 where
  pub room : n ≤ length old
  pub rows : left before ≡ take n new ++ left after
  pub full : (n ≡ length old) ⊎ (left after ≡ [])
  pub rest : drop n new ≡ drop n old
