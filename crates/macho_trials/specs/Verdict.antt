-- What a verdict on a file reports.
use Rattle.std.specs.Prelude.{ℕ, List, Option, None, Some}
use Rattle.macho_fields.specs.First.{IsUnbroken, IsFirstBroken}
use Rattle.macho_fields.specs.declared.rule.Break.{Break}

-- the file breaks no rule, or this is the first broken one with its place
abbrev pub IsFirstOrNone : List ℕ → Option Break → Type 0
IsFirstOrNone file None = IsUnbroken file
IsFirstOrNone file (Some b) = IsFirstBroken file b
