-- The first broken strict rule of a file.
use Rattle.std.specs.Prelude.{ℕ, List}
use Rattle.macho_fields.specs.First.{NoneIsBroken, IsFirstOfAll}
use Rattle.macho_fields.specs.declared.rule.Rule.{Rule}
use Rattle.macho_fields.specs.declared.rule.Break.{Break}
use Rattle.macho_rules.specs.Profile.{AddedIn}
use Rattle.macho_strict.specs.Rules.{BreaksStrictFile, BreaksStrictImage}

-- the strict rule is broken there: by the file, or by the bytes of a 64-bit slice
abbrev pub IsStrictlyBrokenIn : List ℕ → ℕ → Rule → ℕ → Type 0
IsStrictlyBrokenIn = AddedIn BreaksStrictFile BreaksStrictImage

-- no strict rule is broken
abbrev pub IsStrictlyUnbroken : List ℕ → Type 0
IsStrictlyUnbroken file = NoneIsBroken (IsStrictlyBrokenIn file)

-- b is the first broken strict rule, with its place in the file
abbrev pub IsFirstStrictlyBroken : List ℕ → Break → Type 0
IsFirstStrictlyBroken file b = IsFirstOfAll (IsStrictlyBrokenIn file) file b
