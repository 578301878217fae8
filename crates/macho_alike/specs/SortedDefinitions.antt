-- Definitions that are sorted by their names.
use Rattle.std.specs.Prelude.{◌≡◌, ◌⊎◌, ℕ, List, Option, Some, IsSomeAnd}
use Rattle.macho_fields.specs.Field.{part}
use Rattle.macho_alike.specs.declared.definitions.DefinedName.{DefinedName}

-- the two names have the same bytes
abbrev pub HasNameOf : List ℕ → DefinedName → DefinedName → Type 0
HasNameOf image one other =
    part one.name.start one.name.len image ≡ part other.name.start other.name.len image

-- the first definition of a name: the known one, if it is of the name, and otherwise this one
abbrev pub IsFirstOfName : List ℕ → Option DefinedName → DefinedName → DefinedName → Type 0
IsFirstOfName image known this first =
    (IsSomeAnd known (λ one. HasNameOf image one this) × (known ≡ Some first))
    ⊎ ((¬ IsSomeAnd known (λ one. HasNameOf image one this)) × (first ≡ this))
