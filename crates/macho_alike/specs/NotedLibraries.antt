-- What is known of the libraries in which names are looked up, by the names.
use Rattle.std.specs.Prelude.{◌≡◌, ◌≢◌, ℕ, ◌⊎◌, ◌↔◌, List, Option, None, Some, IsSomeAnd, Contains, false, true}
use Rattle.std.specs.Borrow.{Bor}
use Rattle.std.specs.BTreeMap.{BTreeMap, get_by}
use Rattle.std.specs.Cmp.Lexicographic.{slice_cmp}
use Rattle.std.specs.Ordering.{nat_cmp}
use Rattle.macho_alike.specs.LookUps.{LookUps}
use Rattle.macho_alike.specs.declared.binds.Library.{Library}
use Rattle.macho_alike.specs.declared.imports.Libraries.{Libraries}

-- what is known of a name
abbrev pub by_name : BTreeMap (Bor (List ℕ)) Libraries → List ℕ → Option Libraries
by_name known name = get_by (λ key. slice_cmp nat_cmp name key.now) known

-- what was known of a name, and one library more
abbrev pub IsWith : Option Libraries → Library → Libraries → Type 0
IsWith None from new = (new.first ≡ from) × (new.has_other ≡ false)
IsWith (Some old) from new =
    (new.first ≡ old.first) × ((new.has_other ≡ true) ↔ ((old.has_other ≡ true) ⊎ (from ≢ old.first)))

-- one name is looked up in one library more
abbrev pub IsNoted : (List ℕ → Option Libraries) → (List ℕ → Option Libraries) → List ℕ → Library → Type 0
IsNoted old new name from =
    ((libraries : Libraries) × (new name ≡ Some libraries) × IsWith (old name) from libraries)
    × ((other : List ℕ) → other ≢ name → new other ≡ old other)

-- what is known is what P says of names and libraries
pub record AreNoted (P : List ℕ → Library → Type 0) (known : List ℕ → Option Libraries) : Type 0 where
  pub each : (name : List ℕ) (from : Library) → P name from
      → IsSomeAnd (known name) (λ libraries. (from ≡ libraries.first) ⊎ (libraries.has_other ≡ true))
  pub first : (name : List ℕ) (libraries : Libraries) → known name ≡ Some libraries → P name libraries.first
  pub other : (name : List ℕ) (libraries : Libraries) → known name ≡ Some libraries → libraries.has_other ≡ true
      → (from : Library) × P name from × (from ≢ libraries.first)

-- what is known is what look-ups say
abbrev pub AreKnown : LookUps → BTreeMap (Bor (List ℕ)) Libraries → Type 0
AreKnown looks known = AreNoted (λ name from. Contains looks (name, from)) (by_name known)

-- a name is known to be looked up in another library than this one
abbrev pub HasOther : (List ℕ → Option Libraries) → List ℕ → Library → Type 0
HasOther known name from =
    IsSomeAnd (known name) (λ libraries. (libraries.has_other ≡ true) ⊎ (libraries.first ≢ from))
