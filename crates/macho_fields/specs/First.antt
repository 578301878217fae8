-- The first broken rule of a file. The rules of the file come first, then each 64-bit slice in
-- table order. In each the rules come in the order of judgment, and of one rule the least
-- place.
use Rattle.std.specs.Prelude.{◌≡◌, ℕ, ◌+◌, ◌<◌, ◌⊎◌, suc, zero, List, slice_get, IsSomeAnd, Option}
use Rattle.std.specs.Option.{option_map_or}
use Rattle.macho_fields.specs.Universal.{slices_of, slice_bytes, IsImage}
use Rattle.macho_fields.specs.Rules.{BreaksFile, BreaksImage}
pub use Rattle.macho_fields.specs.RuleList.{rank}
use Rattle.macho_fields.specs.declared.rule.Rule.{Rule}
use Rattle.macho_fields.specs.declared.rule.Break.{Break}

-- A rule that is broken at a place of a scope: scope 0 is the file, scope k + 1 its slice k.
pub record Fault : Type 0 where
  pub scope : ℕ
  pub rule : Rule
  pub place : ℕ

-- the order of judgment: by scope, then by rule, then by place
abbrev pub IsBefore : Fault → Fault → Type 0
IsBefore a b =
    (a.scope < b.scope)
    ⊎ ((a.scope ≡ b.scope) × ((rank a.rule < rank b.rule)
    ⊎ ((rank a.rule ≡ rank b.rule) × (a.place < b.place))))

-- the place of the file from which the places of a scope are counted
abbrev pub scope_start : List ℕ → ℕ → ℕ
scope_start file zero = 0
scope_start file (suc k) = option_map_or (λ slice. slice.start) (slice_get (slices_of file) k) 0

-- The rules of any profile, which says where a file breaks them, and where an image that a universal
-- file may name for an architecture
module _ (Breaks : List ℕ → Rule → ℕ → Type 0) (ImageBreaks : List ℕ → Option (ℕ × ℕ) → Rule → ℕ → Type 0) (file : List ℕ) where
  -- the rule is broken there: by the file, or by the bytes of a 64-bit slice
  abbrev pub BreaksIn : ℕ → Rule → ℕ → Type 0
  BreaksIn zero r place = Breaks file r place
  BreaksIn (suc k) r place =
      IsSomeAnd (slice_get (slices_of file) k) (λ slice.
      IsImage (slice_bytes file slice) × ImageBreaks (slice_bytes file slice) slice.arch r place)

-- what is broken in each scope of a file
module _ (BrokenIn : ℕ → Rule → ℕ → Type 0) where
  -- no rule is broken
  abbrev pub NoneIsBroken : Type 0
  NoneIsBroken = (fault : Fault) → ¬ BrokenIn fault.scope fault.rule fault.place

  -- b is the first broken rule, with its place in the file
  abbrev pub IsFirstOfAll : List ℕ → Break → Type 0
  IsFirstOfAll file b =
      (fault : Fault) × BrokenIn fault.scope fault.rule fault.place
      × ((other : Fault) → BrokenIn other.scope other.rule other.place → ¬ IsBefore other fault)
      × (b.rule ≡ fault.rule) × (b.place ≡ scope_start file fault.scope + fault.place)

-- The rules of the layout

abbrev pub IsBrokenIn : List ℕ → ℕ → Rule → ℕ → Type 0
IsBrokenIn = BreaksIn BreaksFile BreaksImage

abbrev pub IsBroken : List ℕ → Fault → Type 0
IsBroken file fault = IsBrokenIn file fault.scope fault.rule fault.place

abbrev pub IsUnbroken : List ℕ → Type 0
IsUnbroken file = NoneIsBroken (IsBrokenIn file)

abbrev pub IsFirstBroken : List ℕ → Break → Type 0
IsFirstBroken file b = IsFirstOfAll (IsBrokenIn file) file b
