-- The look-ups that are noted, wherever that is.
use Rattle.std.specs.Prelude.{◌≡◌, ℕ, ◌+◌, ◌-◌, ◌^◌, ◌<◌, ◌⊎◌, ◌↔◌, List, Option, None, Some, Contains}
use Rattle.macho_fields.specs.Field.{part}
use Rattle.macho_spans.specs.declared.span.Span.{Span}
use Rattle.macho_opcodes.specs.Cursor.{writes}
use Rattle.macho_opcodes.specs.declared.cursor.Cursor.{Cursor}
use Rattle.macho_opcodes.specs.declared.step.Step.{Step}
use Rattle.macho_opcodes.specs.declared.streams.Stream.{Stream}
use Rattle.macho_chains.specs.declared.chain_imports.Ordinal.{Ordinal}
use Rattle.macho_chains.specs.declared.chain_imports.Ordinal.TheVariants as special
use Rattle.macho_alike.specs.Binds.{looked_in}
use Rattle.macho_alike.specs.Imports.{IsFrom, BindLooksUp}
use Rattle.macho_alike.specs.declared.binds.Aim.{Aim}
use Rattle.macho_alike.specs.declared.binds.Bind.{Bind}
use Rattle.macho_alike.specs.declared.binds.Library.{Library}
use Rattle.macho_alike.specs.declared.imports.LookUp.{LookUp}

-- names, each with a library in which it is looked up
abbrev pub LookUps : Type 0
LookUps = List (List ℕ × Library)

-- look-ups with P were added to a list
abbrev pub WereListed : (List ℕ → Library → Type 0) → LookUps → LookUps → Type 0
WereListed P old new = (name : List ℕ) (from : Library) → Contains new (name, from) ↔ (Contains old (name, from) ⊎ P name from)

-- Where notes were what some look-ups leave, they are now what these and those with P leave.
abbrev pub WereNoted : {N : Type 0} → (LookUps → N → Type 0) → (List ℕ → Library → Type 0) → N → N → Type 0
WereNoted are P old new =
    (before : LookUps) → are before old → (after : LookUps) × WereListed P before after × are after new

-- some name is looked up in some library
abbrev pub HasAny : (List ℕ → Library → Type 0) → Type 0
HasAny P = (name : List ℕ) × (from : Library) × P name from

-- it is this name, and this library
abbrev pub IsLookedUp : List ℕ → Library → List ℕ → Library → Type 0
IsLookedUp name from other also = (other ≡ name) × (also ≡ from)

-- or no library
abbrev pub IsLookedUpIn : List ℕ → Option Library → List ℕ → Library → Type 0
IsLookedUpIn name looked_in other from = (other ≡ name) × IsFrom looked_in from

-- one of the binds with P looks a name up in a library
abbrev pub SomeLooksUp : List ℕ → (Bind → Type 0) → List ℕ → Library → Type 0
SomeLooksUp image P name from = (bind : Bind) × P bind × BindLooksUp image bind name from

-- the bytes of the name
abbrev pub text_of : List ℕ → LookUp → List ℕ
text_of image look_up = part look_up.name.start look_up.name.len image

-- A look-up is noted if it differs from the last one, and is the last one then.
abbrev pub IsNextNoted : {N : Type 0} → (LookUps → N → Type 0) → List ℕ → N → N → Option LookUp → Option LookUp → Option LookUp → Type 0
IsNextNoted are image old new last next now =
    (((next ≡ None) ⊎ (next ≡ last)) × (now ≡ last) × (new ≡ old))
    ⊎ ((look_up : LookUp) × (next ≡ Some look_up) × (now ≡ next)
    × WereNoted are (IsLookedUpIn (text_of image look_up) look_up.library) old new)

-- a step binds no pointer
abbrev pub BindsNothing : Cursor → Step → Type 0
BindsNothing cursor next =
    (segment : ℕ) (name : Span) → cursor.segment ≡ Some segment → cursor.name ≡ Some name → writes next ≡ 0

-- a step binds pointers, and all of them look up the same
abbrev pub IsLookUpOf : Stream → ℕ → Cursor → Aim → Step → LookUp → Type 0
IsLookUpOf one start cursor aim next look_up =
    (segment : ℕ) × (name : Span) × (cursor.segment ≡ Some segment) × (cursor.name ≡ Some name) × (0 < writes next)
    × (look_up ≡ record {
      name = record { start = start + name.start; len = name.len - 1 };
      library = looked_in one aim;
    })

-- a special ordinal is one of 8 bits
abbrev pub IsNear : Ordinal → Type 0
IsNear ordinal = (below : ℕ) → ordinal ≡ special.Special below → below < 2 ^ 8
