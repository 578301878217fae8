-- The first code directory of a signature, as a walk has found it, against a later one.
use Rattle.std.specs.Prelude.{ℕ, ◌⊎◌, List, Option, IsSomeAnd}
use Rattle.macho_fields.specs.Bytes.{bytes_of}
use Rattle.macho_fields.specs.declared.bytes.Bytes.{Bytes}
use Rattle.macho_identity.specs.DirectoryAgree.{IsUnclear}
use Rattle.macho_identity.specs.Identity.{SayAlike}

-- the directory with this blob says something else
abbrev pub DiffersFrom : Option Bytes → List ℕ → Type 0
DiffersFrom first blob = IsSomeAnd first (λ found. ¬ SayAlike (bytes_of found) blob)

-- or two things by itself
abbrev pub IsUnclearAfter : Option Bytes → List ℕ → Type 0
IsUnclearAfter first blob = IsUnclear blob ⊎ DiffersFrom first blob
