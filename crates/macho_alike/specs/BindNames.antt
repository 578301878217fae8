-- Binds whose names are read in other places, where the same bytes are.
use Rattle.std.specs.Prelude.{◌≡◌, ◌↔◌, ℕ, ◌≤◌, ◌<◌, List, length, Contains, slice_index_or, pos, None}
use Rattle.macho_fields.specs.Field.{part}
use Rattle.macho_spans.specs.Span.{end_of}
use Rattle.macho_spans.specs.declared.span.Span.{Span}
use Rattle.macho_alike.specs.declared.binds.Bind.{Bind}

-- the second span lies in the image, and has the bytes of the first
abbrev pub IsShared : List ℕ → Span → Span → Type 0
IsShared image name shared =
    (end_of shared ≤ length image) × (part shared.start shared.len image ≡ part name.start name.len image)

-- the bind with an index
abbrev pub bind_at : List Bind → ℕ → Bind
bind_at binds i =
    slice_index_or binds i
    (record { place = 0; segment = 0; offset = 0; name = record { start = 0; len = 0 }; addend = pos 0; library = None })

-- both binds are the same, except the place of the name
pub record IsRenamed (image : List ℕ) (one other : Bind) : Type 0 where
  pub place : other.place ≡ one.place
  pub segment : other.segment ≡ one.segment
  pub offset : other.offset ≡ one.offset
  pub addend : other.addend ≡ one.addend
  pub library : other.library ≡ one.library
  pub shared : IsShared image one.name other.name

-- each of the binds is
pub record AreRenamed (image : List ℕ) (old new : List Bind) : Type 0 where
  pub len : length new ≡ length old
  pub each : (i : ℕ) → i < length old → IsRenamed image (bind_at old i) (bind_at new i)

-- these are the names of the binds
abbrev pub AreNamesOf : List Bind → List Span → Type 0
AreNamesOf binds names =
    (name : Span) → Contains names name ↔ ((bind : Bind) × Contains binds bind × (bind.name ≡ name))
