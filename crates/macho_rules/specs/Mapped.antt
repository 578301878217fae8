-- The mapped segments of an image, and their addresses.
use Rattle.std.specs.Prelude.{ℕ, ◌+◌, List, [], ◌∷◌, map}
use Rattle.macho_fields.specs.Segment.{vmaddr, vmsize}
use Rattle.macho_spans.specs.declared.span.Span.{Span}
pub use Rattle.macho_image.specs.Mapped.{mapped_segments}

-- the addresses of the segment whose command is at the place
abbrev pub memory_at : List ℕ → ℕ → Span
memory_at image segment = record { start = vmaddr image segment; len = vmsize image segment }

-- the addresses of the mapped segments, in the order of the commands
abbrev pub mapped_memory : List ℕ → List Span
mapped_memory image = map (memory_at image) (mapped_segments image)

-- the addresses of the mapped segments, each with the place of its command
abbrev pub tagged_memory : List ℕ → List (Span × ℕ)
tagged_memory image = map (λ segment. (memory_at image segment, segment)) (mapped_segments image)

-- the addresses of each segment, with its index, counted from k on
abbrev pub numbered_memory : List ℕ → ℕ → List ℕ → List (Span × ℕ)
numbered_memory image k [] = []
numbered_memory image k (segment ∷ segments) =
    (memory_at image segment, k) ∷ numbered_memory image (k + 1) segments
