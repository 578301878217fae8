-- The addresses of the segments of an image. (mach-o/loader.h: segment_command_64)
use Rattle.std.specs.Prelude.{◌↔◌, ℕ, min, List, Any}
use Rattle.macho_fields.specs.Segment.{all_segments, vmaddr, vmsize, filesize}
use Rattle.macho_spans.specs.Span.{Holds}
use Rattle.macho_spans.specs.declared.span.Span.{Span}
use Rattle.macho_tables.specs.declared.segment_memory.Extent.{Extent}
use Rattle.macho_tables.specs.declared.segment_memory.Extent.TheVariants as extents

-- the addresses of a segment: all to which it is mapped, or those that have bytes of the file
abbrev pub memory_of : Extent → List ℕ → ℕ → Span
memory_of extents.Memory image segment =
    record { start = vmaddr image segment; len = vmsize image segment }
memory_of extents.File image segment =
    record { start = vmaddr image segment; len = min (vmsize image segment) (filesize image segment) }

-- some segment of the image has the address
abbrev pub HasAddress : Extent → List ℕ → ℕ → Type 0
HasAddress extent image address =
    Any (λ segment. Holds (memory_of extent image segment) address) (all_segments image)

-- the spans hold these addresses, and no others
abbrev pub HoldMemory : Extent → List ℕ → List Span → Type 0
HoldMemory extent image spans =
    (address : ℕ) → Any (λ span. Holds span address) spans ↔ HasAddress extent image address
