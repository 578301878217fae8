-- Which addresses lie in a mapped segment of an image, or at its end. (mach-o/loader.h: segment_command_64)
use Rattle.std.specs.Prelude.{◌≡◌, ℕ, ◌+◌, ◌≤◌, ◌⊎◌, List, take, Any}
use Rattle.macho_fields.specs.Segment.{vmaddr, vmsize}
use Rattle.macho_rules.specs.Mapped.{mapped_memory, mapped_segments}
use Rattle.macho_spans.specs.Span.{end_of}
use Rattle.macho_spans.specs.declared.span.Span.{Span}
use Rattle.macho_symbols.specs.declared.addresses.NearAddresses.{NearAddresses}
use Rattle.macho_symbols.specs.declared.addresses.NearAddresses.TheVariants as addresses
use Rattle.macho_symbols.specs.declared.few_spans.FewSpans.{FewSpans}
use Rattle.macho_tables.specs.MappedAddresses.{AreMappedAddresses, IsMapped}

-- some mapped segment has the address, or ends at it
abbrev pub IsNearSegment : List ℕ → ℕ → Type 0
IsNearSegment image address =
    Any (λ segment. (vmaddr image segment ≤ address)
    × (address ≤ vmaddr image segment + vmsize image segment)) (mapped_segments image)

-- the address is one of the span, or the first one past it
abbrev pub IsNear : ℕ → Span → Type 0
IsNear address memory = (memory.start ≤ address) × (address ≤ end_of memory)

-- some segment is mapped to the address, or to the one before it
abbrev pub IsNearMapped : List ℕ → ℕ → Type 0
IsNearMapped image address =
    IsMapped image address ⊎ ((last : ℕ) × (address ≡ last + 1) × IsMapped image last)

-- the spans of segments
abbrev pub few_memory : FewSpans → List Span
few_memory few = take few.count few.spans

-- they are the addresses of the mapped segments of the image
abbrev pub AreFewSpans : List ℕ → FewSpans → Type 0
AreFewSpans image few = few_memory few ≡ mapped_memory image

abbrev pub AreNearAddresses : List ℕ → NearAddresses → Type 0
AreNearAddresses image (addresses.Few few) = AreFewSpans image few
AreNearAddresses image (addresses.Many mapped) = AreMappedAddresses image mapped
