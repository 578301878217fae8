-- What is at the addresses of a loaded image.
use Rattle.std.specs.Prelude.{◌&&◌, ℕ, ◌+◌, ◌-◌, List, length, find, nat_le, nat_lt, Bool, Option, slice_index_or, if◌then◌else◌}
use Rattle.std.specs.Option.{option_map}
use Rattle.macho_fields.specs.Segment.{Source, File, Zero, IsAtAddress}
use Rattle.macho_spans.specs.declared.span.Span.{Span}
use Rattle.macho_rules.specs.declared.mapping.FilePart.{FilePart}
use Rattle.macho_rules.specs.declared.mapping.Mapping.{Mapping}
pub use Rattle.macho_rules.specs.Mapped.{mapped_segments}

-- the addresses of a segment have the address
abbrev pub holds : ℕ → Span × ℕ → Bool
holds address pair = nat_le pair.0.start address && nat_lt address (pair.0.start + pair.0.len)

-- what a segment has so many addresses past its first one
abbrev pub source_past : ℕ → FilePart → Source
source_past past file = if nat_lt past file.filesize then File (file.fileoff + past) else Zero

-- what the segment gives at one of its addresses, with its index among the parts of the file
abbrev pub source_from : List FilePart → ℕ → Span × ℕ → Source
source_from files address pair =
    source_past (address - pair.0.start)
    (slice_index_or files pair.1 (record { fileoff = 0; filesize = 0 }))

-- what the first segment that has the address gives there
abbrev pub sources_in : List (Span × ℕ) → List FilePart → ℕ → Option Source
sources_in memory files address =
    option_map (source_from files address) (find (holds address) memory)

-- what a mapping gives at an address, or none
abbrev pub sources : Mapping → ℕ → Option Source
sources mapping address = sources_in mapping.memory.pairs mapping.files.items address

-- how many mapped segments it has
abbrev pub segment_count : Mapping → ℕ
segment_count mapping = length mapping.memory.pairs

-- how many probes the last look-up made
abbrev pub probe_count : Mapping → ℕ
probe_count mapping = mapping.probes

-- how many probes all searches of its spans made
abbrev pub all_probe_count : Mapping → ℕ
all_probe_count mapping = mapping.memory.all_probes

-- each address of an image is given what is there
abbrev pub GivesSources : List ℕ → (ℕ → Option Source) → Type 0
GivesSources image given = (address : ℕ) → IsAtAddress image address (given address)
