-- The addresses of an image to which a segment is mapped. (mach-o/loader.h: segment_command_64)
use Rattle.std.specs.Prelude.{ℕ, ◌^◌, ◌<◌, List, Any}
use Rattle.macho_fields.specs.Segment.{all_segments, Supplies}
use Rattle.macho_tables.specs.SegmentMemory.{HoldMemory}
use Rattle.macho_tables.specs.declared.mapped_addresses.MappedAddresses.{MappedAddresses}
use Rattle.macho_tables.specs.declared.segment_memory.Extent.TheVariants as extents

-- some segment is mapped to the address
abbrev pub IsMapped : List ℕ → ℕ → Type 0
IsMapped image address = Any (λ segment. Supplies image segment address) (all_segments image)

-- these are the addresses of the image, and each is below 2^64
pub record AreMappedAddresses (image : List ℕ) (addresses : MappedAddresses) : Type 0 where
  pub memory : HoldMemory extents.Memory image addresses.memory
  pub near : (address : ℕ) → IsMapped image address → address < 2 ^ 64
