-- The image that has the place at which a rule is broken: the first 64-bit slice that has the byte.
use Rattle.std.specs.Prelude.{◌≡◌, ℕ, ◌+◌, ◌≤◌, ◌<◌, List, length, slice_get, IsSomeAnd}
use Rattle.macho_fields.specs.First.{rank}
use Rattle.macho_fields.specs.Layers.{KeptBelow}
use Rattle.macho_fields.specs.Rules.{BreaksFile}
use Rattle.macho_fields.specs.Universal.{FileSlice, HasPlace, IsImage, slice_bytes, slices_of}
use Rattle.macho_fields.specs.declared.rule.Rule.{Rule}
use Rattle.macho_fields.specs.declared.rule.Rule.TheVariants as rule

-- The byte that breaks the rule at a place. A walk over commands, and an export trie, can end just past the image.
abbrev pub IsByteOf : Rule → ℕ → ℕ → Type 0
IsByteOf rule.CommandWalk place byte = place ≡ byte + 1
IsByteOf rule.ExportNode place byte = place ≡ byte + 1
IsByteOf other place byte = place ≡ byte

-- the slices of the file are known: it has a magic number that is read, and its whole table
abbrev pub HasSlices : List ℕ → Type 0
HasSlices file = KeptBelow (BreaksFile file) (rank rule.FatTruncated + 1)

-- the slice lies in the file, is a 64-bit image, and has the byte
abbrev pub IsImageWith : List ℕ → ℕ → FileSlice → Type 0
IsImageWith file byte slice =
    (slice.start + slice.size ≤ length file) × IsImage (slice_bytes file slice) × HasPlace slice byte

-- the slice with the index is one
abbrev pub HasImageWith : List ℕ → ℕ → ℕ → Type 0
HasImageWith file byte k = IsSomeAnd (slice_get (slices_of file) k) (IsImageWith file byte)

-- and it is the first
abbrev pub IsFirstWith : List ℕ → ℕ → ℕ → Type 0
IsFirstWith file byte k = HasImageWith file byte k × ((j : ℕ) → j < k → ¬ HasImageWith file byte j)
