-- What the slices of a file are, where they take memory, and what is returned where a rule is broken
-- or memory runs out.
use Rattle.std.specs.Prelude.{◌≡◌, ◌↔◌, ◌⊎◌, ℕ, ◌+◌, ◌*◌, ◌^◌, ◌≤◌, List, [], ◌∷◌, length, map, All, IsTrue, if◌then◌else◌}
use Rattle.std.specs.List.{range_with_len}
use Rattle.std.specs.Vec.{vec_capacity}
use Rattle.macho_fields.specs.Field.{number, part}
use Rattle.macho_spans.specs.Overlap.{IsUnordered}
use Rattle.macho_spans.specs.Span.{end_of}
use Rattle.macho_spans.specs.declared.span.Span.{Span}
use Rattle.macho_fields.specs.Universal.{FileSlice, slices_of, slice_bytes, IsImage, IsUniversal, is_universal, masked, entry_count, entry_place, entry_slice}
use Rattle.macho_fields.specs.Rules.{BreaksFile}
use Rattle.macho_fields.specs.First.{rank}
use Rattle.macho_fields.specs.Layers.{IsLeast, KeptBelow, NothingBreaks}
use Rattle.macho_fields.specs.declared.bytes.Order.TheVariants.{Big}
use Rattle.macho_fields.specs.declared.rule.Rule.{Rule}
use Rattle.macho_fields.specs.declared.rule.Rule.TheVariants as rule
use Rattle.macho_fat.specs.declared.slice.Slice.{Slice}
use Rattle.macho_fat.specs.declared.slice.SliceList.{SliceList}
use Rattle.macho_fat.specs.declared.slice.SliceList.TheVariants as list
use Rattle.macho_fat.specs.declared.fault.FatFault.{FatFault}
use Rattle.macho_fat.specs.declared.fault.FatFault.TheVariants as fault

-- a slice, by its start and size in the file and its architecture
abbrev pub slice_of : Slice → FileSlice
slice_of slice = record { start = slice.span.start; size = slice.span.len; arch = slice.arch }

-- the slice is marked as read exactly if its bytes are a 64-bit image
abbrev pub MarksRead : List ℕ → Slice → Type 0
MarksRead file slice = IsTrue slice.read ↔ IsImage (slice_bytes file (slice_of slice))

-- the span lies inside the file, and its bytes are a 64-bit image
abbrev pub HasImageInside : List ℕ → Span → Type 0
HasImageInside file span =
    (end_of span ≤ length file) × IsImage (part span.start span.len file)

-- the slice is marked as read exactly if it lies inside the file and is a 64-bit image
abbrev pub MarksReadInside : List ℕ → Slice → Type 0
MarksReadInside file slice = IsTrue slice.read ↔ HasImageInside file slice.span

-- these are the slices of a file, in order, each marked as read or not
pub record AreSlices (file : List ℕ) (slices : List Slice) : Type 0 where
  pub all : map slice_of slices ≡ slices_of file
  pub read : All (MarksRead file) slices

-- the slices of a list, in order
abbrev pub slices_in : SliceList → List Slice
slices_in (list.One slice) = slice ∷ []
slices_in (list.Many slices) = slices.items

-- for how many slices a list has memory
abbrev pub capacity_of : SliceList → ℕ
capacity_of (list.One slice) = 0
capacity_of (list.Many slices) = vec_capacity slices

-- how many slices of a file are listed in memory: one for each entry, and none for a file with no table
abbrev pub listed_count : List ℕ → ℕ
listed_count file = if is_universal file then entry_count file else 0

-- Where the slices of a file take memory

-- the span of the slice of entry k
abbrev pub slice_span : List ℕ → ℕ → Span
slice_span file k =
    record { start = (entry_slice file k).start; len = (entry_slice file k).size }

-- the span of the one place that numbers the architecture of entry k
abbrev pub arch_span : List ℕ → ℕ → Span
arch_span file k =
    let place = entry_place file k in
    record { start = number Big 4 file place * 2 ^ 24 + masked (number Big 4 file (place + 4)); len = 1 }

-- the spans of the entries, in order
abbrev pub entry_spans : List ℕ → (ℕ → Span) → List Span
entry_spans file span = map span (range_with_len 0 (entry_count file))

-- rule r sorts the entries by their spans: the rules before it are unbroken, and the spans neither
-- ascend nor descend
abbrev pub SortsEntries : List ℕ → Rule → (ℕ → Span) → Type 0
SortsEntries file r span = KeptBelow (BreaksFile file) (rank r) × IsUnordered (entry_spans file span)

-- The slices of a file take memory: it is universal, and its slices are listed, since none of its
-- rules is broken, or one of the two rules that compare its entries sorts them.
abbrev pub SlicesTakeMemory : List ℕ → Type 0
SlicesTakeMemory file =
    IsUniversal file
    × (NothingBreaks (BreaksFile file) ⊎ SortsEntries file rule.FatOverlap (slice_span file)
    ⊎ SortsEntries file rule.FatDuplicate (arch_span file))

-- A fault is the first broken rule of the file, or that there was no memory, which is reported only
-- where the slices take memory.
abbrev pub IsFatFault : List ℕ → FatFault → Type 0
IsFatFault file (fault.Broken b) = IsLeast (BreaksFile file) b
IsFatFault file fault.Memory = SlicesTakeMemory file

-- The same where the one slice of a file that is an image takes memory too.
abbrev pub IsListFault : List ℕ → FatFault → Type 0
IsListFault file (fault.Broken b) = IsLeast (BreaksFile file) b
IsListFault file fault.Memory = NothingBreaks (BreaksFile file) ⊎ SlicesTakeMemory file
