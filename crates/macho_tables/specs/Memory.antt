-- Memory, which has a byte for each address, and what it has of an image that is loaded at its base.
use Rattle.std.specs.Prelude.{◌≡◌, ℕ, ◌+◌, ◌<◌, List, map, Any, Contains, true, false, slice_index}
use Rattle.std.specs.List.{range_with_len}
use Rattle.macho_fields.specs.Image.{commands_of}
use Rattle.macho_fields.specs.Segment.{all_segments, vmaddr, vmsize, fileoff, filesize}
use Rattle.macho_tables.specs.Homes.{Encrypts}
use Rattle.macho_tables.specs.Segments.{is_constant, is_protected}

-- so many bytes of memory, from an address on
abbrev pub bytes_from : (ℕ → ℕ) → ℕ → ℕ → List ℕ
bytes_from memory address n = map memory (range_with_len address n)

-- Memory has the bytes of the file where a loader cannot write and a kernel does not decrypt. It is so
-- when an image has been mapped.
abbrev pub IsKept : List ℕ → (ℕ → ℕ) → Type 0
IsKept image memory =
    (s k : ℕ) → Contains (all_segments image) s → 0 < vmsize image s → is_constant image s ≡ true
    → is_protected image s ≡ false → k < filesize image s
    → (¬ Any (Encrypts (record { start = fileoff image s + k; len = 1 }) image) (commands_of image))
    → memory (vmaddr image s + k) ≡ slice_index image (fileoff image s + k)
