-- What is at an address of an image.
use Rattle.std.specs.Prelude.{◌≡◌, ◌≢◌, ℕ, ◌+◌, ◌-◌, ◌≤◌, ◌<◌, ◌⊎◌, ◌&&◌, nat_le, nat_lt, List, [], length, drop, find, Option, Some, None, MatchOption, Bool}
use Rattle.macho_fields.specs.Segment.{vmaddr, vmsize, fileoff, File, Zero, IsAtAddress}
use Rattle.macho_image.specs.Segment.{SegmentView}
use Rattle.macho_rows.specs.Segments.{segments_seen, segment_bytes}
use Rattle.macho_rows.specs.Spans.{span_of}
use Rattle.macho_rows.specs.declared.address.Source.{Source}
use Rattle.macho_rows.specs.declared.address.Source.TheVariants as source

-- whether the address is one of the vmsize addresses of the segment from vmaddr on
abbrev pub supplies : ℕ → SegmentView → Bool
supplies address s =
    nat_le (vmaddr s.image s.place) address
    && nat_lt address (vmaddr s.image s.place + vmsize s.image s.place)

-- the first segment that has the address
abbrev pub supplier : List ℕ → ℕ → Option SegmentView
supplier image address = find (supplies address) (segments_seen image)

-- the bytes that the segment has in the image, from the one at the address on
abbrev pub bytes_from : ℕ → SegmentView → List ℕ
bytes_from address s = drop (address - vmaddr s.image s.place) (segment_bytes s.image s.place)

-- What is at an address, in an image that begins at `place` in the file: the bytes of the first segment that
-- has it; where these are none a zero, and where no segment has it nothing.
abbrev pub HasSource : List ℕ → ℕ → ℕ → Option Source → Type 0
HasSource image place address found =
    MatchOption (supplier image address) (found ≡ None)
    (λ s. ((found
    ≡ Some (source.Bytes (span_of (place + (fileoff s.image s.place + (address - vmaddr s.image s.place)))
    (bytes_from address s))))
    × (bytes_from address s ≢ []))
    ⊎ ((found ≡ Some source.Zero) × (bytes_from address s ≡ [])))

-- What this says of an image that breaks no rule: the span begins with the byte at the address and lies in
-- the image, or there is a zero, or nothing is there.
abbrev pub IsSourceAt : List ℕ → ℕ → ℕ → Option Source → Type 0
IsSourceAt image place address (Some (source.Bytes span)) =
    (at : ℕ) × IsAtAddress image address (Some (File at))
    × (span.offset ≡ place + at) × (0 < span.size) × (at + span.size ≤ length image)
IsSourceAt image place address (Some source.Zero) = IsAtAddress image address (Some Zero)
IsSourceAt image place address None = IsAtAddress image address None
