-- The rows of the segments of an image. (mach-o/loader.h: segment_command_64)
use Rattle.std.specs.Prelude.{ℕ, ◌+◌, ◌-◌, ◌^◌, ◌==◌, min, List, [], ◌∷◌, map, if◌then◌else◌}
use Rattle.macho_fields.specs.Image.{commands_of}
use Rattle.macho_fields.specs.Segment.{segments_of, vmaddr, vmsize, fileoff, filesize, initprot, nsects}
use Rattle.macho_image.specs.Segment.{SegmentView, segment_at, segment_name, maxprot}
use Rattle.macho_rows.specs.Loads.{wanted_left}
use Rattle.macho_rows.specs.Spans.{part_or_none, span_of}
use Rattle.macho_rows.specs.declared.cursor.KesvuotCursor.{KesvuotCursor}
use Rattle.macho_rows.specs.declared.load.Wanted.TheVariants as wanted
use Rattle.macho_rows.specs.declared.segments.KesvuotSegment.{KesvuotSegment}

-- the bytes that a segment has in the image
abbrev pub segment_bytes : List ℕ → ℕ → List ℕ
segment_bytes image segment =
    part_or_none (fileoff image segment) (filesize image segment) image

-- the last of the addresses from the start on: below 2^64, and 0 without addresses
abbrev pub last_address : ℕ → ℕ → ℕ
last_address start size = if size == 0 then 0 else min (start + (size - 1)) (2 ^ 64 - 1)

-- how many sections there are up to the end of a segment: at most 2^64 - 1, which no image reaches
abbrev pub sections_past : ℕ → ℕ → ℕ
sections_past before own = min (before + own) (2 ^ 64 - 1)

-- the row of a segment of the image that begins at `place` in the file, with so many sections before its
-- own
abbrev pub segment_row : ℕ → List ℕ → ℕ → ℕ → KesvuotSegment
segment_row place image sections segment = record {
  name = span_of (place + (segment + 8)) (segment_name image segment);
  bytes = span_of (place + fileoff image segment) (segment_bytes image segment);
  vmaddr = vmaddr image segment;
  vmsize = vmsize image segment;
  last = last_address (vmaddr image segment) (vmsize image segment);
  fileoff = fileoff image segment;
  filesize = filesize image segment;
  first_section = sections;
  section_count = nsects image segment;
  maxprot = maxprot image segment;
  initprot = initprot image segment;
  reserved = 0;
}

-- the rows of some segments, where the first has so many sections before its own
abbrev pub segment_rows : ℕ → List ℕ → ℕ → List ℕ → List KesvuotSegment
segment_rows place image sections [] = []
segment_rows place image sections (segment ∷ rest) =
    segment_row place image sections segment
    ∷ segment_rows place image (sections_past sections (nsects image segment)) rest

-- those that remain at a cursor
abbrev pub segments_left : ℕ → List ℕ → KesvuotCursor → List KesvuotSegment
segments_left place image cursor =
    segment_rows place image cursor.items (wanted_left wanted.Segments image cursor)

-- the rows of all segments, in the order of the commands
abbrev pub all_segments : ℕ → List ℕ → List KesvuotSegment
all_segments place image = segment_rows place image 0 (segments_of image (commands_of image))

-- the segments as views
abbrev pub segments_seen : List ℕ → List SegmentView
segments_seen image = map (segment_at image) (segments_of image (commands_of image))
