-- The rows of the sections of an image. (mach-o/loader.h: section_64)
use Rattle.std.specs.Prelude.{ℕ, ◌+◌, ◌%◌, ◌==◌, ◌&&◌, ◌||◌, List, [], ◌++◌, map, drop, flat_map, nat_le, if◌then◌else◌, Bool}
use Rattle.macho_fields.specs.Image.{commands_of}
use Rattle.macho_fields.specs.Segment.{segments_of, sections_in, nsects, section_address, section_size, section_offset, reloff, nreloc, section_flags}
use Rattle.macho_fields.specs.declared.header.loader.TheConstants as loader
use Rattle.macho_image.specs.Segment.{section_name, segment_name, section_align, reserved1, reserved2}
use Rattle.macho_rows.specs.Loads.{is_command, is_segment, wanted_left}
use Rattle.macho_rows.specs.Spans.{part_or_none, span_at, span_of}
use Rattle.macho_rows.specs.declared.cursor.KesvuotCursor.{KesvuotCursor}
use Rattle.macho_rows.specs.declared.load.Wanted.TheVariants as wanted
use Rattle.macho_rows.specs.declared.sections.KesvuotSection.{KesvuotSection}
use Rattle.macho_rows.specs.declared.span.KesvuotSpan.{KesvuotSpan}

-- whether the type in the low byte of the flags has no bytes in the file
abbrev pub fills_zeros : ℕ → Bool
fills_zeros flags =
    (flags % 256 == loader.S_ZEROFILL) || (flags % 256 == loader.S_GB_ZEROFILL)
    || (flags % 256 == loader.S_THREAD_LOCAL_ZEROFILL)

-- where the bytes of a section lie, in an image that begins at `place` in the file
abbrev pub section_span : ℕ → List ℕ → ℕ → ℕ → ℕ → KesvuotSpan
section_span place image offset size flags =
    if fills_zeros flags then span_at 0 0
    else span_of (place + offset) (part_or_none offset size image)

-- the row of a section of a segment
abbrev pub section_row : ℕ → List ℕ → ℕ → ℕ → KesvuotSection
section_row place image segment section = record {
  name = span_of (place + section) (section_name image section);
  segment = span_of (place + (segment + 8)) (segment_name image segment);
  bytes =
      section_span place image (section_offset image section) (section_size image section)
      (section_flags image section);
  addr = section_address image section;
  size = section_size image section;
  offset = section_offset image section;
  align = section_align image section;
  reloff = reloff image section;
  nreloc = nreloc image section;
  flags = section_flags image section;
  reserved1 = reserved1 image section;
  reserved2 = reserved2 image section;
  zero_fill = if fills_zeros (section_flags image section) then 1 else 0;
}

-- the rows of a segment
abbrev pub section_rows : ℕ → List ℕ → ℕ → List KesvuotSection
section_rows place image segment =
    map (section_row place image segment) (sections_in image segment)

-- how many sections the segment at a place has, and 0 where none can be
abbrev pub nsects_at : List ℕ → ℕ → ℕ
nsects_at image segment =
    if nat_le loader.MACH_HEADER_64_SIZE segment && is_command image segment
    && is_segment image segment
    then nsects image segment else 0

-- those that remain of the segment that a cursor has reached
abbrev pub rows_reached : ℕ → List ℕ → KesvuotCursor → List KesvuotSection
rows_reached place image cursor =
    if nat_le loader.MACH_HEADER_64_SIZE cursor.segment && is_command image cursor.segment
    && is_segment image cursor.segment
    then drop cursor.items (section_rows place image cursor.segment) else []

-- those that remain at a cursor
abbrev pub sections_left : ℕ → List ℕ → KesvuotCursor → List KesvuotSection
sections_left place image cursor =
    rows_reached place image cursor
    ++ flat_map (section_rows place image) (wanted_left wanted.Segments image cursor)

-- the rows of all segments, in the order of the commands
abbrev pub all_sections : ℕ → List ℕ → List KesvuotSection
all_sections place image =
    flat_map (section_rows place image) (segments_of image (commands_of image))
