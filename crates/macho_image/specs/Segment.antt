-- The segments of an opened image, and their sections. (mach-o/loader.h: segment_command_64,
-- section_64)
use Rattle.std.specs.Prelude.{ℕ, ◌+◌, ◌==◌, List, Option, None, Some, map, flat_map, if◌then◌else◌}
use Rattle.std.specs.List.{before_first}
use Rattle.macho_fields.specs.Field.{part}
use Rattle.macho_fields.specs.Image.{word}
use Rattle.macho_fields.specs.Segment.{segments_of, sections_in}
use Rattle.macho_fields.specs.declared.header.loader.TheConstants as loader
use Rattle.macho_image.specs.Command.{CommandView, left_with_cmd}

-- a segment of an image, by its place
pub record SegmentView : Type 0 where
  pub image : List ℕ
  pub place : ℕ

abbrev pub segment_at : List ℕ → ℕ → SegmentView
segment_at image place = record { image = image; place = place }

-- a command of an image as a segment, if it is one
abbrev pub segment_of : List ℕ → CommandView → Option SegmentView
segment_of image command =
    if command.cmd == loader.LC_SEGMENT_64 then Some (segment_at image command.place) else None

-- a section of an image, by the place of its segment and its own
pub record SectionView : Type 0 where
  pub image : List ℕ
  pub segment : ℕ
  pub place : ℕ

-- a segment and the section are named by their places
abbrev pub section_at : List ℕ → ℕ × ℕ → SectionView
section_at image places = record { image = image; segment = places.0; place = places.1 }

-- the sections of a segment, each with the segment
abbrev pub sections_with : List ℕ → ℕ → List (ℕ × ℕ)
sections_with image segment = map (λ section. (segment, section)) (sections_in image segment)

-- the sections of all segments, in the order of the commands, each with its segment
abbrev pub sections_of : List ℕ → List ℕ → List (ℕ × ℕ)
sections_of image commands = flat_map (sections_with image) (segments_of image commands)

-- a name in 16 bytes, which ends before the first zero byte, where there is one
abbrev pub short_name : List ℕ → ℕ → List ℕ
short_name image place = before_first (λ b. b == 0) (part place 16 image)

-- segment_command_64: segname at 8; section_64: sectname at 0
abbrev pub segment_name : List ℕ → ℕ → List ℕ
segment_name image segment = short_name image (segment + 8)

abbrev pub section_name : List ℕ → ℕ → List ℕ
section_name image section = short_name image section

-- segment_command_64: maxprot at 56
abbrev pub maxprot : List ℕ → ℕ → ℕ
maxprot image segment = word image (segment + 56)

-- section_64: align at 52, an exponent of 2; reserved1 68, reserved2 72
abbrev pub section_align : List ℕ → ℕ → ℕ
section_align image section = word image (section + 52)

abbrev pub reserved1 : List ℕ → ℕ → ℕ
reserved1 image section = word image (section + 68)

abbrev pub reserved2 : List ℕ → ℕ → ℕ
reserved2 image section = word image (section + 72)

-- the segments among the commands that remain
abbrev pub segments_left : List ℕ → List CommandView → List SegmentView
segments_left image commands =
    map (λ c. segment_at image c.place) (left_with_cmd loader.LC_SEGMENT_64 commands)

-- the sections of the segments that remain
abbrev pub sections_among : List SegmentView → List SectionView
sections_among segments =
    flat_map (λ s. map (section_at s.image) (sections_with s.image s.place)) segments
