-- Where the bytes of a segment lie in its image.
use Rattle.std.specs.Prelude.{ℕ, ◌+◌, ◌^◌, ◌<◌, List}
use Rattle.macho_fields.specs.Segment.{fileoff, filesize}
use Rattle.macho_rules.specs.declared.mapping.FilePart.{FilePart}

-- where the bytes of the segment lie whose command is at the place
abbrev pub file_at : List ℕ → ℕ → FilePart
file_at image segment = record {
  fileoff = fileoff image segment;
  filesize = filesize image segment;
}

-- the bytes of the segment end below 2^64
abbrev pub FitsFile : FilePart → Type 0
FitsFile file = 0 < file.filesize → file.fileoff + file.filesize < 2 ^ 64
