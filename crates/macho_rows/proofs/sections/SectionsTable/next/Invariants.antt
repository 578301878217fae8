use Rattle.std.proofs.Common.{◌≡◌, length}
use Rattle.macho_fields.specs.Bytes.{bytes_of}
use Rattle.macho_rows.specs.Loads.{wanted_left}
use Rattle.macho_rows.specs.Sections.{sections_left}
use Rattle.macho_rows.specs.declared.load.Wanted.TheVariants as wanted
use Rattle.macho_rows.proofs.sections.SectionsTable.next.Given as goal

-- only segments without sections were skipped
abbrev pub invariant-loop-row : goal.invariant-loop-row
invariant-loop-row l =
    sections_left l.self.image.place (bytes_of l.self.image.bytes) l.initial.cursor
    ≡ sections_left l.self.image.place (bytes_of l.self.image.bytes) l.cursor

abbrev pub decreases-loop-row : goal.decreases-loop-row
decreases-loop-row l = length (wanted_left wanted.Segments (bytes_of l.self.image.bytes) l.cursor)
