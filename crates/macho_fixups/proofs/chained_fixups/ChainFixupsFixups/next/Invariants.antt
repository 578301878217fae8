use Rattle.std.proofs.Common.{◌≡◌, length}
use Rattle.macho_fields.specs.Bytes.{bytes_of}
use Rattle.macho_fixups.specs.ChainedFixups.{fixups_left, loads_at}
use Rattle.macho_rows.specs.Loads.{wanted_left}
use Rattle.macho_rows.specs.declared.load.Wanted.TheVariants as wanted
use Rattle.macho_fixups.proofs.chained_fixups.ChainFixupsFixups.next.Given as goal

-- only segments without rows were passed
abbrev pub invariant-loop-segment : goal.invariant-loop-segment
invariant-loop-segment l =
    fixups_left (bytes_of l.self.image) l.self.base (bytes_of l.self.table) l.self.header l.initial.cursor
    ≡ fixups_left (bytes_of l.self.image) l.self.base (bytes_of l.self.table) l.self.header l.cursor

abbrev pub decreases-loop-segment : goal.decreases-loop-segment
decreases-loop-segment l = length (wanted_left wanted.Segments (bytes_of l.self.image) (loads_at l.cursor))
