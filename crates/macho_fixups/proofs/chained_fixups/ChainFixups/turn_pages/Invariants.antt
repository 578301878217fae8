use Rattle.std.proofs.Common.{◌≡◌, ◌-◌, List}
use Rattle.macho_fields.specs.Bytes.{bytes_of}
use Rattle.macho_fixups.specs.ChainedFixups.{pages_left, IsSameSegment}
use Rattle.macho_fixups.specs.declared.row.KesvuotFixup.{KesvuotFixup}
use Rattle.macho_fixups.proofs.chained_fixups.ChainFixups.turn_pages.Given as goal

-- only pages without a chain were passed
abbrev pub invariant-loop-cursor : goal.invariant-loop-cursor
invariant-loop-cursor l = record {
  left : (others : List KesvuotFixup)
      → pages_left (bytes_of l.self.image) l.self.base (bytes_of l.self.table) l.self.header l.segment.place l.segment.index l.segment.starts l.initial.cursor.page l.initial.cursor.left l.initial.cursor.offset others
      ≡ pages_left (bytes_of l.self.image) l.self.base (bytes_of l.self.table) l.self.header l.segment.place l.segment.index l.segment.starts l.cursor.page l.cursor.left l.cursor.offset others;
  same : IsSameSegment l.initial.cursor l.cursor;
}

abbrev pub decreases-loop-cursor : goal.decreases-loop-cursor
decreases-loop-cursor l = l.segment.starts.page_count - l.cursor.page
