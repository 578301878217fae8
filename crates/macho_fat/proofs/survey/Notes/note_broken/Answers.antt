use Rattle.macho_fields.specs.Universal.{IsSliceOutside, IsSliceInTable, IsSliceMisaligned}
use Rattle.macho_fat.proofs.FirstEntries.{entry_tested}
use Rattle.macho_fat.proofs.survey.Notes.note_broken.Goals as goal

pub returns-clause-breaks : goal.returns-clause-breaks
returns-clause-breaks c = λ k is before.
    let file = c.args.table.now in
    let place = c.args.entry.place in
    record {
      outside = entry_tested file (IsSliceOutside file) k place c.is_outside.result c.args.self.now.outside c.note_if.new.self is.place c.note_if.ensures (c.is_outside.ensures k is) before.outside;
      in_table = entry_tested file (IsSliceInTable file) k place c.is_in_table.result c.args.self.now.in_table c.note_if-2.new.self is.place c.note_if-2.ensures
          (c.is_in_table.ensures k is) before.in_table;
      misaligned = entry_tested file (IsSliceMisaligned file) k place c.is_misaligned.result c.args.self.now.misaligned c.note_if-3.new.self is.place c.note_if-3.ensures
          (c.is_misaligned.ensures file k is) before.misaligned;
    }
