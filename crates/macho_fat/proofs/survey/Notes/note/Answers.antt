use Rattle.std.proofs.Common.{◌+◌, refl, sym, subst}
use Rattle.macho_spans.specs.SpanOrder.{IsOrderOf}
use Rattle.macho_fat.specs.Slices.{slice_span, arch_span}
use Rattle.macho_fat.specs.TableWalk.{placed_spans}
use Rattle.macho_fat.proofs.FirstEntries.{none_broken}
use Rattle.macho_fat.proofs.SharedSpans.{slice_read, arch_read, order_more}
use Rattle.macho_fat.proofs.survey.Notes.note.Goals as goal

pub returns-then-is_broken : goal.returns-then-is_broken
returns-then-is_broken c = λ before.
    let file = c.args.table.now in
    let k = c.args.k in
    let entry = c.entry-entry.result in
    let is = c.entry-entry.ensures in
    let spans = order_more file (slice_span file) k entry.place entry.span c.args.self.now.spans c.note.new.self (slice_read file k entry entry.span is refl) is.place c.note.ensures before.spans in
    let archs = order_more file (arch_span file) k entry.place c.arch_span.result c.args.self.now.archs c.note-2.new.self
    (arch_read file k entry c.arch_span.result is (c.arch_span.ensures.start, c.arch_span.ensures.len)) is.place c.note-2.ensures before.archs in
    record {
      breaks = c.note_broken.ensures.breaks k is (record { outside = before.breaks.outside; in_table = before.breaks.in_table; misaligned = before.breaks.misaligned });
      spans = subst (IsOrderOf (placed_spans file (slice_span file) (k + 1))) (sym c.note_broken.ensures.spans) spans;
      archs = subst (IsOrderOf (placed_spans file (arch_span file) (k + 1))) (sym c.note_broken.ensures.archs) archs;
    }

pub returns-else-is_broken : goal.returns-else-is_broken
returns-else-is_broken c = λ before.
    let file = c.args.table.now in
    let k = c.args.k in
    let entry = c.entry-entry.result in
    let is = c.entry-entry.ensures in
    let breaks = none_broken file k c.args.self.now c.is_broken.result c.if-is_broken.false (c.is_broken.ensures k is) before.breaks in
    record {
      breaks = record { outside = breaks.outside; in_table = breaks.in_table; misaligned = breaks.misaligned };
      spans = order_more file (slice_span file) k entry.place entry.span c.args.self.now.spans c.note.new.self (slice_read file k entry entry.span is refl) is.place c.note.ensures before.spans;
      archs = order_more file (arch_span file) k entry.place c.arch_span.result c.args.self.now.archs c.note-2.new.self
          (arch_read file k entry c.arch_span.result is (c.arch_span.ensures.start, c.arch_span.ensures.len)) is.place c.note-2.ensures before.archs;
    }
