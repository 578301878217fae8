use Rattle.std.proofs.Common.{◌∙◌, ◌≡◌, ◌+◌, true, refl, sym, ap}
use Rattle.macho_fields.specs.Bytes.{bytes_of}
use Rattle.macho_fixups.specs.ChainedFixups.{has_entry}
use Rattle.macho_fixups.specs.declared.cursor.KesvuotFixupCursor.{KesvuotFixupCursor}
use Rattle.macho_rows.specs.Loads.{wanted_left}
use Rattle.macho_rows.specs.declared.load.Wanted.TheVariants as wanted
use Rattle.macho_fixups.proofs.ChainSegments.{turns_past, turns_to, fewer, segment_inside}
use Rattle.macho_fixups.proofs.chained_fixups.ChainFixups.turn_segment.Goals as goal

pub returns-then-seg_info_offset-eq0-clause-turns : goal.returns-then-seg_info_offset-eq0-clause-turns
returns-then-seg_info_offset-eq0-clause-turns c =
    let t = c.args.self.now in
    let image = bytes_of t.image in
    let table = bytes_of t.table in
    let old = c.args.cursor.now in
    let load = c.in-Some.load in
    let rest = wanted_left wanted.Segments image c.next_wanted.new.cursor in
    let new : KesvuotFixupCursor = record old { place = c.next_wanted.new.cursor.place; commands = c.next_wanted.new.cursor.commands; segment = old.segment + 1 } in
    let is : has_entry table t.header old.segment ≡ true = sym c.has_entry.ensures.entry ∙ c.if-not-has_entry.false in
    λ done. (
      turns_past image t.base table t.header old _ load.place rest c.in-Some.ensures.first refl is refl
          (sym c.seg_info_offset.ensures ∙ c.if-seg_info_offset-eq0.true) refl refl,
      fewer image t.base table t.header old new load.place rest c.in-Some.ensures.first refl is refl,
    )

pub returns-clause-turns : goal.returns-clause-turns
returns-clause-turns c =
    let t = c.args.self.now in
    let image = bytes_of t.image in
    let table = bytes_of t.table in
    let old = c.args.cursor.now in
    let load = c.in-Some.load in
    let starts = c.in-Some-starts_at.starts in
    let rest = wanted_left wanted.Segments image c.next_wanted.new.cursor in
    let new : KesvuotFixupCursor = record old { place = c.next_wanted.new.cursor.place; commands = c.next_wanted.new.cursor.commands; segment = old.segment + 1 } in
    let is : has_entry table t.header old.segment ≡ true = sym c.has_entry.ensures.entry ∙ c.if-not-has_entry.false in
    λ done. (
      turns_to image t.base table t.header old _ load.place rest c.in-Some.ensures.first refl is refl starts
          (λ none. c.if-seg_info_offset-eq0.false (c.seg_info_offset.ensures ∙ none)) (sym c.in-Some-starts_at.ensures.starts) c.if-starts-cursor.false
          c.in-Some.ensures.past (segment_inside image load c.in-Some.ensures.load.0 c.in-Some.ensures.load.1)
          refl (ap (λ size. starts.offset + size) c.from.ensures) refl refl,
      fewer image t.base table t.header old new load.place rest c.in-Some.ensures.first refl is refl,
    )
