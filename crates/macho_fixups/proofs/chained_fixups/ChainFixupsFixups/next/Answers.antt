use Rattle.std.proofs.Common.{◌≡◌, ◌∙◌, sym, subst}
use Rattle.macho_fields.specs.Bytes.{bytes_of}
use Rattle.macho_fixups.specs.ChainedFixups.{fixups_left, later}
use Rattle.macho_fixups.specs.declared.cursor.KesvuotFixupCursor.{KesvuotFixupCursor}
use Rattle.macho_fixups.proofs.ChainSegments.{followed, passed_pages, passed_none, finished}
use Rattle.macho_fixups.proofs.chained_fixups.ChainFixupsFixups.next.Goals as goal
use Rattle.macho_fixups.proofs.chained_fixups.ChainFixupsFixups.next.Goals.{in-Some+else-turn_pages, in_default}

pub returns-then-turn_pages : goal.returns-then-turn_pages
returns-then-turn_pages c =
    let t = c.args.self.now in
    let segment = c.in-Some.segment in
    let facts = c.in-Some.ensures.segment in
    let turned = c.turn_pages.ensures.turns c.if-turn_pages.true in
    followed (bytes_of t.image) t.base (bytes_of t.table) t.header segment.place segment.index segment.starts c.args.cursor.now c.loop-segment.cursor
    c.loop-segment.invariant (sym c.in-Some.ensures.read) facts.0 facts.1
    c.turn_pages.new.cursor c.follow.new.cursor c.follow.result c.turn_pages.ensures.same c.follow.ensures.same turned.1 c.follow.ensures.rows

pub returns-then-not-turn_segment : goal.returns-then-not-turn_segment
returns-then-not-turn_segment c =
    let t = c.args.self.now in
    let image = bytes_of t.image in
    let table = bytes_of t.table in
    let first = c.args.cursor.now in
    let cursor = c.match-segment_read.cursor in
    let Passed : KesvuotFixupCursor → Type 0 = λ m. (fixups_left image t.base table t.header first ≡ later image t.base table t.header m) × (fixups_left image t.base table t.header m ≡ later image t.base table t.header m) in
    let ended = c.turn_segment.ensures.ends c.if-not-turn_segment.true in
    let passed : Passed cursor = elim c.match-segment_read.branch [
      | in-Some+else-turn_pages w ↦
          subst Passed (sym w.cursor-is)
          (passed_pages image t.base table t.header w.in-Some.segment.place w.in-Some.segment.index w.in-Some.segment.starts first c.loop-segment.cursor
          c.loop-segment.invariant (sym w.in-Some.ensures.read) w.in-Some.ensures.segment.0 w.in-Some.ensures.segment.1
          w.turn_pages.new.cursor w.turn_pages.ensures.same (w.turn_pages.ensures.ends w.if-turn_pages.false))
      | in_default w ↦ subst Passed (sym w.cursor-is) (passed_none image t.base table t.header first c.loop-segment.cursor c.loop-segment.invariant (sym w.in_default.ensures.read))
    ] in
    finished image t.base table t.header first cursor c.turn_segment.new.cursor passed ended.0 ended.1

pub loop-segment-preserved : goal.loop-segment-preserved
loop-segment-preserved c =
    let t = c.args.self.now in
    let image = bytes_of t.image in
    let table = bytes_of t.table in
    let first = c.args.cursor.now in
    let cursor = c.match-segment_read.cursor in
    let Passed : KesvuotFixupCursor → Type 0 = λ m. (fixups_left image t.base table t.header first ≡ later image t.base table t.header m) × (fixups_left image t.base table t.header m ≡ later image t.base table t.header m) in
    let passed : Passed cursor = elim c.match-segment_read.branch [
      | in-Some+else-turn_pages w ↦
          subst Passed (sym w.cursor-is)
          (passed_pages image t.base table t.header w.in-Some.segment.place w.in-Some.segment.index w.in-Some.segment.starts first c.loop-segment.cursor
          c.loop-segment.invariant (sym w.in-Some.ensures.read) w.in-Some.ensures.segment.0 w.in-Some.ensures.segment.1
          w.turn_pages.new.cursor w.turn_pages.ensures.same (w.turn_pages.ensures.ends w.if-turn_pages.false))
      | in_default w ↦ subst Passed (sym w.cursor-is) (passed_none image t.base table t.header first c.loop-segment.cursor c.loop-segment.invariant (sym w.in_default.ensures.read))
    ] in
    passed.0 ∙ (c.turn_segment.ensures.turns c.if-not-turn_segment.false).0
