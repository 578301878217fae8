use Rattle.std.proofs.Common.{◌∙◌, ◌≤◌, arith}
use Rattle.macho_fields.specs.Bytes.{bytes_of}
use Rattle.macho_fixups.proofs.ChainWalks.{pages_done, page_empty, page_begun}
use Rattle.macho_fixups.proofs.chained_fixups.ChainFixups.turn_pages.Goals as goal
use Rattle.macho_fixups.proofs.chained_fixups.ChainFixups.turn_pages.Goals.{in-Some, in_default}

pub returns-then-cursor-from-clause-ends : goal.returns-then-cursor-from-clause-ends
returns-then-cursor-from-clause-ends c =
    let t = c.args.self.now in
    let segment = c.args.segment in
    let cursor = c.loop-cursor.cursor in
    let past : segment.starts.page_count ≤ cursor.page = omega (arith, c.if-cursor-from.true, c.from.ensures) in
    λ is others.
    let done = pages_done (bytes_of t.image) t.base (bytes_of t.table) t.header segment.place segment.index segment.starts cursor.page cursor.left cursor.offset others c.loop-cursor-test.true past in
    (c.loop-cursor.invariant.left others ∙ done, done)

pub loop-cursor-preserved : goal.loop-cursor-preserved
loop-cursor-preserved c =
    let t = c.args.self.now in
    let image = bytes_of t.image in
    let table = bytes_of t.table in
    let segment = c.args.segment in
    let cursor = c.loop-cursor.cursor in
    let less = c.if-cursor-from.false in
    let same = c.loop-cursor.invariant.same in
    elim c.match-first_offset.branch [
      | in-Some w ↦ rw w.cursor-is (record {
        left = λ others. c.loop-cursor.invariant.left others
            ∙ page_begun image t.base table t.header segment.place segment.index segment.starts cursor.page cursor.left cursor.offset w.in-Some.first others
            c.loop-cursor-test.true (omega (arith, less, c.from.ensures)) w.in-Some.ensures.0 w.in-Some.ensures.1;
        same = record { place = same.place; commands = same.commands; segment = same.segment; skip = same.skip; name = same.name };
      })
      | in_default w ↦ rw w.cursor-is (record {
        left = λ others. c.loop-cursor.invariant.left others
            ∙ page_empty image t.base table t.header segment.place segment.index segment.starts cursor.page cursor.left cursor.offset others
            c.loop-cursor-test.true (omega (arith, less, c.from.ensures)) w.in_default.ensures;
        same = record { place = same.place; commands = same.commands; segment = same.segment; skip = same.skip; name = same.name };
      })
    ]
