use Rattle.std.proofs.Common.{◌∙◌, refl, sym, ap}
use Rattle.macho_fields.specs.Bytes.{bytes_of}
use Rattle.macho_fixups.specs.ChainedFixups.{row_at}
use Rattle.macho_fixups.proofs.ChainWalks.{row_none, row_last, row_next}
use Rattle.macho_fixups.proofs.chained_fixups.ChainFixups.follow.Goals as goal

pub returns-in_err-row-clause-rows : goal.returns-in_err-row-clause-rows
returns-in_err-row-clause-rows c =
    let t = c.args.self.now in
    let image = bytes_of t.image in
    let table = bytes_of t.table in
    let segment = c.args.segment in
    let cursor = c.args.cursor.now in
    let none = ap (λ page. row_at image t.base table t.header segment.place segment.index segment.starts page cursor.offset) (sym c.saturating_sub-page.ensures) ∙ sym c.in_err-row.ensures.row in
    rw c.from_residual.ensures (
      refl,
      λ others. row_none image t.base table t.header segment.place segment.index segment.starts cursor.page cursor.left cursor.offset others c.requires.next none,
    )

pub returns-then-distance-eq0-clause-rows : goal.returns-then-distance-eq0-clause-rows
returns-then-distance-eq0-clause-rows c =
    let t = c.args.self.now in
    let image = bytes_of t.image in
    let table = bytes_of t.table in
    let segment = c.args.segment in
    let cursor = c.args.cursor.now in
    let some = ap (λ page. row_at image t.base table t.header segment.place segment.index segment.starts page cursor.offset) (sym c.saturating_sub-page.ensures) ∙ sym c.in_ok-row.ensures.row in
    λ others. row_last image t.base table t.header segment.place segment.index segment.starts cursor.page cursor.left cursor.offset others (c.in_ok-row.row, c.in_ok-row.distance) c.requires.next some c.if-distance-eq0.true

pub returns-else-distance-eq0-clause-rows : goal.returns-else-distance-eq0-clause-rows
returns-else-distance-eq0-clause-rows c =
    let t = c.args.self.now in
    let image = bytes_of t.image in
    let table = bytes_of t.table in
    let segment = c.args.segment in
    let cursor = c.args.cursor.now in
    let some = ap (λ page. row_at image t.base table t.header segment.place segment.index segment.starts page cursor.offset) (sym c.saturating_sub-page.ensures) ∙ sym c.in_ok-row.ensures.row in
    λ others. row_next image t.base table t.header segment.place segment.index segment.starts cursor.page cursor.left cursor.offset others (c.in_ok-row.row, c.in_ok-row.distance) c.requires.next some c.if-distance-eq0.false
