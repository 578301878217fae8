use Rattle.std.proofs.Common.{◌≡◌, ◌∙◌, arith}
use Rattle.macho_fields.specs.Universal.{entry_count}
use Rattle.macho_fat.proofs.SharedSpans.{none_returned, returned_more, all_returned}
use Rattle.macho_fat.proofs.sharing.listed_spans.Goals as goal

pub loop-k-init : goal.loop-k-init
loop-k-init g c = (
  none_returned (goal.F-post g c.args.span_of) c.args.table.now c.in_ok-list.list.spans c.in_ok-list.ensures.none,
  c.in_ok-list.ensures.capacity ∙ omega (arith, c.count.ensures.count),
)

pub loop-k-preserved : goal.loop-k-preserved
loop-k-preserved g c =
    let (are, room) = c.loop-k.invariant in (
      returned_more (goal.F-post g c.args.span_of) c.args.table.now c.loop-k.k c.loop-k.list.spans c.push.new.self.spans c.entry.result c.span_of.result are
          c.entry.ensures c.span_of.ensures c.in_ok-push.ensures.ok,
      c.push.ensures.room (omega (arith, are.count, room)) ∙ room,
    )

pub returns-clause-spans : goal.returns-clause-spans
returns-clause-spans g c = λ span of.
    let all : c.loop-k.k ≡ entry_count c.args.table.now = omega (arith, c.count-k-end.ensures.count) in
    all_returned (goal.F-post g c.args.span_of) c.args.table.now c.loop-k.k c.loop-k.list.spans all c.loop-k.invariant.0 span of
