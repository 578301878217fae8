use Rattle.std.proofs.Common.{◌≡◌, ◌∙◌, ◌++◌, ◌∷◌, [], ap, sym, arith}
use Rattle.std.proofs.lemmas.List.Sums.{fold_push, sum_by_push}
use Rattle.std.proofs.lemmas.Option.{none-some}
use Rattle.macho_fields.specs.Bytes.{bytes_of}
use Rattle.macho_opcodes.specs.Cursor.{cursor_after, looks_up, moved, start, writes}
use Rattle.macho_opcodes.specs.declared.cursor.Cursor.{Cursor}
use Rattle.macho_opcodes.proofs.StepChains.{same_step, steps_more}
use Rattle.macho_opcodes.proofs.StreamWalks.{looked_up_more}
use Rattle.macho_opcodes.proofs.Within.{step_within}
use Rattle.macho_explain.proofs.Steps.{steps_go_on}
use Rattle.macho_explain.proofs.stream.reach_opcode.Goals as goal

-- no opcode is known there, on the way
pub returns-in_err-step : goal.returns-in_err-step
returns-in_err-step c =
    let stream = bytes_of c.args.stream in
    let (before, are, cursor, written, named, late) = c.loop-place.invariant in
    rw c.from_residual.ensures (λ ((others, reach), inside).
    let most = late others reach in
    let apart = c.if-place-offset.false in
    let (first, after, at, within) = steps_go_on c.args.opcodes stream before others c.loop-place.place c.args.offset are reach (omega (arith, most, apart)) in
    none-some (first, after) (sym c.in_err-step.was ∙ (c.step_at-found.ensures ∙ at)))

pub loop-place-smaller : goal.loop-place-smaller
loop-place-smaller c =
    let within = step_within c.args.opcodes (bytes_of c.args.stream) c.loop-place.place c.in_ok-step.step c.in_ok-step.next (sym c.step_at-found.ensures ∙ c.in_ok-step.was) in
    omega (arith, within.0, within.1)

pub loop-place-preserved : goal.loop-place-preserved
loop-place-preserved c =
    let stream = bytes_of c.args.stream in
    let of = c.args.opcodes in
    let step = c.in_ok-step.step in
    let place = c.loop-place.place in
    let (before, are, cursor, written, named, late) = c.loop-place.invariant in
    let at = sym c.step_at-found.ensures ∙ c.in_ok-step.was in
    let sum = sum_by_push writes before step in
    let size = looked_up_more start before step in
    let own : c.looks_up.result ≡ looks_up (cursor_after before) step = c.looks_up.ensures ∙ ap (λ (k : Cursor). looks_up k step) cursor in (
      before ++ step ∷ [],
      steps_more of stream before 0 place step c.in_ok-step.next are at,
      c.follow.ensures ∙ (ap (λ (k : Cursor). moved k step) cursor ∙ sym (fold_push moved start before step)),
      omega (arith, c.saturating_add-written.ensures, c.from.ensures, c.writes.ensures, written, sum),
      omega (arith, c.saturating_add-named.ensures, c.from-in-loop-place.ensures, own, named, size),
      λ others reach.
          let most = late others reach in
          let apart = c.if-place-offset.false in
          let (first, after, there, within) = steps_go_on of stream before others place c.args.offset are reach (omega (arith, most, apart)) in
          let same = (same_step _ step first c.in_ok-step.next after at there).1 in
          omega (arith, same, within),
    )
