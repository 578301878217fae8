use Rattle.std.proofs.Common.{◌∙◌, sym, refl, arith}
use Rattle.std.proofs.lemmas.Bool.{false≢true}
use Rattle.macho_fields.specs.Bytes.{bytes_of}
use Rattle.macho_opcodes.proofs.Within.{step_within}
use Rattle.macho_readers.proofs.NamedFixups.{passed_none, passed_more, passed_stuck, passed_all, sets_here}
use Rattle.macho_readers.proofs.fixups.stream_names.Goals as goal

pub loop-place-init : goal.loop-place-init
loop-place-init c = passed_none c.args.number c.args.opcodes (bytes_of c.args.stream)

pub returns-in_default : goal.returns-in_default
returns-in_default c = (
  λ wrong. absurd (false≢true wrong),
  λ named. absurd (passed_stuck c.args.number c.args.opcodes (bytes_of c.args.stream) c.loop-place.place c.loop-place.invariant (sym c.in_default.ensures) named),
)

pub returns-then-sets_segment : goal.returns-then-sets_segment
returns-then-sets_segment c = (
  λ _. sets_here c.args.number c.args.opcodes (bytes_of c.args.stream) c.loop-place.place c.loop-place.invariant c.in-Some.step c.in-Some.next (sym c.in-Some.ensures) (λ cursor written. (c.sets_segment.ensures cursor written).0 c.if-sets_segment.true),
  λ _. refl,
)

pub loop-place-smaller : goal.loop-place-smaller
loop-place-smaller c =
    let within = step_within c.args.opcodes (bytes_of c.args.stream) c.loop-place.place c.in-Some.step c.in-Some.next (sym c.in-Some.ensures) in
    omega (arith, c.len.ensures.count, c.loop-place-test.true)

pub loop-place-preserved : goal.loop-place-preserved
loop-place-preserved c =
    passed_more c.args.number c.args.opcodes (bytes_of c.args.stream) c.loop-place.place c.loop-place.invariant c.in-Some.step c.in-Some.next (sym c.in-Some.ensures)
    (λ cursor written sets. false≢true (sym c.if-sets_segment.false ∙ (c.sets_segment.ensures cursor written).1 sets))

pub returns : goal.returns
returns c = (
  λ wrong. absurd (false≢true wrong),
  λ named. absurd (passed_all c.args.number c.args.opcodes (bytes_of c.args.stream) c.loop-place.place c.loop-place.invariant (omega (arith, c.len.ensures.count, c.loop-place-test.false)) named),
)
