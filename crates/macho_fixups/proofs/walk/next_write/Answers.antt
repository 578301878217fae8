use Rattle.std.proofs.Common.{◌∙◌, sym, ap, arith}
use Rattle.macho_fields.specs.Bytes.{bytes_of}
use Rattle.macho_opcodes.proofs.Within.{step_within}
use Rattle.macho_fixups.specs.Walks.{writes_from}
use Rattle.macho_fixups.proofs.StepLists.{write_found, write_passed, no_write}
use Rattle.macho_fixups.proofs.walk.next_write.Goals as goal

pub returns-in-Some-write-clause-first : goal.returns-in-Some-write-clause-first
returns-in-Some-write-clause-first c =
    c.loop-step.invariant
    ∙ write_found c.args.opcodes (bytes_of c.args.stream) c.loop-step.place c.loop-step.walk c.in-Some.step c.in-Some.next c.in-Some-write.write (sym c.in-Some.ensures) (sym c.in-Some-write.ensures.write)

pub loop-step-smaller : goal.loop-step-smaller
loop-step-smaller c =
    let within = step_within c.args.opcodes (bytes_of c.args.stream) c.loop-step.place c.in-Some.step c.in-Some.next (sym c.in-Some.ensures) in
    omega (arith, within)

pub loop-step-preserved : goal.loop-step-preserved
loop-step-preserved c =
    c.loop-step.invariant
    ∙ (write_passed c.args.opcodes (bytes_of c.args.stream) c.loop-step.place c.loop-step.walk c.in-Some.step c.in-Some.next (sym c.in-Some.ensures) (sym c.in_default-write.ensures.write)
    ∙ ap (writes_from c.args.opcodes (bytes_of c.args.stream) c.in-Some.next) (sym c.follow.ensures))
