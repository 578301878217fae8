use Rattle.std.proofs.Common.{◌∙◌, ℕ, List, subst, arith}
use Rattle.macho_fields.specs.Bytes.{bytes_of}
use Rattle.macho_opcodes.specs.Images.{opcodes_of}
use Rattle.macho_opcodes.specs.declared.streams.Stream.{Stream}
use Rattle.macho_opcodes.proofs.StepChains.{same_step}
use Rattle.macho_opcodes.proofs.Within.{step_within}
use Rattle.macho_explain.specs.Streams.{Asks, AtStep, HasOpcode, HasStep, stream_table}
use Rattle.macho_explain.specs.declared.stream.Asked.{Asked}
use Rattle.macho_explain.proofs.Wholes.{at_offset}
use Rattle.macho_explain.proofs.stream.step_of.Goals as goal

-- a known opcode is one
known : (asked : Asked) (one : Stream) (image : List ℕ) (place : ℕ) → HasStep asked one image place → HasOpcode one image place
known asked one image place (table, bytes, is, offset, at, (before, next, after, are, some, asks)) =
    let within = step_within (opcodes_of one) bytes offset next after some in
    (table, bytes, is, offset, at, ((before, are), omega (arith, within.0, within.1)))

pub returns-in_err-here : goal.returns-in_err-here
returns-in_err-here c =
    let image = bytes_of c.args.sliced.now.held.bytes in
    rw c.from_residual.ensures (λ (opens, has). c.in_err-here.ensures (opens, known c.args.asked c.args.stream image c.args.sliced.now.place has))

pub returns-in_err-conflict : goal.returns-in_err-conflict
returns-in_err-conflict c =
    let image = bytes_of c.args.sliced.now.held.bytes in
    let here = c.in_ok-here.here in
    let is = c.in_ok-here.ensures in
    let of = opcodes_of c.args.stream in
    rw c.from_residual-in_err-conflict.ensures (λ (opens, has).
    let (before, next, after, are, some, asks) = at_offset image (stream_table c.args.stream image) here.table.span (bytes_of here.bytes) is.whole
    (λ start stream offset. AtStep (λ earlier step. Asks c.args.asked step) of stream offset) c.args.sliced.now.place here.offset is.at has in
    let same = (same_step here.reached.found next c.in_ok-step.step after c.in_ok-step.next (is.reached.found ∙ some) c.in_ok-step.was).0 in
    c.in_err-conflict.ensures (opens, subst (Asks c.args.asked) same asks))
