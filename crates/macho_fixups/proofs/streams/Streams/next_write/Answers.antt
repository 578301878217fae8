use Rattle.std.proofs.Common.{◌∙◌, sym, ap, arith}
use Rattle.macho_fields.specs.Bytes.{bytes_of}
use Rattle.macho_rows.specs.declared.span.Held.{Held}
use Rattle.macho_opcodes.specs.declared.step.Step.{Step}
use Rattle.macho_fixups.specs.Streams.{bytes_in}
use Rattle.macho_fixups.specs.Walks.{followed}
use Rattle.macho_fixups.proofs.StreamLists.{found_in_stream, none_in_stream}
use Rattle.macho_fixups.proofs.streams.Streams.next_write.Goals as goal

pub returns-in-Some-next_write-clause-first : goal.returns-in-Some-next_write-clause-first
returns-in-Some-next_write-clause-first c =
    let write = c.in-Some-next_write.reached.write in
    c.loop-one.invariant.same
    ∙ found_in_stream (bytes_in c.args.self.now) c.loop-one.at c.in-Some.one (sym c.in-Some.ensures) c.opcodes.result (bytes_of c.stream-stream.result.bytes) c.opcodes.ensures
    (ap (λ (held : Held). bytes_of held.bytes) c.stream-stream.ensures) write c.in-Some-next_write.reached.next c.follow.new.self
    (c.follow.ensures ∙ ap (λ (said : Step). followed write.walk said) c.step.ensures) c.in-Some-next_write.ensures.first

pub loop-one-preserved : goal.loop-one-preserved
loop-one-preserved c = record {
  same = c.loop-one.invariant.same
      ∙ none_in_stream (bytes_in c.args.self.now) c.loop-one.at c.in-Some.one (sym c.in-Some.ensures) c.opcodes.result (bytes_of c.stream-stream.result.bytes) c.opcodes.ensures
      (ap (λ (held : Held). bytes_of held.bytes) c.stream-stream.ensures) c.new.result c.new.ensures c.in_default-next_write.ensures.first;
  rises = let rises = c.loop-one.invariant.rises in omega (arith, rises);
}
