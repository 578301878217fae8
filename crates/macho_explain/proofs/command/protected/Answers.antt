use Rattle.std.proofs.Common.{◌+◌, ◌∙◌, ap, arith}
use Rattle.macho_fields.specs.Bytes.{bytes_of}
use Rattle.macho_explain.specs.Explain.{word_at}
use Rattle.macho_explain.proofs.command.protected.Goals as goal

pub overflow_add-segment : goal.overflow_add-segment
overflow_add-segment c = omega (arith, c.requires.near)

pub returns-clause-value : goal.returns-clause-value
returns-clause-value c = rw c.alone.ensures (c.from-flags.ensures ∙ (c.word.ensures ∙ ap (λ p. word_at (bytes_of c.args.sliced.now.held.bytes) (p + 68)) c.requires.meets))
