use Rattle.std.proofs.Common.{refl}
use Rattle.macho_text.specs.Stream.{joined}
use Rattle.macho_text.proofs.Texts.{escaped_other}
use Rattle.macho_text.proofs.name.escape.Goals as goal

pub returns : goal.returns
unfolding joined
returns c = rw (escaped_other c.args.byte c.requires, c.byte_digits.ensures) refl
