use Rattle.macho_text.proofs.Digits.{decimal_pair, decimal_pairs}
use Rattle.macho_text.proofs.number.decimal_pair.Goals as goal

pub returns : goal.returns
unfolding decimal_pairs
returns c = decimal_pair c.args.value c.requires
