use Rattle.macho_text.proofs.Digits.{hex_pair, hex_pairs}
use Rattle.macho_text.proofs.number.hex_pair.Goals as goal

pub returns : goal.returns
unfolding hex_pairs
returns c = hex_pair c.args.value c.requires
