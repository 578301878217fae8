use Rattle.std.proofs.Common.{◌∙◌, rules}
use Rattle.macho_words.proofs.Numbers.{parsed}
use Rattle.macho_words.proofs.number.digits_in.Goals as goal

pub returns : goal.returns
returns c = c.ok.ensures.value ∙ parsed c.args.base c.args.most c.args.digits.now c.from_str_radix.result (search rules) (search rules) c.from_str_radix.ensures.value
