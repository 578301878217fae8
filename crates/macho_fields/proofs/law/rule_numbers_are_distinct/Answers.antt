use Rattle.macho_fields.proofs.Numbers.{number_determines_rule}
use Rattle.macho_fields.proofs.law.rule_numbers_are_distinct.Goals as goal

pub returns : goal.returns
returns c = number_determines_rule c.args.one c.args.other c.requires
