use Rattle.macho_fields.proofs.Numbers.{found_numbered, none_numbered}
use Rattle.macho_fields.proofs.rule.Rule.with_number.Goals as goal

pub returns-clause-some : goal.returns-clause-some
returns-clause-some c = found_numbered c.args.number c.first_numbered.result c.first_numbered.ensures

pub returns-clause-none : goal.returns-clause-none
returns-clause-none c = none_numbered c.args.number c.first_numbered.result c.first_numbered.ensures
