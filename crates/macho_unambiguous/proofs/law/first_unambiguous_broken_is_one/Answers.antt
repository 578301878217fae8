use Rattle.macho_fields.proofs.Unique.{first_is_unique}
use Rattle.macho_unambiguous.specs.Rules.{IsBrokenIn}
use Rattle.macho_unambiguous.proofs.law.first_unambiguous_broken_is_one.Goals as goal

pub returns : goal.returns
returns c = first_is_unique (IsBrokenIn c.args.file.now) c.args.file.now c.args.first c.args.other c.requires.first c.requires.other
