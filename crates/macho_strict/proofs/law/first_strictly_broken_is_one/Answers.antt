use Rattle.macho_fields.proofs.Unique.{first_is_unique}
use Rattle.macho_strict.specs.First.{IsStrictlyBrokenIn}
use Rattle.macho_strict.proofs.law.first_strictly_broken_is_one.Goals as goal

pub returns : goal.returns
returns c = first_is_unique (IsStrictlyBrokenIn c.args.file.now) c.args.file.now c.args.first c.args.other c.requires.first c.requires.other
