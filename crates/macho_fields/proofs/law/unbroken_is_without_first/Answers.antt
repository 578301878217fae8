use Rattle.macho_fields.specs.First.{IsBrokenIn}
use Rattle.macho_fields.proofs.FirstExists.{unbroken_where_none_first}
use Rattle.macho_fields.proofs.law.unbroken_is_without_first.Goals as goal

pub returns : goal.returns
returns c = unbroken_where_none_first (IsBrokenIn c.args.file.now) c.args.file.now
