use Rattle.std.proofs.Common.{sym, ap, ◌∙◌}
use Rattle.std.specs.Option.{is_some}
use Rattle.macho_fields.specs.Bytes.{bytes_of}
use Rattle.macho_identity.proofs.AgreeingDirectories.{fields_there}
use Rattle.macho_identity.proofs.directory_agree.directory_at.Goals as goal

pub returns-clause-fields : goal.returns-clause-fields
returns-clause-fields c = fields_there (bytes_of c.new-bytes.result) (ap is_some (sym c.read.ensures ∙ c.in_ok-read.was))
