use Rattle.macho_c.proofs.Entries.{has_entries}
use Rattle.macho_c.proofs.data_in_code.kesvuot_read_data_in_code.Goals as goal

pub returns-clause-all : goal.returns-clause-all
returns-clause-all c = λ shows. has_entries c.args.file.now c.args.image.now shows
