use Rattle.macho_fields.proofs.load_command.TableFields.table_place.Goals as goal

pub returns : goal.returns
returns c = c.read.ensures.number
