use Rattle.macho_fields.proofs.load_command.TableFields.item_count.Goals as goal

pub returns-clause-count : goal.returns-clause-count
returns-clause-count c = c.read.ensures.number
