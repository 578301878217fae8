use Rattle.macho_fields.specs.Bytes.{bytes_of}
use Rattle.macho_rules.proofs.TableRange.{NoneOutside}
use Rattle.macho_rules.proofs.tables.has_table_outside.Given as goal

-- no table before this one has items and ends past the image
abbrev pub invariant-loop-fields : goal.invariant-loop-fields
invariant-loop-fields l = NoneOutside (bytes_of l.image) l.command l.fields-items l.fields-index
