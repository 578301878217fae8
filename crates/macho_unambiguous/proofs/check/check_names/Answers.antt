use Rattle.std.proofs.Common.{arith}
use Rattle.macho_fields.specs.declared.rule.Rule.TheVariants as rule
use Rattle.macho_unambiguous.proofs.check.check_names.Goals as goal

pub export_symbol-requires-clause-node : goal.export_symbol-requires-clause-node
export_symbol-requires-clause-node c = c.requires.linked rule.ExportNode

pub export_symbol-requires-clause-total : goal.export_symbol-requires-clause-total
export_symbol-requires-clause-total c = c.requires.linked rule.ExportTotal

pub export_symbol-requires-clause-edge : goal.export_symbol-requires-clause-edge
export_symbol-requires-clause-edge c = λ place broken. c.in_ok-judge-4.ensures rule.ExportEdge place (omega arith) broken

pub indirect_name-requires-clause-starts : goal.indirect_name-requires-clause-starts
indirect_name-requires-clause-starts c = c.requires.linked rule.ChainStarts

pub indirect_name-requires-clause-slots : goal.indirect_name-requires-clause-slots
indirect_name-requires-clause-slots c = c.requires.linked rule.ChainSlot
