use Rattle.macho_fields.specs.declared.rule.Rule.TheVariants as rule
use Rattle.macho_unambiguous.proofs.check.check_signature.Goals as goal

pub signature_slot-requires-clause-blob : goal.signature_slot-requires-clause-blob
signature_slot-requires-clause-blob c = c.requires.linked rule.SignatureBlob

pub directory_agree-requires-clause-blob : goal.directory_agree-requires-clause-blob
directory_agree-requires-clause-blob c = c.requires.linked rule.SignatureBlob
