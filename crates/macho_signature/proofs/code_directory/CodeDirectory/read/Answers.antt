use Rattle.macho_signature.proofs.code_directory.CodeDirectory.read.Goals as goal

pub word_since-requires-2-clause-fields : goal.word_since-requires-2-clause-fields
word_since-requires-2-clause-fields c = c.is_directory.ensures.fields c.if-not-is_directory.false

pub word_since-requires-3-clause-fields : goal.word_since-requires-3-clause-fields
word_since-requires-3-clause-fields c = c.is_directory.ensures.fields c.if-not-is_directory.false

pub word_since-requires-4-clause-fields : goal.word_since-requires-4-clause-fields
word_since-requires-4-clause-fields c = c.is_directory.ensures.fields c.if-not-is_directory.false
