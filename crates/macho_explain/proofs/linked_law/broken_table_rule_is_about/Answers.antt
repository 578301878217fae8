use Rattle.macho_explain.proofs.LinkedTables.{chain_imports, chain_library, chain_starts, signature_directory, signature_whole}
use Rattle.macho_explain.proofs.linked_law.broken_table_rule_is_about.Goals as goal

pub returns-clause-chain_starts : goal.returns-clause-chain_starts
returns-clause-chain_starts c = λ keeps place broken. chain_starts c.args.image.now keeps place broken

pub returns-clause-chain_imports : goal.returns-clause-chain_imports
returns-clause-chain_imports c = λ keeps place broken. chain_imports c.args.image.now keeps place broken

pub returns-clause-chain_library : goal.returns-clause-chain_library
returns-clause-chain_library c = λ keeps place broken. chain_library c.args.image.now keeps place broken

pub returns-clause-signature_directory : goal.returns-clause-signature_directory
returns-clause-signature_directory c = λ keeps place broken. signature_directory c.args.image.now keeps place broken

pub returns-clause-signature_whole : goal.returns-clause-signature_whole
returns-clause-signature_whole c = λ keeps place broken. signature_whole c.args.image.now keeps place broken
