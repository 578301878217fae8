use Rattle.macho_explain.proofs.BrokenAlike.{directory_agree, signature_slot}
use Rattle.macho_explain.proofs.readers_law.broken_signature_rule_is_about.Goals as goal

pub returns-clause-signature_slot : goal.returns-clause-signature_slot
returns-clause-signature_slot c = λ keeps place broken. signature_slot c.args.image.now keeps c.requires place broken

pub returns-clause-directory_agree : goal.returns-clause-directory_agree
returns-clause-directory_agree c = λ keeps place broken. directory_agree c.args.image.now keeps c.requires place broken
