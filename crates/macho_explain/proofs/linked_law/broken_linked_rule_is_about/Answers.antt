use Rattle.macho_explain.proofs.Linked.{data_in_code, function_number, function_start, signature_slack}
use Rattle.macho_explain.proofs.linked_law.broken_linked_rule_is_about.Goals as goal

pub returns-clause-function_number : goal.returns-clause-function_number
returns-clause-function_number c = λ keeps place broken. function_number c.args.image.now keeps place broken

pub returns-clause-function_start : goal.returns-clause-function_start
returns-clause-function_start c = λ keeps place broken. function_start c.args.image.now keeps place broken

pub returns-clause-data_in_code : goal.returns-clause-data_in_code
returns-clause-data_in_code c = λ keeps place broken. data_in_code c.args.image.now keeps place broken

pub returns-clause-signature_slack : goal.returns-clause-signature_slack
returns-clause-signature_slack c = λ keeps place broken. signature_slack c.args.image.now keeps place broken
