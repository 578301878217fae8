use Rattle.std.proofs.Common.{ap₂, ◌∙◌, ◌||◌}
use Rattle.std.proofs.lemmas.Result.{IfOk-weaker}
use Rattle.clap.specs.Words.{with_rule}
use Rattle.macho_words.proofs.words.check_command.Goals as goal

pub returns-clause-shape : goal.returns-clause-shape
returns-clause-shape c = IfOk-weaker c.arg.result _ _ (λ r added. added.shape c.argument.ensures.local ∙ ap₂ with_rule c.new.ensures.app c.argument.ensures.rule) c.arg.ensures

pub returns-clause-local : goal.returns-clause-local
returns-clause-local c = IfOk-weaker c.arg.result _ _ (λ r added. added.globals ∙ ap₂ ◌||◌ c.new.ensures.local c.argument.ensures.local) c.arg.ensures
