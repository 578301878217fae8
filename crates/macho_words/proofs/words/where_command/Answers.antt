use Rattle.std.proofs.Common.{ap₂, ◌∙◌, ◌||◌}
use Rattle.std.proofs.lemmas.Result.{IfOk-weaker}
use Rattle.clap.specs.Words.{with_rule}
use Rattle.macho_words.proofs.words.where_command.Goals as goal

pub returns-clause-shape : goal.returns-clause-shape
returns-clause-shape c =
    let file_is = c.in_ok-arg.ensures.shape c.argument.ensures.local ∙ ap₂ with_rule c.new.ensures.app c.argument.ensures.rule in
    let slice_is = c.in_ok-arg-2.ensures.shape c.argument-2.ensures.local ∙ ap₂ with_rule file_is c.argument-2.ensures.rule in
    IfOk-weaker c.arg-3.result _ _ (λ r added. added.shape c.argument-3.ensures.local ∙ ap₂ with_rule slice_is c.argument-3.ensures.rule) c.arg-3.ensures

pub returns-clause-local : goal.returns-clause-local
returns-clause-local c =
    let file_local = c.in_ok-arg.ensures.globals ∙ ap₂ ◌||◌ c.new.ensures.local c.argument.ensures.local in
    let slice_local = c.in_ok-arg-2.ensures.globals ∙ ap₂ ◌||◌ file_local c.argument-2.ensures.local in
    IfOk-weaker c.arg-3.result _ _ (λ r added. added.globals ∙ ap₂ ◌||◌ slice_local c.argument-3.ensures.local) c.arg-3.ensures
