use Rattle.std.proofs.Common.{ap₂, ◌∙◌}
use Rattle.std.proofs.lemmas.Result.{IfOk-weaker}
use Rattle.clap.specs.Words.{with_rule}
use Rattle.macho_verify.proofs.words.profile_and_file.Goals as goal

pub returns : goal.returns
returns c =
    let profile_is = c.in_ok-arg.ensures.shape c.argument.ensures.local ∙ ap₂ with_rule c.bare_command.ensures c.argument.ensures.rule in
    IfOk-weaker c.arg-2.result _ _ (λ r added. added.shape c.argument-2.ensures.local ∙ ap₂ with_rule profile_is c.argument-2.ensures.rule) c.arg-2.ensures
