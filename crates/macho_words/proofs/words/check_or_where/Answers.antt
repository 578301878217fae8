use Rattle.std.proofs.Common.{ap, ap₂, true, ◌∙◌}
use Rattle.std.proofs.lemmas.Result.{IfOk-weaker}
use Rattle.clap.specs.Words.{App, Shape, with_subcommand}
use Rattle.clap.specs.Simple.{app_of_fields, on_top}
use Rattle.macho_words.proofs.words.check_or_where.Goals as goal

abbrev with_one : Shape → Shape
with_one s = record s { subcommand_required = true }

pub returns : goal.returns
returns c =
    let top = ap app_of_fields c.subcommand_required.ensures ∙ ap (on_top with_one) c.bare_command.ensures in
    let checks = c.in_ok-subcommand.ensures.shape c.in_ok-check.ensures.local ∙ ap₂ with_subcommand top (ap (λ (a : App). a.top) c.in_ok-check.ensures.shape) in
    IfOk-weaker c.subcommand-2.result _ _ (λ r added. added.shape c.in_ok-place.ensures.local ∙ ap₂ with_subcommand checks (ap (λ (a : App). a.top) c.in_ok-place.ensures.shape)) c.subcommand-2.ensures
