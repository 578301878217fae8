use Rattle.std.proofs.Common.{◌∙◌, ◌++◌, [], ◌∷◌, map, refl, sym, ap}
use Rattle.macho_fields.specs.Image.{commands_of}
use Rattle.macho_image.specs.Command.{CommandView, command_of}
use Rattle.macho_commands.proofs.CommandWalks.{is_command, has_next}
use Rattle.macho_rules.proofs.Surveys.{walked, walked_on, walked_all}
use Rattle.macho_readers.specs.Commands.{platform_span}
use Rattle.macho_readers.proofs.Platforms.{mapped_spans, span_pushed, some_commands, if_err}
use Rattle.macho_readers.proofs.once.platforms.Goals as goal

pub loop-command-init : goal.loop-command-init
loop-command-init c = ([], refl, c.in_ok-list.ensures.none)

pub platform_span-requires : goal.platform_span-requires
platform_span-requires c =
    let are = c.into_iter-command-iterator.ensures.into_iter_gives ∙ c.commands-command-items.ensures.commands in
    let opened = c.commands-command-items.ensures.opened in
    let (seen, reached, listed) = c.loop-command.invariant in
    let v = command_of c.in-Some.command in
    is_command c.args.image.now opened _ are v (has_next c.args.image.now opened _ are seen _ v (walked _ seen _ v _ reached c.in-Some.ensures.steps))

pub loop-command-preserved : goal.loop-command-preserved
loop-command-preserved c =
    let (seen, reached, listed) = c.loop-command.invariant in
    let v = command_of c.in-Some.command in (
      seen ++ v ∷ [],
      walked_on _ seen _ v _ reached c.in-Some.ensures.steps,
      span_pushed c.args.image.now seen v _ _ _ c.in_ok-push.ensures.ok listed c.platform_span.ensures,
    )

pub returns-in_err-push-clause-memory : goal.returns-in_err-push-clause-memory
returns-in_err-push-clause-memory c =
    let are = c.into_iter-command-iterator.ensures.into_iter_gives ∙ c.commands-command-items.ensures.commands in
    let opened = c.commands-command-items.ensures.opened in
    let (seen, reached, listed) = c.loop-command.invariant in
    let v = command_of c.in-Some.command in
    if_err c.from_residual-in_err-push.result _ (some_commands c.args.image.now _ are v (has_next c.args.image.now opened _ are seen _ v (walked _ seen _ v _ reached c.in-Some.ensures.steps)))

pub returns-clause-spans : goal.returns-clause-spans
returns-clause-spans c =
    let are = c.into_iter-command-iterator.ensures.into_iter_gives ∙ c.commands-command-items.ensures.commands in
    let (seen, reached, listed) = c.loop-command.invariant in
    let image = c.args.image.now in
    let all = walked_all _ seen _ reached c.in-None.ensures.steps.0 in
    listed ∙ (ap (map (λ (v : CommandView). platform_span image v.place)) (sym all ∙ are) ∙ mapped_spans image (commands_of image))
