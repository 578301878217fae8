use Rattle.std.proofs.Common.{◌∙◌, ◌++◌, [], ◌∷◌, refl}
use Rattle.macho_image.specs.Command.{command_of}
use Rattle.macho_rules.proofs.Surveys.{walked, walked_on, walked_all}
use Rattle.macho_commands.proofs.CommandWalks.{none_noted, one_noted, all_noted, is_command, has_next}
use Rattle.macho_commands.proofs.survey.CommandSurvey.of.Goals as goal

pub loop-command-init : goal.loop-command-init
loop-command-init c =
    let are = c.into_iter-command-iterator.ensures.into_iter_gives ∙ c.commands-command-items.ensures.commands in
    ([], refl, none_noted c.args.image.now c.commands-command-items.ensures.opened _ are c.new-walk.result c.new-walk.ensures)

pub note_thread-requires : goal.note_thread-requires
note_thread-requires c =
    let are = c.into_iter-command-iterator.ensures.into_iter_gives ∙ c.commands-command-items.ensures.commands in
    let image = c.args.image.now in
    let opened = c.commands-command-items.ensures.opened in
    let (seen, reached, noted) = c.loop-command.invariant in
    let v = command_of c.in-Some.command in
    is_command image opened _ are v (has_next image opened _ are seen _ v (walked _ seen _ v _ reached c.in-Some.ensures.steps))

pub loop-command-preserved : goal.loop-command-preserved
loop-command-preserved c =
    let are = c.into_iter-command-iterator.ensures.into_iter_gives ∙ c.commands-command-items.ensures.commands in
    let image = c.args.image.now in
    let opened = c.commands-command-items.ensures.opened in
    let (seen, reached, noted) = c.loop-command.invariant in
    let v = command_of c.in-Some.command in (
      seen ++ v ∷ [],
      walked_on _ seen _ v _ reached c.in-Some.ensures.steps,
      one_noted image opened _ are seen _ v (walked _ seen _ v _ reached c.in-Some.ensures.steps) c.loop-command.walk c.note_thread.new.self c.note_content.new.self noted
          c.note_thread.ensures.notes c.note_thread.ensures.routine c.note_thread.ensures.content c.note_content.ensures.notes c.note_content.ensures.has_thread c.note_content.ensures.thread,
    )

pub returns : goal.returns
returns c =
    let are = c.into_iter-command-iterator.ensures.into_iter_gives ∙ c.commands-command-items.ensures.commands in
    let (seen, reached, noted) = c.loop-command.invariant in
    let (thread, content) =
    all_noted c.args.image.now c.commands-command-items.ensures.opened _ are seen (walked_all _ seen _ reached c.in-None.ensures.steps.0) c.loop-command.walk noted in
    record { thread = thread; content = content }
