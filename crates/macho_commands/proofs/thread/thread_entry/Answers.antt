use Rattle.std.proofs.Common.{◌≡◌, ◌∙◌, ◌≤◌, ◌++◌, [], ◌∷◌, ℕ, None, List, length, refl, sym, subst}
use Rattle.macho_image.specs.Command.{command_of}
use Rattle.macho_rules.proofs.Surveys.{walked, walked_on}
use Rattle.macho_commands.specs.Commands.{NamesEntry, IsThreadEntry}
use Rattle.macho_commands.proofs.CommandWalks.{is_command, has_next, has_head, thread_among, thread_next, thread_passed, thread_found, thread_none}
use Rattle.macho_commands.proofs.Given.{Gives, none_given, given_both}
use Rattle.macho_commands.proofs.thread.thread_entry.Goals as goal

pub loop-command-init : goal.loop-command-init
loop-command-init c = ([], refl, refl)

pub sound_entry-requires : goal.sound_entry-requires
sound_entry-requires c =
    let are = c.into_iter-command-iterator.ensures.into_iter_gives ∙ c.commands-command-items.ensures.commands in
    let image = c.args.image.now in
    let opened = c.commands-command-items.ensures.opened in
    let (seen, reached, same) = c.loop-command.invariant in
    let v = command_of c.in-Some.command in
    subst (λ (bytes : List ℕ). 8 ≤ length bytes) (sym c.new.ensures) (has_head image v (is_command image opened _ are v (has_next image opened _ are seen _ v (walked _ seen _ v _ reached c.in-Some.ensures.steps))))

pub returns-then-is_thread : goal.returns-then-is_thread
returns-then-is_thread c =
    let are = c.into_iter-command-iterator.ensures.into_iter_gives ∙ c.commands-command-items.ensures.commands in
    let image = c.args.image.now in
    let (seen, reached, same) = c.loop-command.invariant in
    let v = command_of c.in-Some.command in
    given_both (NamesEntry image v.bytes) (IsThreadEntry image) c.sound_entry.result
    (subst (λ (bytes : List ℕ). Gives (NamesEntry image bytes) c.sound_entry.result) c.new.ensures c.sound_entry.ensures)
    (thread_found image _ are v (same ∙ thread_next _ _ v c.in-Some.ensures.steps (sym c.is_thread.ensures ∙ c.if-is_thread.true)))

pub loop-command-preserved : goal.loop-command-preserved
loop-command-preserved c =
    let (seen, reached, same) = c.loop-command.invariant in
    let v = command_of c.in-Some.command in
    (seen ++ v ∷ [], walked_on _ seen _ v _ reached c.in-Some.ensures.steps, same ∙ thread_passed _ _ v c.in-Some.ensures.steps (sym c.is_thread.ensures ∙ c.if-is_thread.false))

pub returns : goal.returns
returns c =
    let are = c.into_iter-command-iterator.ensures.into_iter_gives ∙ c.commands-command-items.ensures.commands in
    let image = c.args.image.now in
    let (seen, reached, same) = c.loop-command.invariant in
    none_given (IsThreadEntry image) None refl
    (thread_none image _ are (same ∙ subst (λ left. thread_among left ≡ None) (sym c.in-None.ensures.steps.0) refl))
