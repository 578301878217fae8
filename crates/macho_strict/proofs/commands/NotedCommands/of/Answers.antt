use Rattle.std.proofs.Common.{◌∙◌, ℕ, List, refl, sym, subst}
use Rattle.macho_image.specs.Command.{command_of}
use Rattle.macho_image.specs.Opened.{IsCommandOf}
use Rattle.macho_strict.specs.Commands.{NotesOne}
use Rattle.macho_strict.proofs.CommandWalks.{none_noted, is_listed, one_noted, all_noted}
use Rattle.macho_strict.proofs.commands.NotedCommands.of.Goals as goal

pub loop-command-init : goal.loop-command-init
loop-command-init c =
    let are = c.into_iter-command-iterator.ensures.into_iter_gives ∙ c.commands-command-items.ensures.commands in
    none_noted c.args.image.now c.bytes-bytes.ensures.opened _ are _ refl refl refl c.of_headers.ensures

pub note-requires : goal.note-requires
note-requires c =
    let are = c.into_iter-command-iterator.ensures.into_iter_gives ∙ c.commands-command-items.ensures.commands in
    subst (λ (bytes : List ℕ). IsCommandOf bytes (command_of c.in-Some.command)) (sym c.bytes-bytes.ensures.bytes)
    (is_listed c.args.image.now c.bytes-bytes.ensures.opened _ are _ _ (command_of c.in-Some.command) c.in-Some.ensures.steps c.loop-command.noted c.loop-command.noted c.loop-command.invariant)

pub loop-command-preserved : goal.loop-command-preserved
loop-command-preserved c =
    let are = c.into_iter-command-iterator.ensures.into_iter_gives ∙ c.commands-command-items.ensures.commands in
    one_noted c.args.image.now c.bytes-bytes.ensures.opened _ are _ _ (command_of c.in-Some.command) c.in-Some.ensures.steps c.loop-command.noted c.note.new.self c.loop-command.invariant
    (subst (λ (bytes : List ℕ). NotesOne bytes (command_of c.in-Some.command) c.loop-command.noted c.note.new.self) c.bytes-bytes.ensures.bytes c.note.ensures)

pub returns : goal.returns
returns c =
    let are = c.into_iter-command-iterator.ensures.into_iter_gives ∙ c.commands-command-items.ensures.commands in
    all_noted c.args.image.now c.bytes-bytes.ensures.opened _ are _ c.in-None.ensures.steps.0 c.loop-command.noted c.loop-command.invariant
