use Rattle.std.proofs.Common.{◌≡◌, true, refl, sym, ap, ◌∙◌, inl, inr}
use Rattle.macho_commands.specs.Commands.{is_thread}
use Rattle.macho_fields.specs.Image.{command_cmd}
use Rattle.macho_fields.specs.declared.header.loader.TheConstants as loader
use Rattle.macho_fields.specs.declared.load_command.Structure.TheVariants.{EntryPointCommand}
use Rattle.macho_image.specs.Command.{CommandView, command_of}
use Rattle.macho_tables.proofs.SymbolTables.{structure_whole}
use Rattle.macho_readers.proofs.entry.entry_address.Goals as goal

pub main_address-requires : goal.main_address-requires
main_address-requires c = structure_whole c.args.image.now (command_of c.args.command.now) c.requires loader.LC_MAIN c.if-command.true EntryPointCommand refl

pub returns-then-is_thread : goal.returns-then-is_thread
returns-then-is_thread c =
    let same = ap (λ (v : CommandView). v.cmd) c.requires.same in
    let is : is_thread (command_cmd c.args.image.now c.args.command.now.place) ≡ true = ap is_thread (sym same) ∙ (sym c.is_thread.ensures ∙ c.if-is_thread.true) in
    λ address. (
      λ found. inr (is, (c.thread_entry.ensures address).0 (sym c.wide.ensures ∙ found)),
      λ says. elim says [
        | inl main ↦ absurd (c.if-command.false (same ∙ main.0))
        | inr thread ↦ c.wide.ensures ∙ (c.thread_entry.ensures address).1 thread.1
      ],
    )
