use Rattle.std.proofs.Common.{◌≡◌, ◌∙◌, refl, sym, arith, inl, inr}
use Rattle.macho_fields.specs.declared.header.loader.TheConstants as loader
use Rattle.macho_fields.specs.declared.load_command.Structure.TheVariants.{SymtabCommand, DysymtabCommand}
use Rattle.macho_image.specs.Command.{command_of}
use Rattle.macho_tables.proofs.SymbolTables.{number_is, structure_whole}
use Rattle.macho_tables.proofs.homes.has_homeless_symbols.Goals as goal

pub loses_symbols-requires : goal.loses_symbols-requires
loses_symbols-requires c = structure_whole c.args.image.now (command_of c.args.command.now) c.requires loader.LC_SYMTAB c.if-command-eq-LC_SYMTAB.true SymtabCommand refl

pub returns-then-command-eq-LC_SYMTAB : goal.returns-then-command-eq-LC_SYMTAB
returns-then-command-eq-LC_SYMTAB c =
    let number = number_is c.args.image.now (command_of c.args.command.now) c.requires loader.LC_SYMTAB c.if-command-eq-LC_SYMTAB.true in (
      λ is. inl (number, c.loses_symbols.ensures.0 is),
      λ lost. elim lost [
        | inl symbols ↦ c.loses_symbols.ensures.1 symbols.1
        | inr indirects ↦ absurd (let other : loader.LC_SYMTAB ≡ loader.LC_DYSYMTAB = sym number ∙ indirects.0 in omega (arith, other))
      ],
    )

pub loses_indirects-requires : goal.loses_indirects-requires
loses_indirects-requires c = structure_whole c.args.image.now (command_of c.args.command.now) c.requires loader.LC_DYSYMTAB c.if-command-eq-LC_DYSYMTAB.true DysymtabCommand refl
