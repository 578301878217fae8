use Rattle.std.proofs.Common.{◌≡◌, ◌==◌, ◌∙◌, ◌+◌, ℕ, Bool, List, Option, Some, ap, inl, inr, sym}
use Rattle.std.specs.Option.{option_map_or}
use Rattle.std.proofs.lemmas.Bool.{eq-eqb, eqb-true}
use Rattle.macho_fields.specs.Bytes.{bytes_of}
use Rattle.macho_fields.specs.Image.{command_cmd}
use Rattle.macho_fields.specs.declared.header.loader.TheConstants as loader
use Rattle.macho_image.specs.Command.{first_with_cmd}
use Rattle.macho_explain.specs.Explain.{all_loads, word_at}
use Rattle.macho_explain.proofs.Sought.{kept_first, none_kept}
use Rattle.macho_explain.proofs.command.symbol_count.Goals as goal

abbrev is_symtab : List ℕ → ℕ → Bool
is_symtab image command = command_cmd image command == loader.LC_SYMTAB

abbrev counted : List ℕ → Option ℕ → ℕ
counted image first = option_map_or (λ symtab. word_at image (symtab + 12)) first 0

pub returns-in-Some : goal.returns-in-Some
returns-in-Some c =
    let image = bytes_of c.args.sliced.now.held.bytes in
    let symtab = c.in-Some.symtab in
    let is = c.in-Some.ensures in
    let first : first_with_cmd image loader.LC_SYMTAB (all_loads image) ≡ Some symtab.load.place =
    kept_first (is_symtab image) (all_loads image) symtab.index symtab.load.place is.listed (eq-eqb _ _ is.meets)
    (λ j command less at passes. is.first j command less at (eqb-true (command_cmd image command) loader.LC_SYMTAB passes)) in
    λ few. c.from.ensures ∙ (c.word.ensures ∙ ap (counted image) (sym first))

pub returns-in-None : goal.returns-in-None
returns-in-None c =
    let image = bytes_of c.args.sliced.now.held.bytes in
    λ few. elim c.in-None.ensures [
      | inl none ↦
          ap (counted image) (sym (none_kept (is_symtab image) (all_loads image) (λ j command at passes. none j command at (eqb-true (command_cmd image command) loader.LC_SYMTAB passes))))
      | inr uncounted ↦ absurd (few uncounted)
    ]
