use Rattle.std.proofs.Common.{◌≡◌, ◌∙◌, List, ℕ, ap, length, sym}
use Rattle.macho_fields.specs.Field.{string_from}
use Rattle.macho_fields.specs.Image.{commands_of}
use Rattle.macho_fields.specs.declared.header.loader.TheConstants as loader
use Rattle.macho_image.specs.Command.{first_with_cmd}
use Rattle.macho_image.specs.Symbol.{symtab_at}
use Rattle.macho_image.specs.declared.symtab.Symtab.{Symtab}
use Rattle.macho_explain.proofs.EarlierNames.{mapped_or, mapped_or_none}
use Rattle.macho_explain.proofs.symbol_kind.first_string.Goals as goal

pub returns-in_default-clause-string : goal.returns-in_default-clause-string
returns-in_default-clause-string c =
    let image = c.args.image.now in
    rw c.numbers.ensures (sym (mapped_or_none (symtab_at image) _ (first_with_cmd image loader.LC_SYMTAB (commands_of image)) 0 (sym c.in_default.is ∙ c.symtab.ensures)))

pub returns-clause-string : goal.returns-clause-string
returns-clause-string c =
    let image = c.args.image.now in
    let symtab = c.in-Some.symtab in
    let size = mapped_or (symtab_at image) (λ (s : Symtab). length (string_from s.stroff image)) (first_with_cmd image loader.LC_SYMTAB (commands_of image)) symtab 0 (sym c.in-Some.is ∙ c.symtab.ensures) in
    let string : c.string_at-string.result.now ≡ string_from symtab.stroff image = c.string_at-string.ensures ∙ ap (string_from symtab.stroff) c.bytes.ensures.bytes in
    rw c.against.ensures (ap (λ (s : List ℕ). length s) string ∙ sym size)
