use Rattle.std.proofs.Common.{◌≡◌, ◌∙◌, ◌+◌, ◌-◌, ◌^◌, [], ap, sym}
use Rattle.std.specs.Prelude.{min}
use Rattle.macho_fields.specs.Field.{string_from}
use Rattle.macho_fields.specs.Image.{commands_of}
use Rattle.macho_fields.specs.declared.header.loader.TheConstants as loader
use Rattle.macho_image.specs.Command.{first_with_cmd}
use Rattle.macho_image.specs.Symbol.{symtab_at}
use Rattle.macho_image.specs.declared.symtab.Symtab.{Symtab}
use Rattle.macho_explain.proofs.EarlierNames.{mapped_or, same_string}
use Rattle.macho_explain.proofs.definition.name_of.Goals as goal

pub returns-in-Some : goal.returns-in-Some
returns-in-Some c =
    let image = c.args.image.now in
    let strx = c.args.symbol.strx in
    let symtab = c.in-Some.symtab in
    let start : c.saturating_add-start.result ≡ min (symtab.stroff + strx) (2 ^ 64 - 1) = c.saturating_add-start.ensures ∙ ap (λ n. min (symtab.stroff + n) (2 ^ 64 - 1)) c.from.ensures in
    let name = mapped_or (symtab_at image) (λ (s : Symtab). string_from (s.stroff + strx) image) (first_with_cmd image loader.LC_SYMTAB (commands_of image)) symtab [] (sym c.in-Some.is ∙ c.symtab.ensures) in
    c.string_at.ensures
    ∙ (ap (string_from c.saturating_add-start.result) c.bytes.ensures.bytes ∙ (ap (λ n. string_from n image) start ∙ (same_string (symtab.stroff + strx) image c.bytes.ensures.fits ∙ sym name)))
