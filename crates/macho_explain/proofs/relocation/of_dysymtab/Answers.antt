use Rattle.std.proofs.Common.{◌∙◌, sym}
use Rattle.macho_fields.specs.Image.{commands_of}
use Rattle.macho_fields.specs.declared.header.loader.TheConstants as loader
use Rattle.macho_image.specs.Command.{first_with_cmd}
use Rattle.macho_explain.proofs.SectionItems.{no_dysymtab}
use Rattle.macho_explain.proofs.relocation.of_dysymtab.Goals as goal

pub returns-in_err-index : goal.returns-in_err-index
returns-in_err-index c =
    let image = c.args.image.now in
    rw c.from_residual-in_err-index.ensures (no_dysymtab image c.args.sliced.now.place (first_with_cmd image loader.LC_DYSYMTAB (commands_of image)) c.in_ok-dysymtab.dysymtab
    (sym c.in_ok-dysymtab.was ∙ c.dysymtab.ensures) c.in_default.ensures c.in_err-index.ensures)
