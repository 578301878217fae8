use Rattle.macho_fields.specs.Bytes.{bytes_of}
use Rattle.macho_fields.specs.declared.header.loader.TheConstants as loader
use Rattle.macho_explain.specs.Wholes.{named_table}
use Rattle.macho_explain.proofs.Wholes.{in_image, lacks}
use Rattle.macho_explain.proofs.functions.function_number.Goals as goal

pub returns-in_err-at : goal.returns-in_err-at
returns-in_err-at c =
    let image = bytes_of c.args.sliced.now.held.bytes in
    rw c.from_residual.ensures (λ s. c.in_err-at.ensures (in_image image (named_table image loader.LC_FUNCTION_STARTS) _ c.args.sliced.now.place (λ start offset bytes less. less) s.1))

pub returns-in_err-whole : goal.returns-in_err-whole
returns-in_err-whole c =
    let image = bytes_of c.args.sliced.now.held.bytes in
    rw c.from_residual-in_err-whole.ensures (lacks image (named_table image loader.LC_FUNCTION_STARTS) _ c.args.sliced.now.place c.in_err-whole.ensures)
