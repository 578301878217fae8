use Rattle.macho_fields.specs.Bytes.{bytes_of}
use Rattle.macho_fields.specs.declared.header.loader.TheConstants as loader
use Rattle.macho_explain.specs.Wholes.{named_table}
use Rattle.macho_explain.proofs.Wholes.{lacks}
use Rattle.macho_explain.proofs.functions.data_in_code.Goals as goal

pub returns-in_err-whole : goal.returns-in_err-whole
returns-in_err-whole c =
    let image = bytes_of c.args.sliced.now.held.bytes in
    rw c.from_residual.ensures (lacks image (named_table image loader.LC_DATA_IN_CODE) _ c.args.sliced.now.place c.in_err-whole.ensures)
