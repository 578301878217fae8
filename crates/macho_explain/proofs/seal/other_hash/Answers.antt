use Rattle.std.proofs.Common.{◌+◌}
use Rattle.macho_fields.specs.Bytes.{bytes_of}
use Rattle.macho_explain.proofs.ShownSeals.{special_shown}
use Rattle.macho_explain.proofs.seal.other_hash.Goals as goal

pub returns-in-Special-clause-none : goal.returns-in-Special-clause-none
returns-in-Special-clause-none c = rw c.in-Special.is c.other_special.ensures.none

pub returns-in-Special-clause-shown : goal.returns-in-Special-clause-shown
returns-in-Special-clause-shown c =
    let image = bytes_of c.args.sliced.now.held.bytes in
    let start = c.args.signature.now.table.span.start in
    let signature = bytes_of c.args.signature.now.bytes in
    let directory = c.args.directory.now in
    rw c.in-Special.is (special_shown image start signature (bytes_of directory.bytes) directory.fields (start + c.in-Special.blob.offset) c.other_special.result c.other_special.ensures.shown)
