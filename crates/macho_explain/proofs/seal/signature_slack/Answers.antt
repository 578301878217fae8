use Rattle.macho_fields.specs.Bytes.{bytes_of}
use Rattle.macho_fields.specs.declared.header.loader.TheConstants as loader
use Rattle.macho_explain.specs.Wholes.{named_table}
use Rattle.macho_explain.proofs.Wholes.{lacks, not_before}
use Rattle.macho_explain.proofs.seal.signature_slack.Goals as goal

pub returns-in_err-signature : goal.returns-in_err-signature
returns-in_err-signature c =
    let image = bytes_of c.args.sliced.now.held.bytes in
    rw c.from_residual-in_err-signature.ensures (λ s. lacks image (named_table image loader.LC_CODE_SIGNATURE) _ c.args.sliced.now.place c.in_err-signature.ensures s.1)

pub returns-then-sliced-signature : goal.returns-then-sliced-signature
returns-then-sliced-signature c =
    let image = bytes_of c.args.sliced.now.held.bytes in
    let found = c.in_ok-signature.signature in
    λ s. not_before image (named_table image loader.LC_CODE_SIGNATURE) found.table.span (bytes_of found.bytes) c.in_ok-signature.ensures _ c.args.sliced.now.place c.if-sliced-signature.true s.1.1
