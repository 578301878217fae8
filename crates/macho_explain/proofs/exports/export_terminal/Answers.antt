use Rattle.macho_fields.specs.Bytes.{bytes_of}
use Rattle.macho_explain.proofs.ShownExports.{has_place}
use Rattle.macho_explain.proofs.exports.export_terminal.Goals as goal

pub returns-in_err-node : goal.returns-in_err-node
returns-in_err-node c = rw c.from_residual.ensures (λ s. c.in_err-node.ensures (has_place (λ image trie terminal. Unit {0}) (bytes_of c.args.sliced.now.held.bytes) c.args.sliced.now.place s))
