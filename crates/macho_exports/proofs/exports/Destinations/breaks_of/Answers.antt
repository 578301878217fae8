use Rattle.std.proofs.Common.{◌↔◌, ℕ, IsTrue, sym, subst, arith}
use Rattle.macho_fields.specs.Bytes.{bytes_of}
use Rattle.macho_exports.specs.Exports.{IsOfNoLibrary}
use Rattle.macho_exports.proofs.Destinations.{export_breaks}
use Rattle.macho_exports.proofs.exports.Destinations.breaks_of.Goals as goal

pub returns-clause-breaks : goal.returns-clause-breaks
returns-clause-breaks c image are =
    let library = subst (λ (n : ℕ). IsTrue c.is_of_no_library.result ↔ IsOfNoLibrary n c.in-Some.export.target) are.libraries c.is_of_no_library.ensures in
    export_breaks image (bytes_of c.args.trie) c.args.terminal c.in-Some.export c.is_of_no_library.result c.has_no_address.result (omega (arith, c.if-terminal-eq0.false)) (sym c.in-Some.ensures)
    library (c.has_no_address.ensures.nowhere image are)
