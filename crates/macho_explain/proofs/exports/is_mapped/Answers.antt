use Rattle.std.proofs.Common.{◌∙◌, sym, subst}
use Rattle.macho_fields.specs.Bytes.{bytes_of}
use Rattle.macho_explain.specs.Compared.{HasAddress}
use Rattle.macho_explain.proofs.ShownExports.{has_address}
use Rattle.macho_explain.proofs.exports.is_mapped.Goals as goal

pub returns-in-Some : goal.returns-in-Some
returns-in-Some c = λ yes.
    let image = bytes_of c.args.sliced.now.held.bytes in
    let has = has_address image c.in-Some.address c.find_segment.result c.find_segment.ensures (sym c.is_some.ensures ∙ yes) in
    subst (HasAddress image) c.in-Some.ensures.1 has
