use Rattle.std.proofs.Common.{◌∙◌, sym, inl, inr}
use Rattle.std.proofs.lemmas.Bool.{false≢true}
use Rattle.macho_fields.specs.Bytes.{bytes_of}
use Rattle.macho_explain.specs.Fixups.{IsImportsAt}
use Rattle.macho_explain.proofs.Fixups.{at_fixup, no_fixup}
use Rattle.macho_explain.proofs.chains.chain_imports.Goals as goal

pub returns-in_err-chains : goal.returns-in_err-chains
returns-in_err-chains c = rw c.from_residual.ensures (no_fixup (bytes_of c.args.sliced.now.held.bytes) IsImportsAt c.args.sliced.now.place c.in_err-chains.ensures.chains)

pub returns-in_err-index : goal.returns-in_err-index
returns-in_err-index c =
    let image = bytes_of c.args.sliced.now.held.bytes in
    let found = c.in_ok-chains.chains in
    rw c.from_residual-in_err-index.ensures (λ s.
    let (offset, at, has) = at_fixup image found.table.span (bytes_of found.bytes) found.header c.in_ok-chains.ensures.chains IsImportsAt c.args.sliced.now.place s in
    elim has [
      | inl past ↦ false≢true (sym c.if-imports_end_past.false ∙ c.imports_end_past.ensures.1 past.1)
      | inr import ↦ c.in_err-index.ensures.at offset at import
    ])
