use Rattle.std.proofs.Common.{◌≡◌, ◌∙◌, List, ℕ, None, Some, subst, sym}
use Rattle.macho_exports.specs.Exports.{export_table}
use Rattle.macho_fields.specs.Bytes.{bytes_of}
use Rattle.macho_explain.proofs.Wholes.{opened_of}
use Rattle.macho_explain.proofs.exports.trie_table.Goals as goal

pub export_table-requires : goal.export_table-requires
export_table-requires c = opened_of c.in_ok-image.image (bytes_of c.args.sliced.now.held.bytes) c.in_ok-image.ensures.0 c.in_ok-image.ensures.1

pub returns-in_err-span : goal.returns-in_err-span
returns-in_err-span c = rw c.from_residual-in_err-span.ensures (λ opens.
    subst (λ (b : List ℕ). export_table b ≡ None) c.in_ok-image.ensures.1 (sym c.export_table.ensures.table ∙ c.in_err-span.was))

pub returns : goal.returns
returns c = rw c.bounded.ensures.span (subst (λ (b : List ℕ). export_table b ≡ Some c.in_ok-span.span) c.in_ok-image.ensures.1 (sym c.export_table.ensures.table ∙ c.in_ok-span.was))
