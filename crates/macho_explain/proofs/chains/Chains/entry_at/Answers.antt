use Rattle.std.proofs.Common.{◌≡◌, ◌∙◌, ℕ, Option, Some, ap, sym, subst, arith}
use Rattle.std.specs.Prelude.{MatchOption}
use Rattle.macho_chains.specs.ChainStarts.{entry_offset, seg_count}
use Rattle.macho_fields.specs.Bytes.{bytes_of}
use Rattle.macho_fields.specs.Field.{field}
use Rattle.macho_fields.specs.declared.bytes.Order.TheVariants.{Little}
use Rattle.macho_tables.specs.Items.{AtItem}
use Rattle.macho_explain.specs.Fixups.{HasStartsAt}
use Rattle.macho_explain.proofs.chains.Chains.entry_at.Goals as goal

pub returns-in_err-index : goal.returns-in_err-index
returns-in_err-index c =
    let chains = bytes_of c.args.self.now.bytes in
    let header = c.args.self.now.header in
    let from = c.from-starts_offset.ensures in
    let counted : seg_count chains header ≡ Some c.in_ok-count.count = ap (field Little 4 chains) (sym from) ∙ (sym c.u32_at.ensures ∙ c.in_ok-count.was) in
    rw c.from_residual-in_err-index.ensures (λ has.
    let (k, less, at, starts) = subst (λ (o : Option ℕ). MatchOption o ⊥ (λ count. AtItem (entry_offset header) count (HasStartsAt chains header) c.args.offset)) counted has in
    c.in_err-index.ensures k less (omega (arith, at, from)))
