use Rattle.std.proofs.Common.{◌≡◌, ◌∙◌, ◌≤◌, ◌+◌, length, None, refl, arith, sym, true, List, ℕ}
use Rattle.std.proofs.lemmas.Bool.{le-leb}
use Rattle.std.proofs.lemmas.Option.{none-some}
use Rattle.std.specs.Prelude.{nat_le}
use Rattle.macho_chains.specs.ChainStarts.{entry_offset, seg_count}
use Rattle.macho_fields.specs.Bytes.{bytes_of}
use Rattle.macho_fields.specs.Field.{field, number}
use Rattle.macho_fields.specs.declared.bytes.Order.TheVariants.{Little}
use Rattle.macho_fields.specs.declared.header.loader.TheConstants as loader
use Rattle.macho_fields.specs.declared.rule.Rule.TheVariants as rule
use Rattle.macho_tables.specs.Items.{AtItem}
use Rattle.macho_explain.specs.Explained.{Explains}
use Rattle.macho_explain.specs.Fixups.{HasStartsAt, InFixups, IsStartsAt}
use Rattle.macho_explain.specs.Wholes.{named_table}
use Rattle.macho_explain.proofs.Fixups.{at_fixup, is_entry, no_fixup}
use Rattle.macho_explain.proofs.Found.{found_as}
use Rattle.macho_explain.proofs.Wholes.{whole_size}
use Rattle.macho_explain.proofs.chains.chain_starts.Goals as goal

-- a field that is inside is there
there : (chains : List ℕ) (offset : ℕ) → offset + 4 ≤ length chains → ¬ (field Little 4 chains offset ≡ None)
there chains offset inside none =
    let fits : nat_le (offset + 4) (length chains) ≡ true = le-leb (offset + 4) (length chains) inside in
    none-some (number Little 4 chains offset) (sym none ∙ rw fits refl)

pub returns-in_err-chains : goal.returns-in_err-chains
returns-in_err-chains c = rw c.from_residual.ensures (no_fixup (bytes_of c.args.sliced.now.held.bytes) IsStartsAt c.args.sliced.now.place c.in_err-chains.ensures.chains)

pub returns-else-sliced-saturating_add : goal.returns-else-sliced-saturating_add
returns-else-sliced-saturating_add c =
    let image = bytes_of c.args.sliced.now.held.bytes in
    let place = c.args.sliced.now.place in
    let found = c.in_ok-chains.chains in
    let chains = bytes_of found.bytes in
    let header = found.header in
    let is = c.in_ok-chains.ensures.chains in
    let size = whole_size image (named_table image loader.LC_DYLD_CHAINED_FIXUPS) found.table.span chains is.0 in
    let within = c.if-entries-table.false in
    let start = c.from-starts_offset.ensures in
    let apart = c.if-sliced-saturating_add.false in
    found_as _ (¬ InFixups IsStartsAt image place) (Explains rule.ChainStarts c.args.sliced.now) (Explains rule.ChainStarts c.args.sliced.now) c.at_entry.result
    (λ none s.
    let (offset, at, has) = at_fixup image found.table.span chains header is IsStartsAt place s in
    none offset at (
      s.0,
      is_entry (λ count. AtItem (entry_offset header) count (HasStartsAt chains header) offset) (seg_count chains header) offset header.starts_offset
          (there chains header.starts_offset (omega (arith, within, size, start)))
          (λ same. apart (omega (arith, same, at, start, c.saturating_add.ensures))) has,
    ))
    (λ e shown. shown) c.at_entry.ensures
