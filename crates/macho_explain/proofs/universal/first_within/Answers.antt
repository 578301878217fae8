use Rattle.std.proofs.Common.{◌≡◌, ◌≤◌, ◌<◌, ◌∙◌, ap, arith, below_more, sym}
use Rattle.std.proofs.lemmas.Bool.{false≢true}
use Rattle.macho_fields.specs.Bytes.{bytes_of}
use Rattle.macho_fields.specs.Universal.{FileSlice, entry_count, entry_slice}
use Rattle.macho_explain.specs.Entries.{HasTable}
use Rattle.macho_explain.proofs.ListedEntries.{entry_is}
use Rattle.macho_explain.proofs.EntryPages.{BeginsWithin}
use Rattle.macho_explain.proofs.universal.first_within.Goals as goal

pub loop-index-init : goal.loop-index-init
loop-index-init c = λ has k less. absurd (let none : ⊥ = omega (arith, less) in none)

pub loop-index-preserved : goal.loop-index-preserved
loop-index-preserved c =
    let file = bytes_of c.args.file in
    let index = c.loop-index.index in
    λ (has : HasTable file).
    let less : index < entry_count file = omega (arith, c.loop-index-test.true, c.entry_count-index-end.ensures has) in
    let own = entry_is file index c.in_ok-slice.slice has less c.in_ok-slice.ensures.listed in
    let start : c.in_ok-slice.slice.span.start ≡ (entry_slice file index).start = ap (λ (s : FileSlice). s.start) own in
    let none : ¬ BeginsWithin file c.args.start c.args.end index = λ is. false≢true (sym c.if-begins_within.false ∙ c.begins_within.ensures.1 (omega (arith, is.0, start), omega (arith, is.1, start))) in
    below_more (λ k. ¬ BeginsWithin file c.args.start c.args.end k) index (c.loop-index.invariant has) none

pub returns-in_err-slice : goal.returns-in_err-slice
returns-in_err-slice c =
    let file = bytes_of c.args.file in
    rw c.from_residual.ensures (λ has k less is.
    let past : entry_count file ≤ c.loop-index.index = c.in_err-slice.ensures.listed has in
    absurd (let none : ⊥ = omega (arith, past, c.loop-index-test.true, c.entry_count-index-end.ensures has) in none))

pub returns : goal.returns
returns c =
    λ has k less. c.loop-index.invariant has k (omega (arith, less, c.loop-index-test.false, c.entry_count-index-end.ensures has))
