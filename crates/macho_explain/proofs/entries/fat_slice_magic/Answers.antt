use Rattle.std.proofs.Common.{◌≡◌, ◌∙◌, ◌<◌, ap, arith, below_more, subst, sym}
use Rattle.std.proofs.lemmas.Bool.{false≢true}
use Rattle.macho_fields.specs.Bytes.{bytes_of}
use Rattle.macho_fields.specs.Universal.{FileSlice, entry_count}
use Rattle.macho_fat.specs.Slices.{slice_of}
use Rattle.macho_explain.specs.Entries.{HasTable, IsForeignAt, IsForeignSlice}
use Rattle.macho_explain.proofs.ListedEntries.{entry_is}
use Rattle.macho_explain.proofs.entries.fat_slice_magic.Goals as goal
use Rattle.macho_explain.proofs.entries.fat_slice_magic.Goals.{else-slice-place-via-then-slice-place+else-is_foreign, else-slice-place-via-else-slice-place}

pub loop-index-preserved : goal.loop-index-preserved
loop-index-preserved c =
    let file = bytes_of c.args.file in
    let place = c.args.place in
    let index = c.loop-index.index in
    let slice = c.in_ok-slice.slice in
    λ (has : HasTable file).
    let less : index < entry_count file = omega (arith, c.loop-index-test.true, c.entry_count-index-end.ensures has) in
    let is = entry_is file index slice has less c.in_ok-slice.ensures.listed in
    let none : ¬ IsForeignAt file index place = λ here.
    let start : slice.span.start ≡ place = ap (λ (s : FileSlice). s.start) is ∙ here.0 in
    let foreign : IsForeignSlice file (slice_of slice) = subst (IsForeignSlice file) (sym is) here.1 in
    elim c.else-slice-place.branch [
      | else-slice-place-via-then-slice-place+else-is_foreign w ↦ false≢true (sym w.if-is_foreign.false ∙ w.is_foreign.ensures.1 foreign)
      | else-slice-place-via-else-slice-place w ↦ w.if-slice-place.false start
    ] in
    below_more (λ k. ¬ IsForeignAt file k place) index (c.loop-index.invariant has) none
