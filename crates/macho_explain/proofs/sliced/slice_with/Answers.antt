use Rattle.std.proofs.Common.{◌≡◌, ◌∙◌, Some, ap, arith, below_more, inl, inr, sym}
use Rattle.std.specs.Prelude.{slice_get, IsTrue}
use Rattle.std.proofs.lemmas.Bool.{cases_lt, false≢true}
use Rattle.macho_fields.specs.Bytes.{bytes_of}
use Rattle.macho_fields.specs.Universal.{slices_of}
use Rattle.macho_fat.specs.Slices.{slice_of, MarksReadInside}
use Rattle.macho_spans.specs.Span.{Holds}
use Rattle.macho_explain.specs.FirstSlices.{HasImageWith, HasSlices}
use Rattle.macho_explain.proofs.FirstImages.{no_image, none_past}
use Rattle.macho_explain.proofs.sliced.slice_with.Goals as goal
use Rattle.macho_explain.proofs.sliced.slice_with.Goals.{else-slice-via-then-slice+else-holds, else-slice-via-else-slice}

pub loop-index-preserved : goal.loop-index-preserved
loop-index-preserved c =
    let file = bytes_of c.args.file in
    let place = c.args.place in
    let index = c.loop-index.index in
    let slice = c.in-Ok-Some.slice in
    let found = rw c.in-Ok-Some.field-0-is at c.in-Ok-Some.ensures.slice in
    let marks : MarksReadInside file slice = rw c.in-Ok-Some.field-0-is at c.in-Ok-Some.ensures.read in
    let listed : slice_get (slices_of file) index ≡ Some (slice_of slice) = sym (found ∙ ap (slice_get (slices_of file)) c.from.ensures) in
    let none : ¬ (IsTrue slice.read × Holds slice.span place) = λ both. elim c.else-slice.branch [
      | else-slice-via-then-slice+else-holds w ↦ false≢true (sym w.if-holds.false ∙ w.holds.ensures.1 both.1)
      | else-slice-via-else-slice w ↦ false≢true (sym w.if-slice.false ∙ both.0)
    ] in
    below_more (λ k. ¬ HasImageWith file place k) index c.loop-index.invariant (no_image file place index slice listed marks none)

pub returns-clause-first : goal.returns-clause-first
returns-clause-first c =
    let file = bytes_of c.args.file in
    λ (kept : HasSlices file) k. elim (cases_lt k c.loop-index.index) [
      | inl less ↦ c.loop-index.invariant k less
      | inr past ↦ none_past file c.args.place k (omega (arith, past, c.loop-index-test.false, c.slice_count-index-end.ensures kept))
    ]
