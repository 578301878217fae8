use Rattle.std.proofs.Common.{◌≡◌, ◌<◌, List, ℕ, length, arith, subst, ap}
use Rattle.std.proofs.lemmas.Bool.{both_ways}
use Rattle.std.proofs.lemmas.Result.{err_from_is_err_and}
use Rattle.macho_fields.specs.Bytes.{bytes_of}
use Rattle.macho_fields.specs.Layers.{NothingBreaks}
use Rattle.macho_fields.specs.Rules.{BreaksFile}
use Rattle.macho_fields.specs.Universal.{slices_of}
use Rattle.macho_fields.proofs.Sound.{slice_inside}
use Rattle.macho_fat.specs.Slices.{slice_of, MarksRead}
use Rattle.macho_rules.specs.Verdict.{IsRefusal}
use Rattle.macho_rules.proofs.KeptSlices.{file_kept, image_kept, other_kept, all_kept}
use Rattle.macho_rules.proofs.Verdicts.{slice_there, slice_got, slice_refused, answered}
use Rattle.macho_rules.proofs.verdict.check_slices.Goals as goal
use Rattle.macho_rules.proofs.verdict.check_slices.Goals.{then-slice+in_ok-check_slice, else-slice}

pub loop-index-init : goal.loop-index-init
loop-index-init c = (file_kept (bytes_of c.args.file) (subst (λ (bytes : List ℕ). NothingBreaks (BreaksFile bytes)) c.requires c.count-index-end.ensures.unbroken), tt)

pub unwrap-slice-requires : goal.unwrap-slice-requires
unwrap-slice-requires c =
    let within : c.loop-index.index < length (slices_of c.args.slices.now) = omega (arith, c.count-index-end.ensures.count) in
    slice_there slice_of _ _ _ c.get.ensures.slice within

pub check_slice-requires : goal.check_slice-requires
check_slice-requires c =
    let file = bytes_of c.args.file in
    let here = slice_got _ file c.requires c.loop-index.index c.unwrap-slice.result (rw c.unwrap-slice.ensures at c.get.ensures.slice) in
    slice_inside file (subst (λ (bytes : List ℕ). NothingBreaks (BreaksFile bytes)) c.requires c.count-index-end.ensures.unbroken) c.loop-index.index _ here

pub returns-in_err-check_slice-clause-refused : goal.returns-in_err-check_slice-clause-refused
returns-in_err-check_slice-clause-refused c =
    let file = bytes_of c.args.file in
    let here = slice_got _ file c.requires c.loop-index.index c.unwrap-slice.result (rw c.unwrap-slice.ensures at c.get.ensures.slice) in
    let read = subst (λ (bytes : List ℕ). MarksRead bytes c.unwrap-slice.result) c.requires (rw c.unwrap-slice.ensures at c.get.ensures.read) in
    let exit = err_from_is_err_and c.from_residual.result c.from_residual.ensures.1 in
    answered (IsRefusal file) c.from_residual.result exit.0 c.in_err-check_slice.field-0.0 exit.1 exit.2
    (slice_refused file c.loop-index.index _ here c.loop-index.invariant.0 (read.0 c.if-slice.true) c.in_err-check_slice.field-0.0 c.in_err-check_slice.ensures.refused)

pub loop-index-preserved : goal.loop-index-preserved
loop-index-preserved c =
    let file = bytes_of c.args.file in
    let here = slice_got _ file c.requires c.loop-index.index c.unwrap-slice.result (rw c.unwrap-slice.ensures at c.get.ensures.slice) in
    let read = subst (λ (bytes : List ℕ). MarksRead bytes c.unwrap-slice.result) c.requires (rw c.unwrap-slice.ensures at c.get.ensures.read) in
    elim c.if-slice.branch [
      | then-slice+in_ok-check_slice w ↦ rw w.found-is (image_kept file c.loop-index.index _ here c.loop-index.invariant.0 w.in_ok-check_slice.ensures.unbroken, w.in_ok-check_slice.ensures.found c.loop-index.invariant.1)
      | else-slice w ↦ rw w.found-is (other_kept file c.loop-index.index _ here c.loop-index.invariant.0 (λ image. both_ways _ w.if-slice.false (read.1 image)), c.loop-index.invariant.1)
    ]

pub returns-clause-unbroken : goal.returns-clause-unbroken
returns-clause-unbroken c =
    let file = bytes_of c.args.file in
    let same : length (slices_of c.args.slices.now) ≡ length (slices_of file) = ap (λ (bytes : List ℕ). length (slices_of bytes)) c.requires in
    all_kept file c.loop-index.index (omega (arith, same, c.count-index-end.ensures.count)) c.loop-index.invariant.0

pub returns-clause-found : goal.returns-clause-found
returns-clause-found c = c.loop-index.invariant.1
