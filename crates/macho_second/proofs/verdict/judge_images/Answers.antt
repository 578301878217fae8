use Rattle.std.proofs.Common.{◌≡◌, length, sym, subst, arith}
use Rattle.std.proofs.lemmas.Bool.{both_ways}
use Rattle.macho_fields.specs.Bytes.{bytes_of}
use Rattle.macho_fields.specs.First.{IsFirstBroken}
use Rattle.macho_fields.specs.Universal.{entry_count, entry_slice, slices_of, IsImage}
use Rattle.macho_fields.specs.declared.rule.Rule.TheVariants as rule
use Rattle.macho_fields.proofs.Slices.{slice_count, slice_of_entry}
use Rattle.macho_rules.specs.declared.refusal.Refusal.TheVariants as refusal
use Rattle.macho_rules.proofs.KeptSlices.{file_kept, image_kept, other_kept, all_kept}
use Rattle.macho_rules.proofs.Verdicts.{passed_on, slice_refused}
use Rattle.macho_second.proofs.verdict.judge_images.Goals as goal
use Rattle.macho_second.proofs.verdict.judge_images.Goals.{then-is_image+in_ok-judge_slice, else-is_image}

pub loop-k-init : goal.loop-k-init
loop-k-init c = file_kept (bytes_of c.args.entries.file) c.requires

pub bytes-requires-clause-inside : goal.bytes-requires-clause-inside
bytes-requires-clause-inside c = c.requires rule.FatSliceOutside

pub judge_slice-requires-clause-inside : goal.judge_slice-requires-clause-inside
judge_slice-requires-clause-inside c = c.requires rule.FatSliceOutside

pub returns-in_err-judge_slice-clause-first : goal.returns-in_err-judge_slice-clause-first
returns-in_err-judge_slice-clause-first c =
    let file = bytes_of c.args.entries.file in
    let here = slice_of_entry file c.loop-k.k c.args.entries.universal (omega (arith, c.args.entries.number)) in
    let image = subst IsImage c.bytes.ensures (c.is_image.ensures.0 c.if-is_image.true) in
    passed_on (IsFirstBroken file) c.from_residual.result c.in_err-judge_slice.field-0.0 c.from_residual.ensures.1
    (slice_refused file c.loop-k.k (entry_slice file c.loop-k.k) here c.loop-k.invariant image (refusal.Broken c.in_err-judge_slice.field-0.0) c.in_err-judge_slice.ensures.first)

pub loop-k-preserved : goal.loop-k-preserved
loop-k-preserved c =
    let file = bytes_of c.args.entries.file in
    let slice = entry_slice file c.loop-k.k in
    let here = slice_of_entry file c.loop-k.k c.args.entries.universal (omega (arith, c.args.entries.number)) in
    elim c.if-is_image.branch [
      | then-is_image+in_ok-judge_slice w ↦ image_kept file c.loop-k.k slice here c.loop-k.invariant w.in_ok-judge_slice.ensures.unbroken
      | else-is_image w ↦ other_kept file c.loop-k.k slice here c.loop-k.invariant
          (λ image. both_ways c.is_image.result w.if-is_image.false (c.is_image.ensures.1 (subst IsImage (sym c.bytes.ensures) image)))
    ]

pub returns-clause-unbroken : goal.returns-clause-unbroken
returns-clause-unbroken c =
    let file = bytes_of c.args.entries.file in
    let counted : length (slices_of file) ≡ entry_count file = slice_count file c.args.entries.universal in
    all_kept file c.loop-k.k (omega (arith, counted, c.args.entries.number)) c.loop-k.invariant
