use Rattle.std.proofs.Common.{OnOk, IfErr, sym, subst}
use Rattle.macho_fields.specs.Bytes.{bytes_of}
use Rattle.macho_fields.specs.First.{rank, IsFirstBroken, IsUnbroken}
use Rattle.macho_fields.specs.Layers.{KeptBelow}
use Rattle.macho_fields.specs.Rules.{BreaksFile}
use Rattle.macho_fields.specs.declared.bytes.Bytes.{Bytes}
use Rattle.macho_fields.specs.declared.rule.Rule.TheVariants as rule
use Rattle.macho_rules.proofs.KeptSlices.{file_first}
use Rattle.macho_rules.proofs.Verdicts.{passed_on}
use Rattle.macho_second.proofs.verdict.judge_universal.Goals as goal

pub returns-in_err-entries-clause-first : goal.returns-in_err-entries-clause-first
returns-in_err-entries-clause-first c =
    let file = bytes_of c.args.file in
    let found = c.in_err-entries.field-0.0 in
    passed_on (IsFirstBroken file) c.from_residual.result found c.from_residual.ensures.1 (file_first file found c.in_err-entries.ensures.continues)

pub judge_entries-requires : goal.judge_entries-requires
judge_entries-requires c =
    subst (λ (file : Bytes). KeptBelow (BreaksFile (bytes_of file)) (rank rule.FatSliceOutside)) (sym c.in_ok-entries.ensures.file) c.in_ok-entries.ensures.continues

pub returns-in_err-judge_entries-clause-first : goal.returns-in_err-judge_entries-clause-first
returns-in_err-judge_entries-clause-first c =
    let of_entries = bytes_of c.in_ok-entries.entries.file in
    let found = c.in_err-judge_entries.field-0.0 in
    subst (λ (file : Bytes). IfErr c.from_residual-in_err-judge_entries.result (IsFirstBroken (bytes_of file))) c.in_ok-entries.ensures.file
    (passed_on (IsFirstBroken of_entries) c.from_residual-in_err-judge_entries.result found c.from_residual-in_err-judge_entries.ensures.1
    (file_first of_entries found c.in_err-judge_entries.ensures))

pub judge_images-requires : goal.judge_images-requires
judge_images-requires c = c.in_ok-judge_entries.ensures

pub returns-clause-unbroken : goal.returns-clause-unbroken
returns-clause-unbroken c = subst (λ (file : Bytes). OnOk c.judge_images.result (IsUnbroken (bytes_of file))) c.in_ok-entries.ensures.file c.judge_images.ensures.unbroken

pub returns-clause-first : goal.returns-clause-first
returns-clause-first c = subst (λ (file : Bytes). IfErr c.judge_images.result (IsFirstBroken (bytes_of file))) c.in_ok-entries.ensures.file c.judge_images.ensures.first
