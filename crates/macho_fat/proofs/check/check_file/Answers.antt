use Rattle.std.proofs.Common.{List, ℕ, sym, ◌∙◌, subst, arith, lit<, inl, inr, rules}
use Rattle.macho_fields.specs.First.{rank}
use Rattle.macho_fields.specs.Layers.{KeptBelow}
use Rattle.macho_fields.specs.Rules.{BreaksFile}
use Rattle.macho_fields.specs.declared.rule.Rule.TheVariants as rule
use Rattle.macho_fields.proofs.Ranks.{file_rule_rank}
use Rattle.macho_fat.proofs.Faults.{sorting_passed}
use Rattle.macho_fat.proofs.check.check_file.Goals as goal

pub fat_slice_outside-requires : goal.fat_slice_outside-requires
fat_slice_outside-requires c =
    subst (λ (file : List ℕ). KeptBelow (BreaksFile file) (rank rule.FatSliceOutside)) (sym (c.of-survey.ensures ∙ c.in_ok-table-in-Universal.ensures.table))
    c.in_ok-table-in-Universal.ensures.continues

pub returns-in_err-fat_overlap-clause-refused : goal.returns-in_err-fat_overlap-clause-refused
returns-in_err-fat_overlap-clause-refused c =
    let universal = rw c.in-Universal.is at c.in_ok-magic.ensures.format in
    sorting_passed rule.FatOverlap _ _ (c.of-survey.ensures ∙ c.in_ok-table-in-Universal.ensures.table) universal inl c.from_residual-in_err-fat_overlap.ensures.1 c.in_err-fat_overlap.ensures

pub fat_duplicate-requires : goal.fat_duplicate-requires
fat_duplicate-requires c = search rules

pub returns-in_err-fat_duplicate-clause-refused : goal.returns-in_err-fat_duplicate-clause-refused
returns-in_err-fat_duplicate-clause-refused c =
    let universal = rw c.in-Universal.is at c.in_ok-magic.ensures.format in
    sorting_passed rule.FatDuplicate _ _ (c.of-survey.ensures ∙ c.in_ok-table-in-Universal.ensures.table) universal inr c.from_residual-in_err-fat_duplicate.ensures.1 c.in_err-fat_duplicate.ensures

pub of-magics-requires : goal.of-magics-requires
of-magics-requires c place broken =
    c.in_ok-fat_duplicate.ensures rule.FatSliceOutside place (lit< tt) (subst (λ (file : List ℕ). BreaksFile file rule.FatSliceOutside place) (sym c.of-survey.ensures) broken)

pub fat_slice_magic-requires : goal.fat_slice_magic-requires
fat_slice_magic-requires c =
    subst (λ (file : List ℕ). KeptBelow (BreaksFile file) (rank rule.FatSliceMagic)) (c.of-survey.ensures ∙ sym c.of-magics.ensures) c.in_ok-fat_duplicate.ensures

pub returns-clause-unbroken : goal.returns-clause-unbroken
returns-clause-unbroken c r place broken =
    let seen = subst (λ (file : List ℕ). BreaksFile file r place) (sym (c.of-magics.ensures ∙ c.in_ok-table-in-Universal.ensures.table)) broken in
    let most = file_rule_rank c.of-magics.result r place seen in
    c.in_ok-fat_empty.ensures r place (omega (arith, most)) seen

pub returns-clause-table : goal.returns-clause-table
returns-clause-table c = (c.in_ok-table-in-Universal.ensures.table, rw c.in-Universal.is at c.in_ok-magic.ensures.format)
