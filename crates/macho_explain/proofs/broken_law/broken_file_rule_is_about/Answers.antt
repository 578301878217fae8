use Rattle.std.proofs.Common.{arith}
use Rattle.macho_fields.specs.First.{rank}
use Rattle.macho_fields.specs.Universal.{IsSliceInTable, IsSliceMisaligned, IsSliceOutside, OverlapsEarlierSlice, RepeatsEarlierArch}
use Rattle.macho_fields.specs.declared.rule.Rule.TheVariants as rule
use Rattle.macho_explain.proofs.BrokenFiles.{entry, entry_with, foreign}
use Rattle.macho_explain.proofs.broken_law.broken_file_rule_is_about.Goals as goal

pub returns-clause-slice_outside : goal.returns-clause-slice_outside
returns-clause-slice_outside c = λ kept place broken. entry c.args.file.now (rank rule.FatSliceOutside) (omega arith) kept (IsSliceOutside c.args.file.now) place broken

pub returns-clause-slice_in_table : goal.returns-clause-slice_in_table
returns-clause-slice_in_table c = λ kept place broken. entry c.args.file.now (rank rule.FatSliceInTable) (omega arith) kept (IsSliceInTable c.args.file.now) place broken

pub returns-clause-align : goal.returns-clause-align
returns-clause-align c = λ kept place broken. entry c.args.file.now (rank rule.FatAlign) (omega arith) kept (IsSliceMisaligned c.args.file.now) place broken

pub returns-clause-overlap : goal.returns-clause-overlap
returns-clause-overlap c = λ kept place broken. entry_with c.args.file.now (rank rule.FatOverlap) (omega arith) kept OverlapsEarlierSlice place broken

pub returns-clause-duplicate : goal.returns-clause-duplicate
returns-clause-duplicate c = λ kept place broken. entry_with c.args.file.now (rank rule.FatDuplicate) (omega arith) kept RepeatsEarlierArch place broken

pub returns-clause-slice_magic : goal.returns-clause-slice_magic
returns-clause-slice_magic c = λ kept place broken. foreign c.args.file.now place kept broken

pub returns-clause-magic : goal.returns-clause-magic
returns-clause-magic c = λ kept place broken. broken.0

pub returns-clause-truncated : goal.returns-clause-truncated
returns-clause-truncated c = λ kept place broken. (broken.0, broken.1)

pub returns-clause-empty : goal.returns-clause-empty
returns-clause-empty c = λ kept place broken. (broken.0, broken.1)
