use Rattle.macho_fat.proofs.slice.slice_at.Goals as goal

pub returns-in_ok-fat_truncated-in-Universal-clause-slice : goal.returns-in_ok-fat_truncated-in-Universal-clause-slice
returns-in_ok-fat_truncated-in-Universal-clause-slice c = c.listed_at.ensures.slice
