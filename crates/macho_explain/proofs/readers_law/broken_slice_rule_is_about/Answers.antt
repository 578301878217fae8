use Rattle.macho_explain.proofs.BrokenReaders.{fat_count, fat_header, fat_page}
use Rattle.macho_explain.proofs.readers_law.broken_slice_rule_is_about.Goals as goal

pub returns-clause-fat_count : goal.returns-clause-fat_count
returns-clause-fat_count c = λ keeps place broken. fat_count c.args.file.now place broken

pub returns-clause-fat_header : goal.returns-clause-fat_header
returns-clause-fat_header c = λ keeps place broken. fat_header c.args.file.now keeps place broken

pub returns-clause-fat_page : goal.returns-clause-fat_page
returns-clause-fat_page c = λ keeps place broken. fat_page c.args.file.now keeps place broken
