use Rattle.std.proofs.Common.{rules}
use Rattle.macho_fields.specs.Bytes.{bytes_of}
use Rattle.macho_second.proofs.Second.{decided_file}
use Rattle.macho_second.proofs.verdict.judge_entries.Goals as goal

pub fat_slice_magic-requires : goal.fat_slice_magic-requires
fat_slice_magic-requires c = search rules

pub returns : goal.returns
returns c = decided_file (bytes_of c.args.entries.file) c.fat_empty.result c.fat_empty.ensures
