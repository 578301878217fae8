use Rattle.macho_fields.specs.Bytes.{bytes_of}
use Rattle.macho_explain.specs.Entries.{HasTable, HaveSameArch, NoneBefore}
use Rattle.macho_explain.proofs.entries.fat_duplicate.Given as goal

-- no entry that was passed has the architecture of this one
abbrev pub invariant-loop-earlier : goal.invariant-loop-earlier
invariant-loop-earlier l = HasTable (bytes_of l.file) → NoneBefore (HaveSameArch (bytes_of l.file)) l.index l.earlier
