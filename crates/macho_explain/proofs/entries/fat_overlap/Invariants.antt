use Rattle.macho_fields.specs.Bytes.{bytes_of}
use Rattle.macho_explain.specs.Entries.{HasTable, NoneBefore, ShareEntries}
use Rattle.macho_explain.proofs.entries.fat_overlap.Given as goal

-- no entry that was passed shares a place with this one
abbrev pub invariant-loop-earlier : goal.invariant-loop-earlier
invariant-loop-earlier l = HasTable (bytes_of l.file) → NoneBefore (ShareEntries (bytes_of l.file)) l.index l.earlier
