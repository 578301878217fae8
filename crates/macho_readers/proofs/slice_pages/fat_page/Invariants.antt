use Rattle.macho_fields.proofs.Entries.{NoneBelow}
use Rattle.macho_readers.specs.Files.{IsOffPages}
use Rattle.macho_readers.proofs.slice_pages.fat_page.Given as goal

-- no slice of an entry before this one is off its pages
abbrev pub invariant-loop-index : goal.invariant-loop-index
invariant-loop-index l = NoneBelow (IsOffPages l.verified) l.index
