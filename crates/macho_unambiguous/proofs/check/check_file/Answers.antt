use Rattle.std.proofs.Common.{List, ℕ, subst}
use Rattle.macho_fields.specs.FirstPlace.{IsLeastPlace}
use Rattle.macho_readers.specs.Files.{BreaksFatCount}
use Rattle.macho_unambiguous.proofs.check.check_file.Goals as goal

pub judge_file-requires-clause-least : goal.judge_file-requires-clause-least
judge_file-requires-clause-least c = subst (λ (bytes : List ℕ). IsLeastPlace (BreaksFatCount bytes) c.fat_count.result) c.bytes.ensures.bytes c.fat_count.ensures
