use Rattle.std.proofs.Common.{◌<◌, ◌*◌, ◌/◌, ◌%◌, ℕ}
use Rattle.macho_seals.specs.SideBySide.{AreDigestsFrom}
use Rattle.macho_seals.proofs.SharedPages.{LackPage}
use Rattle.macho_seals.proofs.pages.first_other_of_size.Given as goal

-- all have the hashes of the pages before it, and the digests are of its group, unless a group begins with it
abbrev pub invariant-loop-index : goal.invariant-loop-index
invariant-loop-index l =
    ((j : ℕ) → j < l.index → ¬ LackPage l.image.bytes.now l.directories l.page_size l.one.limit j)
    × (0 < l.index % 4 → AreDigestsFrom l.image.bytes.now l.one (l.index / 4 * 4) l.digests)
