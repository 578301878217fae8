use Rattle.std.proofs.Common.{List, ℕ, IfSome, subst}
use Rattle.macho_fat.specs.Slices.{MarksRead}
use Rattle.macho_fat.proofs.Listed.{marks_read}
use Rattle.macho_fat.proofs.slice.FileSlices.get.Goals as goal

pub returns-in-Some-clause-read : goal.returns-in-Some-clause-read
returns-in-Some-clause-read c =
    subst (λ (file : List ℕ). IfSome c.listed_at.result (MarksRead file)) c.self.view_is
    (marks_read _ c.self.invariant.unbroken _ _ c.listed_at.ensures.slice c.listed_at.ensures.read)
