use Rattle.std.proofs.Common.{◌≡◌, ℕ, List, Bool, false, IsTrue, ◌↔◌, ◌∙◌, sym, inl, inr}
use Rattle.std.proofs.lemmas.Bool.{both_ways}
use Rattle.macho_fields.specs.Universal.{IsSliceOutside, IsSliceInTable, IsSliceMisaligned}
use Rattle.macho_fat.specs.TableWalk.{BreaksAlone}
use Rattle.macho_fat.proofs.survey.is_broken.Goals as goal
use Rattle.macho_fat.proofs.survey.is_broken.Goals.{then-is_outside, else-is_outside}

-- the last of the three tests decides, where the others fail
last_decides : (file : List ℕ) (k : ℕ) (outside early misaligned : Bool) → outside ≡ false → early ≡ false → IsTrue outside ↔ IsSliceOutside file k → IsTrue early ↔ IsSliceInTable file k
    → IsTrue misaligned ↔ IsSliceMisaligned file k → IsTrue misaligned ↔ BreaksAlone file k
last_decides file k outside early misaligned inside late first second third = (λ h. inr (inr (third.0 h)), from)
  where
    from : BreaksAlone file k → IsTrue misaligned
    from (inl h) = absurd (both_ways outside inside (first.1 h))
    from (inr (inl h)) = absurd (both_ways early late (second.1 h))
    from (inr (inr h)) = third.1 h

pub returns-else-is_in_table : goal.returns-else-is_in_table
returns-else-is_in_table c = λ k is. elim c.if-is_outside.branch [
  | then-is_outside w ↦ absurd (both_ways c.if-is_outside.value c.if-is_in_table.false (w.value-is ∙ w.if-is_outside.true))
  | else-is_outside w ↦ last_decides c.args.table.now k c.is_outside.result w.is_in_table.result c.is_misaligned.result w.if-is_outside.false (sym w.value-is ∙ c.if-is_in_table.false)
      (c.is_outside.ensures k is) (w.is_in_table.ensures k is) (c.is_misaligned.ensures c.args.table.now k is)
]
