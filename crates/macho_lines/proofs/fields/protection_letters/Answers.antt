use Rattle.std.proofs.Common.{◌≡◌, ℕ, List, [], ◌∷◌, refl, sym}
use Rattle.macho_text.specs.Stream.{joined}
use Rattle.macho_lines.proofs.fields.protection_letters.Goals as goal

three : (a b d : ℕ) (x y z : List ℕ) → a ∷ [] ≡ x → b ∷ [] ≡ y → d ∷ [] ≡ z → a ∷ b ∷ d ∷ [] ≡ joined (x ∷ y ∷ z ∷ [])
unfolding joined
three a b d x y z e f h = rw (sym e, sym f, sym h) refl

pub returns : goal.returns
returns c = three _ _ _ _ _ _ c.letter.ensures c.letter-2.ensures c.letter-3.ensures
