use Rattle.std.proofs.Common.{◌≡◌, ℕ, List, [], ◌∷◌, ◌++◌, get_or, refl, sym}
use Rattle.std.specs.Fmt.{decimal}
use Rattle.std.specs.Prelude.{codes}
use Rattle.macho_text.specs.Stream.{joined}
use Rattle.macho_text.proofs.Puts.{put_next, put_last}
use Rattle.macho_text.proofs.line.Line.version.Goals as goal

parts : (x y z major minor patch : ℕ) (before first second third fourth fifth : List ℕ) → x ≡ major → y ≡ minor → z ≡ patch
    → first ≡ before ++ decimal x → second ≡ first ++ codes "." → third ≡ second ++ decimal y → fourth ≡ third ++ codes "." → fifth ≡ fourth ++ decimal z
    → fifth ≡ before ++ joined (decimal major ∷ codes "." ∷ decimal minor ∷ codes "." ∷ decimal patch ∷ [])
parts x y z major minor patch before first second third fourth fifth a b c d e f g h =
    rw (sym a, sym b, sym c)
    (put_next before first fifth _ _ d (put_next first second fifth _ _ e (put_next second third fifth _ _ f
    (put_next third fourth fifth _ _ g (put_next fourth fifth fifth _ _ h (put_last fifth))))))

pub returns-clause-text : goal.returns-clause-text
returns-clause-text c =
    parts _ (get_or c.to_le_bytes.result 1 0) (get_or c.to_le_bytes.result 0 0) _ _ _ _ _ _ _ _ _ c.from.ensures (rw c.to_le_bytes.ensures refl) (rw c.to_le_bytes.ensures refl)
    c.decimal.ensures.text c.text.ensures (rw c.from-2.ensures at c.decimal-2.ensures.text) c.text-2.ensures (rw c.from-3.ensures at c.decimal-3.ensures.text)
