-- The lines of libraries, and of what was found.
use Rattle.std.proofs.Common.{◌≡◌, ℕ, Option, None, Some, List, [], ◌∷◌, ◌++◌, refl, sym, ap, ap₂, ◌∙◌, append_assoc, append-nil}
use Rattle.std.proofs.lemmas.Option.{same_Some}
use Rattle.std.specs.Option.{option_map, option_map_or}
use Rattle.std.specs.Prelude.{codes}
use Rattle.macho_text.specs.Stream.{joined}
use Rattle.macho_text.specs.Number.{hex, prefixed_hex}
use Rattle.macho_lines.specs.Line.{library_word}
use Rattle.macho_lines.specs.LineParts.{extent_text, library_start}

-- the line of a library, whose first three texts are one part
pub library_begins : (kind : ℕ) (rest : List (List ℕ)) → joined (library_start kind ∷ rest) ≡ joined (codes "  " ∷ library_word kind ∷ codes " " ∷ rest)
unfolding joined
library_begins kind rest = ap (λ l. codes "  " ++ l) (append_assoc (library_word kind) (codes " ") (joined rest))

between : (a b : List ℕ) → codes "0x" ++ (a ++ (codes " size 0x" ++ (b ++ []))) ≡ (codes "0x" ++ (a ++ [])) ++ (codes " size " ++ ((codes "0x" ++ (b ++ [])) ++ []))
between a b = ap₂ (λ u v. codes "0x" ++ (u ++ (codes " size 0x" ++ v))) (sym (append-nil a)) (sym (append-nil (b ++ [])))

-- the words of an extent, which end in the `0x` of its numbers
pub extent_put : (word before : List ℕ) (start size : ℕ) {after : List ℕ} → after ≡ before ++ extent_text (word ++ codes "0x") start size
    → after ≡ before ++ joined (word ∷ prefixed_hex start ∷ codes " size " ∷ prefixed_hex size ∷ [])
unfolding joined
extent_put word before start size is =
    is ∙ ap (λ l. before ++ l) (append_assoc word (codes "0x") _ ∙ ap (λ l. word ++ l) (between (hex start) (hex size)))

-- the line of what was found
pub found_text : {A X : Type 0} (f : X → List ℕ) (at : A → X) (o : Option A) (x : X) → Some x ≡ option_map at o → f x ≡ option_map_or (λ p. f (at p)) o []
found_text f at None x is = absurd (cc)
found_text f at (Some p) x is = ap f (same_Some _ _ is)

pub found_nothing : {A X : Type 0} (f : X → List ℕ) (at : A → X) (o : Option A) → None ≡ option_map at o → option_map_or (λ p. f (at p)) o [] ≡ []
found_nothing f at None is = refl
found_nothing f at (Some p) is = absurd (cc)
