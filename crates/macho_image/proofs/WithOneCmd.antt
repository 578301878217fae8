-- The commands of one kind, as they remain in a walk and as the image has them.
use Rattle.std.proofs.Common.{◌≡◌, ℕ, ◌==◌, List, [], ◌∷◌, map, cond, Bool, true, false, All, refl, ap, subst, arith}
use Rattle.std.proofs.lemmas.List.Elements.{All-tail}
use Rattle.macho_fields.specs.Image.{command_cmd, with_cmd}
use Rattle.macho_image.specs.Command.{CommandView, command_at, left_with_cmd}

-- a command is kept among the views where it is kept among the places
pub keep_or_pass : (image : List ℕ) (x : ℕ) (vs : List CommandView) (xs : List ℕ) (b : Bool) → vs ≡ map (command_at image) xs
    → cond b (command_at image x ∷ vs) vs ≡ map (command_at image) (cond b (x ∷ xs) xs)
keep_or_pass image x vs xs true same = ap (λ ys. command_at image x ∷ ys) same
keep_or_pass image x vs xs false same = same

pub left_with_cmd-map : (image : List ℕ) (wanted : ℕ) (xs : List ℕ) → left_with_cmd wanted (map (command_at image) xs) ≡ map (command_at image) (with_cmd image wanted xs)
left_with_cmd-map image wanted [] = refl
left_with_cmd-map image wanted (x ∷ xs) =
    keep_or_pass image x (left_with_cmd wanted (map (command_at image) xs)) (with_cmd image wanted xs) (command_cmd image x == wanted) (left_with_cmd-map image wanted xs)

-- what g reads at the place of each command
pub map-places : {B : Type 0} (g : ℕ → B) (image xs : List ℕ) → map (λ c. g c.place) (map (command_at image) xs) ≡ map g xs
map-places g image [] = refl
map-places g image (x ∷ xs) = ap (λ ys. g x ∷ ys) (map-places g image xs)

-- what holds of all that remain holds of the first, and of the others
pub first_has : {X : Type 0} (P : X → Type 0) (old rest : List X) (x : X) → old ≡ x ∷ rest → All P old → P x
first_has P old rest x is all = subst (All P) is all 0 x (omega arith)

pub rest_has : {X : Type 0} (P : X → Type 0) (old rest : List X) (x : X) → old ≡ x ∷ rest → All P old → All P rest
rest_has P old rest x is all = All-tail P x rest (subst (All P) is all)
