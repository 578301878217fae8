-- A walk over the commands of an image, step by step.
use Rattle.std.proofs.Common.{◌≡◌, ℕ, suc, zero, ◌+◌, ◌-◌, ◌<◌, List, ◌∷◌, map, All, sym, ap, ap₂, ◌∙◌, subst, arith}
use Rattle.std.proofs.lemmas.List.Elements.{All-tail}
use Rattle.macho_fields.specs.Image.{command_size, IsGood, places_from}
use Rattle.macho_image.specs.Command.{CommandView, command_at, commands_left}
use Rattle.macho_image.specs.Walk.{CanWalk}

-- where some remain, the first is the one at the place
pub places-step : (image : List ℕ) (place left : ℕ) → 0 < left → places_from image place left ≡ place ∷ places_from image (place + command_size image place) (left - 1)
places-step image place zero some = absurd (omega arith)
places-step image place (suc left) some = ap (λ n. place ∷ places_from image (place + command_size image place) n) (let e : left ≡ suc left - 1 = omega arith in e)

pub commands-step : (image : List ℕ) (place left : ℕ) → 0 < left → commands_left image place left ≡ command_at image place ∷ commands_left image (place + command_size image place) (left - 1)
commands-step image place left some = ap (map (command_at image)) (places-step image place left some)

pub first_good : (image : List ℕ) (place left : ℕ) → 0 < left → CanWalk image place left → IsGood image place
first_good image place left some can =
    subst (All (IsGood image)) (places-step image place left some) can.good 0 place (omega arith)

pub can_walk_on : (image : List ℕ) (place left : ℕ) → 0 < left → CanWalk image place left → CanWalk image (place + command_size image place) (left - 1)
can_walk_on image place left some can = record {
  good = All-tail (IsGood image) place (places_from image (place + command_size image place) (left - 1)) (subst (All (IsGood image)) (places-step image place left some) can.good);
  inside = can.inside;
}

-- what a step of the walk leaves
pub walk_left : (image : List ℕ) (place left size : ℕ) → 0 < left → size ≡ command_size image place → CanWalk image place left → CanWalk image (place + size) (left - 1)
walk_left image place left size some is can =
    subst (λ s. CanWalk image (place + s) (left - 1)) (sym is) (can_walk_on image place left some can)

pub yields_first : (image : List ℕ) (place left size : ℕ) (c : CommandView) → 0 < left → c ≡ command_at image place → size ≡ c.size
    → commands_left image place left ≡ c ∷ commands_left image (place + size) (left - 1)
yields_first image place left size c some is e =
    commands-step image place left some ∙ ap₂ (λ (v : CommandView) (s : ℕ). v ∷ commands_left image (place + s) (left - 1)) (sym is)
    (let same : command_size image place ≡ size = sym (e ∙ ap (λ v. v.size) is) in same)
