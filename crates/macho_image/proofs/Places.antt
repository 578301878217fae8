-- The walk that finds the commands of an image, one place after another.
use Rattle.std.proofs.Common.{◌≡◌, ℕ, ◌+◌, ◌≤◌, ◌<◌, List, [], ◌∷◌, ◌++◌, Option, refl, ◌∙◌, arith, length-append}
use Rattle.macho_fields.specs.Image.{command_count, command_size, IsGood}
use Rattle.macho_fields.specs.Rules.{BreaksHeader}
use Rattle.macho_fields.specs.declared.rule.Rule.TheVariants as rule
use Rattle.macho_fields.proofs.Parts.{follow_more}
use Rattle.macho_fields.proofs.Walks.{walk_breaks_once, commands_keep_walk}
use Rattle.macho_image.specs.Walk.{IsAt}

pub at_first : (image : List ℕ) → IsAt image 0 32
at_first image = record { places = []; count = refl; chain = refl }

pub at_next : (image : List ℕ) (walked place : ℕ) → IsAt image walked place → IsGood image place → IsAt image (walked + 1) (place + command_size image place)
at_next image walked place at good = record {
  places = at.places ++ place ∷ [];
  count = omega (arith, at.count, length-append at.places (place ∷ []));
  chain = follow_more image 32 at.places place at.chain good;
}

-- the walk breaks at the first place where no command can be, and at no other
pub walk_breaks_at : (image : List ℕ) (arch : Option (ℕ × ℕ)) (walked place : ℕ) → IsAt image walked place → walked < command_count image → ¬ IsGood image place
    → BreaksHeader image arch rule.CommandWalk place × ((other : ℕ) → BreaksHeader image arch rule.CommandWalk other → place ≤ other)
walk_breaks_at image arch walked place at less bad =
    let broken : BreaksHeader image arch rule.CommandWalk place = (at.places, omega (arith, at.count), at.chain, bad) in
    (broken, λ other h. let same = walk_breaks_once image arch arch place other broken h in omega arith)

pub walk_ends : (image : List ℕ) (arch : Option (ℕ × ℕ)) (walked place : ℕ) → IsAt image walked place → walked ≡ command_count image → (other : ℕ) → ¬ BreaksHeader image arch rule.CommandWalk other
walk_ends image arch walked place at all other = commands_keep_walk image at.places arch other (at.count ∙ all, place, at.chain)
