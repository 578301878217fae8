use Rattle.std.proofs.Common.{◌↔◌, ◌⊎◌, ℕ, List, Contains, sym, subst, inl, inr}
use Rattle.macho_fields.specs.FirstPlace.{IsLeastPlace}
use Rattle.macho_fields.specs.Image.{commands_of}
use Rattle.macho_tables.proofs.Places.{least_joined, least_same}
use Rattle.macho_readers.specs.Commands.{RepeatsSingle, RepeatsPlatform, BreaksCommandOnce}
use Rattle.macho_readers.proofs.once.command_once.Goals as goal

module _ (image : List ℕ) where
  abbrev Single : ℕ → Type 0
  Single place = Contains (commands_of image) place × RepeatsSingle image place

  abbrev Platform : ℕ → Type 0
  Platform place = Contains (commands_of image) place × RepeatsPlatform image place

  both : (place : ℕ) → (Single place ⊎ Platform place) ↔ BreaksCommandOnce image place
  both place = (
    λ either. elim either [ inl single ↦ (single.0, inl single.1) | inr platform ↦ (platform.0, inr platform.1) ],
    λ broken. elim broken.1 [ inl single ↦ inl (broken.0, single) | inr platform ↦ inr (broken.0, platform) ],
  )

pub returns : goal.returns
returns c =
    let image = c.args.image.now in
    let joined = least_joined (Single image) (Platform image) c.single_repeated-single.result c.in_ok-platform.platform c.single_repeated-single.ensures c.in_ok-platform.ensures.least in
    record {
      least = subst (IsLeastPlace (BreaksCommandOnce image)) (sym c.lesser.ensures) (least_same (λ place. Single image place ⊎ Platform image place) (BreaksCommandOnce image) _ (both image) joined);
      memory = tt;
    }
