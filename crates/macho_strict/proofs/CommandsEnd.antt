-- Where the last command of an image ends.
use Rattle.std.proofs.Common.{◌≡◌, ◌≢◌, ℕ, ◌+◌, List, [], ◌∷◌, map, refl, sym, ap, ◌∙◌, subst, arith}
use Rattle.macho_fields.specs.Image.{command_size, commands_of, commands_end, Follow, IsChain, AreCommands}
use Rattle.macho_image.specs.Command.{CommandView, command_at}
use Rattle.macho_strict.specs.Rules.{BreaksStrictImage}
use Rattle.macho_fields.specs.declared.rule.Rule.TheVariants as rule

-- the commands that are left follow one another from a place on, and end where all commands end
pub record AreLeft (image : List ℕ) (end : ℕ) (left : List CommandView) : Type 0 where
  pub places : List ℕ
  pub are : left ≡ map (command_at image) places
  pub chain : (next : ℕ) → IsChain image (commands_of image) next → Follow image end places next

pub all_left : (image : List ℕ) (left : List CommandView) → left ≡ map (command_at image) (commands_of image) → AreLeft image 32 left
all_left image left are = record { places = commands_of image; are = are; chain = λ next chain. chain }

module _ (image : List ℕ) (end : ℕ) (left : List CommandView) (are : AreLeft image end left) where
  module _ (x : CommandView) (rest : List CommandView) (is : left ≡ x ∷ rest) where
    after : (places : List ℕ) → left ≡ map (command_at image) places → ((next : ℕ) → IsChain image (commands_of image) next → Follow image end places next) → AreLeft image (x.place + x.size) rest
    after [] none chain = cc
    after (p ∷ ps) same chain =
        let here : command_at image p ≡ x = cc in
        let later : rest ≡ map (command_at image) ps = cc in
        let place : p ≡ x.place = ap (λ (c : CommandView). c.place) here in
        let size : command_size image p ≡ x.size = ap (λ (c : CommandView). c.size) here in
        record {
          places = ps;
          are = later;
          chain = λ next all. subst (λ n. Follow image n ps next) (let e : p + command_size image p ≡ x.place + x.size = omega (arith, place, size) in e) (chain next all).2;
        }

    -- one command less
    pub left_after : AreLeft image (x.place + x.size) rest
    left_after = after are.places are.are are.chain

  -- where none is left, all commands end there
  pub ends : left ≡ [] → AreCommands image (commands_of image) → IsChain image (commands_of image) end
  ends none (count, next, chain) = subst (IsChain image (commands_of image)) (sym (last are.places (none_left are.places are.are) (are.chain next chain))) chain
    where
      none_left : (places : List ℕ) → left ≡ map (command_at image) places → places ≡ []
      none_left [] same = refl
      none_left (p ∷ ps) same = cc

      last : (places : List ℕ) → places ≡ [] → Follow image end places next → end ≡ next
      last [] same at = at
      last (p ∷ ps) same at = cc

-- they end at one place
one_end : (image : List ℕ) (start : ℕ) (places : List ℕ) (a b : ℕ) → Follow image start places a → Follow image start places b → a ≡ b
one_end image start [] a b first second = sym first ∙ second
one_end image start (p ∷ ps) a b first second = one_end image (p + command_size image p) ps a b first.2 second.2

module _ (image : List ℕ) (end : ℕ) (chain : IsChain image (commands_of image) end) where
  pub ends_right : end ≡ commands_end image → (place : ℕ) → ¬ BreaksStrictImage image rule.CommandsEnd place
  ends_right same place (at, wrong) = wrong (subst (IsChain image (commands_of image)) same chain)

  pub ends_wrong : end ≢ commands_end image → ¬ IsChain image (commands_of image) (commands_end image)
  ends_wrong other all = other (one_end image 32 (commands_of image) end (commands_end image) chain all)
