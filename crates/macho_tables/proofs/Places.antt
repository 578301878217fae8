-- The least places at which rules are broken, and the first command with a number.
use Rattle.std.proofs.Common.{◌≡◌, ◌↔◌, ℕ, ◌+◌, ◌^◌, ◌<◌, ◌⊎◌, List, min, Contains, Option, Some, None, refl, sym, ◌∙◌, subst, arith, inl, inr}
use Rattle.std.specs.Prelude.{IfSome}
use Rattle.std.specs.Option.{option_map, option_map_or}
use Rattle.std.proofs.lemmas.Bool.{cases_lt}
use Rattle.std.proofs.lemmas.Option.{slice_get_within, get_or_from_slice_get}
use Rattle.macho_fields.specs.FirstPlace.{IsLeastPlace}
use Rattle.macho_fields.specs.Image.{command_cmd, commands_of, with_cmd}
use Rattle.macho_fields.proofs.Parts.{with_cmd_among, with_cmd_is}
use Rattle.macho_fields.specs.declared.header.loader.TheConstants as loader
use Rattle.macho_image.specs.Command.{first_with_cmd}
use Rattle.macho_tables.specs.Places.{dyld_info, lesser}

-- Least places

pub least_same : (P Q : ℕ → Type 0) (found : Option ℕ) → ((place : ℕ) → P place ↔ Q place) → IsLeastPlace P found → IsLeastPlace Q found
least_same P Q None same none = λ place broken. none place ((same place).1 broken)
least_same P Q (Some first) same (here, least) = ((same first).0 here, λ place broken. least place ((same place).1 broken))

-- the least place of two streams
pub least_joined : (P Q : ℕ → Type 0) (one other : Option ℕ) → IsLeastPlace P one → IsLeastPlace Q other → IsLeastPlace (λ place. P place ⊎ Q place) (lesser one other)
least_joined P Q None None no_p no_q = λ place broken. elim broken [ inl p ↦ no_p place p | inr q ↦ no_q place q ]
least_joined P Q None (Some b) no_p (here, least) = (inr here, λ place broken. elim broken [ inl p ↦ absurd (no_p place p) | inr q ↦ least place q ])
least_joined P Q (Some a) None (here, least) no_q = (inl here, λ place broken. elim broken [ inl p ↦ least place p | inr q ↦ absurd (no_q place q) ])
least_joined P Q (Some a) (Some b) (here, least) (there, lowest) =
    elim (cases_lt a b) [
      | inl less ↦
          let same : min a b ≡ a = omega arith in
          rw same (inl here, λ place broken. elim broken [ inl p ↦ least place p | inr q ↦ let low = lowest place q in omega arith ])
      | inr more ↦
          let same : min a b ≡ b = omega arith in
          rw same (inr there, λ place broken. elim broken [ inl p ↦ let low = least place p in omega arith | inr q ↦ lowest place q ])
    ]

-- places that are counted from another start
pub least_moved : (P : ℕ → Type 0) (start : ℕ) (found : Option ℕ) → IsLeastPlace P found
    → IsLeastPlace (λ place. (offset : ℕ) × (place ≡ start + offset) × P offset) (option_map (λ offset. start + offset) found)
least_moved P start None none = λ place (offset, is, has). none offset has
least_moved P start (Some first) (here, least) =
    ((first, refl, here), λ place (offset, is, there). let low = least offset there in omega (arith, is, low))

pub fits_moved : (P : ℕ → Type 0) (start size : ℕ) (found : Option ℕ) → ((place : ℕ) → P place → place < size) → start + size < 2 ^ 64 → IsLeastPlace P found
    → IfSome found (λ offset. start + offset < 2 ^ 64)
fits_moved P start size None inside fits none = tt
fits_moved P start size (Some first) inside fits (here, least) = let within = inside first here in omega arith

-- The first command with a number

module _ (image : List ℕ) where
  -- it is one of the image, with such a number
  pub named_first : (P : ℕ → Type 0) (cmd : ℕ) → P cmd → (command : ℕ) → first_with_cmd image cmd (commands_of image) ≡ Some command
      → Contains (commands_of image) command × P (command_cmd image command)
  named_first P cmd has command is =
      let among : Contains (with_cmd image cmd (commands_of image)) command =
      (0, slice_get_within (with_cmd image cmd (commands_of image)) 0 command is, get_or_from_slice_get (with_cmd image cmd (commands_of image)) 0 command command is) in
      (with_cmd_among image (commands_of image) cmd command among, subst P (sym (with_cmd_is image (commands_of image) cmd command among)) has)

  pub info_has : (P : ℕ → Type 0) → P loader.LC_DYLD_INFO → P loader.LC_DYLD_INFO_ONLY → (command : ℕ) → dyld_info image ≡ Some command
      → Contains (commands_of image) command × P (command_cmd image command)
  info_has P plain only command is = either (first_with_cmd image loader.LC_DYLD_INFO_ONLY (commands_of image)) refl is
    where
      either : (first : Option ℕ) → first_with_cmd image loader.LC_DYLD_INFO_ONLY (commands_of image) ≡ first
          → option_map_or (λ c. Some c) first (first_with_cmd image loader.LC_DYLD_INFO (commands_of image)) ≡ Some command
          → Contains (commands_of image) command × P (command_cmd image command)
      either None none same = named_first P loader.LC_DYLD_INFO plain command same
      either (Some other) some same = named_first P loader.LC_DYLD_INFO_ONLY only command (some ∙ same)
