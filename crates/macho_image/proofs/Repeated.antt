-- The rules on the commands that an image has at most once.
use Rattle.std.proofs.Common.{◌≡◌, ℕ, ◌↔◌, ◌⊎◌, Bool, IsTrue, true, false, not, List, Option, Some, None, refl, sym, ◌∙◌, subst, inl, inr}
use Rattle.std.proofs.lemmas.Bool.{false≢true, true≢false}
use Rattle.std.specs.Prelude.{IsSome}
use Rattle.std.specs.Option.{is_some}
use mathlib.Core.Bool.{beq}
use Rattle.macho_fields.specs.Command.{HasDylibId}
use Rattle.macho_fields.proofs.Options.{some_or_not_none}
use Rattle.macho_fields.specs.LoadCommands.{IsUnique}
use Rattle.macho_fields.specs.Image.{command_cmd, commands_of}
use Rattle.macho_fields.specs.declared.header.loader.TheConstants as loader
use Rattle.macho_image.specs.Command.{first_with_cmd}
use Rattle.macho_image.specs.Walk.{IsAt, Repeats, first_commands}
use Rattle.macho_image.proofs.FirstWithCmd.{first_is, first_none}
use Rattle.macho_image.proofs.Noted.{passed_before}

-- a command of a kind that was noted before repeats an earlier one
module _ (image : List ℕ) (walked place cmd : ℕ) (at : IsAt image walked place) (is : cmd ≡ command_cmd image place) where
  repeats_found : (found : Option ℕ) → found ≡ first_with_cmd image cmd (first_commands image walked) → IsUnique cmd → IsSome found → Repeats image walked place
  repeats_found None none unique some = absurd (false≢true some)
  repeats_found (Some p) found unique some =
      let ((k, less, here), same) = first_is image cmd p (first_commands image walked) (sym found) in
      (subst IsUnique is unique, (k, p, less, here, (passed_before image walked place at p (k, less, here), same ∙ is)))

  pub repeats_second : (second : Bool) → (IsTrue second ↔ IsUnique cmd × IsSome (first_with_cmd image cmd (first_commands image walked))) → IsTrue second ↔ Repeats image walked place
  repeats_second second means = (
    λ h. let (unique, some) = means.0 h in repeats_found _ refl unique some,
    λ (unique, (k, p, less, here, (before, same))).
        means.1 (subst IsUnique (sym is) unique, some_or_not_none _ (λ none. first_none image cmd p (first_commands image walked) none (k, less, here) (same ∙ sym is))),
  )

  pub repeats_none : ¬ IsUnique cmd → ¬ Repeats image walked place
  repeats_none other (unique, earlier) = other (subst IsUnique (sym is) unique)

-- the first LC_ID_DYLIB shows whether there is one
pub has_id : (image : List ℕ) (found : Option ℕ) (some : Bool) → some ≡ is_some found → found ≡ first_with_cmd image loader.LC_ID_DYLIB (commands_of image)
    → IsTrue some ↔ HasDylibId image (commands_of image)
has_id image None some is none = (
  λ h. absurd (false≢true (sym is ∙ h)),
  λ h. let (k, p, less, at, same) = h in absurd (first_none image loader.LC_ID_DYLIB p (commands_of image) (sym none) (k, less, at) same),
)
has_id image (Some p) some is found = (
  λ h. let ((k, less, at), same) = first_is image loader.LC_ID_DYLIB p (commands_of image) (sym found) in (k, p, less, at, same),
  λ h. is,
)

-- an image names itself without an LC_ID_DYLIB, or has one and does not
abbrev pub HasWrongId : Bool → Type 0 → Type 0
HasWrongId names H = ((names ≡ true) × ¬ H) ⊎ ((names ≡ false) × H)

pub id_broken : (H : Type 0) (names has : Bool) → (IsTrue has ↔ H) → not (beq names has) ≡ true → HasWrongId names H
id_broken H true true same t = absurd (false≢true t)
id_broken H true false same t = inl (refl, λ h. false≢true (same.1 h))
id_broken H false true same t = inr (refl, same.0 refl)
id_broken H false false same t = absurd (false≢true t)

pub id_kept : (H : Type 0) (names has : Bool) → (IsTrue has ↔ H) → not (beq names has) ≡ false → ¬ HasWrongId names H
id_kept H true true same t (inl (is, none)) = none (same.0 refl)
id_kept H true true same t (inr (is, h)) = true≢false is
id_kept H true false same t wrong = true≢false t
id_kept H false true same t wrong = true≢false t
id_kept H false false same t (inl (is, none)) = false≢true is
id_kept H false false same t (inr (is, h)) = false≢true (same.1 h)
