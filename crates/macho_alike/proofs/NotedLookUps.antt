-- Notes of look-ups, one after the other.
use Rattle.std.proofs.Common.{◌≢◌, ◌↔◌, ◌⊎◌, ◌∙◌, ℕ, List, [], ◌∷◌, ◌++◌, Option, Some, Contains, sym, ap, inl, inr}
use Rattle.std.proofs.lemmas.List.Elements.{Contains-append_left, Contains-push, Contains-push_cases}
use Rattle.std.proofs.lemmas.Option.{same_Some}
use Rattle.macho_alike.specs.Imports.{IsFrom}
use Rattle.macho_alike.specs.LookUps.{LookUps, WereListed, WereNoted, IsLookedUp, IsLookedUpIn}
use Rattle.macho_alike.specs.declared.binds.Library.{Library}
use Rattle.macho_alike.specs.declared.binds.Library.TheVariants as library
use Rattle.macho_alike.specs.declared.imports.TheConstants as special

-- In lists

pub listed_none : (P : List ℕ → Library → Type 0) (looks : LookUps) → ((name : List ℕ) (from : Library) → ¬ P name from) → WereListed P looks looks
listed_none P looks none name from = (λ has. inl has, λ either. elim either [ inl has ↦ has | inr is ↦ absurd (none name from is) ])

pub listed_same : (P Q : List ℕ → Library → Type 0) (before after : LookUps) → ((name : List ℕ) (from : Library) → P name from ↔ Q name from) → WereListed P before after → WereListed Q before after
listed_same P Q before after same listed name from = (
  λ has. elim ((listed name from).0 has) [ inl was ↦ inl was | inr p ↦ inr ((same name from).0 p) ],
  λ either. (listed name from).1 (elim either [ inl was ↦ inl was | inr q ↦ inr ((same name from).1 q) ]),
)

pub listed_then : (P Q R : List ℕ → Library → Type 0) (before middle after : LookUps) → ((name : List ℕ) (from : Library) → R name from ↔ (P name from ⊎ Q name from)) → WereListed P before middle
    → WereListed Q middle after → WereListed R before after
listed_then P Q R before middle after whole one two name from = (to, back)
  where
    to : Contains after (name, from) → Contains before (name, from) ⊎ R name from
    to has = elim ((two name from).0 has) [
      | inr q ↦ inr ((whole name from).1 (inr q))
      | inl early ↦ elim ((one name from).0 early) [ inl was ↦ inl was | inr p ↦ inr ((whole name from).1 (inl p)) ]
    ]

    back : Contains before (name, from) ⊎ R name from → Contains after (name, from)
    back (inl was) = (two name from).1 (inl ((one name from).1 (inl was)))
    back (inr r) = (two name from).1 (elim ((whole name from).0 r) [ inl p ↦ inl ((one name from).1 (inr p)) | inr q ↦ inr q ])

pub listed_one : (name : List ℕ) (from : Library) (before : LookUps) → WereListed (IsLookedUp name from) before (before ++ (name, from) ∷ [])
listed_one name from before other also = (
  λ has. elim (Contains-push_cases before (name, from) (other, also) has) [
    | inl was ↦ inl was
    | inr same ↦ inr (sym (ap (λ (look : List ℕ × Library). look.0) same), sym (ap (λ (look : List ℕ × Library). look.1) same))
  ],
  λ either. elim either [
    | inl was ↦ Contains-append_left before ((name, from) ∷ []) (other, also) was
    | inr (is_name, is_from) ↦ rw (is_name, is_from) (Contains-push before (name, from))
  ],
)

-- Wherever they are noted

module _ {N : Type 0} (are : LookUps → N → Type 0) where
  pub noted_none : (P : List ℕ → Library → Type 0) (notes : N) → ((name : List ℕ) (from : Library) → ¬ P name from) → WereNoted are P notes notes
  noted_none P notes none before is = (before, listed_none P before none, is)

  pub noted_alike : (P Q : List ℕ → Library → Type 0) (old new : N) → ((name : List ℕ) (from : Library) → P name from ↔ Q name from) → WereNoted are P old new → WereNoted are Q old new
  noted_alike P Q old new same noted before is = let (after, listed, now) = noted before is in (after, listed_same P Q before after same listed, now)

  pub noted_then : (P Q R : List ℕ → Library → Type 0) (old middle new : N) → ((name : List ℕ) (from : Library) → R name from ↔ (P name from ⊎ Q name from)) → WereNoted are P old middle
      → WereNoted are Q middle new → WereNoted are R old new
  noted_then P Q R old middle new whole one two before is =
      let (first, first_listed, then) = one before is in
      let (second, second_listed, now) = two first then in
      (second, listed_then P Q R before first second whole first_listed second_listed, now)

  pub noted_one : (name : List ℕ) (from : Library) (old new : N) → ((before : LookUps) → are before old → are (before ++ (name, from) ∷ []) new) → WereNoted are (IsLookedUp name from) old new
  noted_one name from old new more before is = (before ++ (name, from) ∷ [], listed_one name from before, more before is)

  -- a name with a library, or with none
  pub noted_from : (name : List ℕ) (from : Library) (old new : N) → from ≢ library.Special special.WEAK_LOOKUP → WereNoted are (IsLookedUp name from) old new → WereNoted are (IsLookedUpIn name (Some from)) old new
  noted_from name from old new strong = noted_alike (IsLookedUp name from) (IsLookedUpIn name (Some from)) old new (λ other also. (
    λ (is, same). (is, (ap Some (sym same), λ weak. strong (sym same ∙ weak))),
    λ (is, (same, not_weak)). (is, sym (same_Some from also same)),
  ))

  pub noted_nowhere : (name : List ℕ) (looked_in : Option Library) (notes : N) → ((from : Library) → ¬ IsFrom looked_in from) → WereNoted are (IsLookedUpIn name looked_in) notes notes
  noted_nowhere name looked_in notes none = noted_none (IsLookedUpIn name looked_in) notes (λ other from (is, looks). none from looks)
