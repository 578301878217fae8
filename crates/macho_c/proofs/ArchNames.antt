-- Architectures by their names.
use Rattle.std.proofs.Common.{◌≡◌, ◌∙◌, ℕ, ◌^◌, ◌/◌, ◌%◌, ◌==◌, List, [], ◌∷◌, Bool, true, false, cond, Option, None, Some, refl, sym, ap, subst, inl, inr}
use Rattle.std.specs.Prelude.{bytes_eq, find, MatchOption}
use Rattle.std.specs.Option.{option_map}
use Rattle.std.proofs.lemmas.Bool.{eqb-true}
use Rattle.std.proofs.lemmas.Option.{same_Some, none-some}
use Rattle.std.proofs.lemmas.Slice.Eq.{bytes_eq-Decides}
use Rattle.macho_fields.specs.Universal.{masked}
use Rattle.macho_c.specs.Names.{arch_names, arch_number, number_in, HasArchName, IsArchNamed}
use Rattle.macho_c.specs.Status.{KESVUOT_OK, KESVUOT_NONE}

-- The table: of each entry, by its two numbers and by its name, the first is the entry itself.

abbrev number_of : ℕ → ℕ
number_of number = arch_number (number / 2 ^ 32) (masked (number % 2 ^ 32))

abbrev IsOnly : ℕ × List ℕ → Type 0
IsOnly x =
    (find (λ n. n.0 == number_of x.0) arch_names ≡ Some x)
    × (find (λ n. bytes_eq n.1 x.1) arch_names ≡ Some x)
    × (arch_number (x.0 / 2 ^ 32) (x.0 % 2 ^ 32) ≡ x.0)

abbrev AreOnly : List (ℕ × List ℕ) → Type 0
AreOnly [] = Unit {0}
AreOnly (x ∷ xs) = IsOnly x × AreOnly xs

all_only : AreOnly arch_names
all_only =
    ((refl, refl, refl), ((refl, refl, refl), ((refl, refl, refl), ((refl, refl, refl), ((refl, refl, refl), ((refl, refl, refl), ((refl, refl, refl), ((refl, refl, refl), ((refl, refl, refl), ((refl, refl, refl), ((refl, refl, refl), ((refl, refl, refl), ((refl, refl, refl), ((refl, refl, refl), ((refl, refl, refl), ((refl, refl, refl), ((refl, refl, refl), ((refl, refl, refl), tt))))))))))))))))))

found_only : (test : ℕ × List ℕ → Bool) (xs : List (ℕ × List ℕ)) → AreOnly xs → (x : ℕ × List ℕ) → find test xs ≡ Some x → IsOnly x × (test x ≡ true)
found_only test [] all x is = absurd (cc)
found_only test (y ∷ ys) all x is = by (test y) refl (found_only test ys all.1 x) is
  where
    by : (t : Bool) → test y ≡ t → (find test ys ≡ Some x → IsOnly x × (test x ≡ true))
        → cond t (Some y) (find test ys) ≡ Some x → IsOnly x × (test x ≡ true)
    by true passes rest here = subst (λ z. IsOnly z × (test z ≡ true)) (same_Some y x here) (all.0, passes)
    by false passes rest later = rest later

module _ (name : List ℕ) where
  abbrev IsNamed : Option (ℕ × List ℕ) → Type 0
  IsNamed found =
      MatchOption found ((KESVUOT_OK ≡ KESVUOT_NONE) × (name ≡ [])) (λ named. (KESVUOT_OK ≡ KESVUOT_OK) × (name ≡ named.1))

  -- an architecture that has the name is the first that has it
  first_named : (number : ℕ) → IsNamed (find (λ n. n.0 == number) arch_names) → number_in arch_names name ≡ Some number
  first_named number has = by (find (λ n. n.0 == number) arch_names) refl has
    where
      by : (o : Option (ℕ × List ℕ)) → find (λ n. n.0 == number) arch_names ≡ o → IsNamed o → number_in arch_names name ≡ Some number
      by None is none = absurd (cc)
      by (Some x) is same =
          let (only, passes) = found_only (λ n. n.0 == number) arch_names all_only x is in
          ap (option_map (λ n. n.0)) (subst (λ text. find (λ n. bytes_eq n.1 text) arch_names ≡ Some x) (sym same.1) only.1)
          ∙ ap Some (eqb-true x.0 number passes)

  pub arch_known : (number : ℕ) → number_in arch_names name ≡ Some number → IsArchNamed name KESVUOT_OK (number / 2 ^ 32) (number % 2 ^ 32)
  arch_known number is = by (find (λ n. bytes_eq n.1 name) arch_names) refl is
    where
      by : (o : Option (ℕ × List ℕ)) → find (λ n. bytes_eq n.1 name) arch_names ≡ o → option_map (λ n. n.0) o ≡ Some number
          → IsArchNamed name KESVUOT_OK (number / 2 ^ 32) (number % 2 ^ 32)
      by None found none = absurd (cc)
      by (Some x) found some =
          let (only, passes) = found_only (λ n. bytes_eq n.1 name) arch_names all_only x found in
          let number_is : x.0 ≡ number = same_Some x.0 number some in
          let name_is : x.1 ≡ name = (bytes_eq-Decides x.1 name).0 passes in
          let has : HasArchName name (x.0 / 2 ^ 32) (x.0 % 2 ^ 32) =
          subst IsNamed (sym only.0) (refl, sym name_is) in
          inl (
            refl,
            subst (λ n. HasArchName name (n / 2 ^ 32) (n % 2 ^ 32)) number_is has,
            λ type subtype has. same_Some _ _ (sym (first_named (arch_number type (masked subtype)) has) ∙ is)
                ∙ sym (subst (λ n. arch_number (n / 2 ^ 32) (n % 2 ^ 32) ≡ n) number_is only.2),
          )

  pub arch_unknown : number_in arch_names name ≡ None → IsArchNamed name KESVUOT_NONE 0 0
  arch_unknown is = inr (refl, (λ type subtype has. none-some _ (sym is ∙ first_named (arch_number type (masked subtype)) has)), refl, refl)
