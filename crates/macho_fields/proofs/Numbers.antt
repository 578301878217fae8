-- Which rule has a number.
use Rattle.std.proofs.Common.{◌≡◌, ◌≢◌, ◌==◌, ℕ, Bool, true, false, List, [], ◌∷◌, Option, Some, None, cond, find, refl, sym, ap, ◌∙◌, subst, eqb-true}
use Rattle.std.specs.Prelude.{IfSome, IfNone}
use Rattle.macho_fields.specs.RuleList.{rule_number}
use Rattle.macho_fields.specs.declared.rule.Rule.{Rule}
use Rattle.macho_fields.specs.declared.rule.Rule.TheVariants as rule
use Rattle.macho_fields.specs.declared.rule.TheConstants.Rule.{ALL}

-- the first rule of the list that has a number
abbrev pub numbered : ℕ → Option Rule
numbered n = find (λ r. rule_number r == n) ALL.now

-- each rule is the first with its number
first_with_own : (r : Rule) → numbered (rule_number r) ≡ Some r
first_with_own rule.Magic = refl
first_with_own other = refl

pub number_determines_rule : (a b : Rule) → rule_number a ≡ rule_number b → a ≡ b
number_determines_rule a b same = let found : Some a ≡ Some b = sym (first_with_own a) ∙ (ap numbered same ∙ first_with_own b) in cc

pub none_numbered : (n : ℕ) (found : Option Rule) → found ≡ numbered n → IfNone found ((r : Rule) → rule_number r ≢ n)
none_numbered n None is = λ r same. let other : numbered n ≡ Some r = ap numbered (sym same) ∙ first_with_own r in cc
none_numbered n (Some r) is = tt

-- what a search finds passes its test
found_passes : {X : Type 0} (test : X → Bool) (xs : List X) → IfSome (find test xs) (λ x. test x ≡ true)
found_passes test [] = tt
found_passes {X} test (x ∷ xs) = by (test x) refl (found_passes test xs)
  where
    by : (b : Bool) → test x ≡ b → IfSome (find test xs) (λ y. test y ≡ true) → IfSome (cond b (Some x) (find test xs)) (λ y. test y ≡ true)
    by true passes later = passes
    by false fails later = later

pub found_numbered : (n : ℕ) (found : Option Rule) → found ≡ numbered n → IfSome found (λ r. rule_number r ≡ n)
found_numbered n None is = tt
found_numbered n (Some r) is =
    eqb-true (rule_number r) n (subst (λ o. IfSome o (λ y. (rule_number y == n) ≡ true)) (sym is) (found_passes (λ y. rule_number y == n) ALL.now))
