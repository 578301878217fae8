-- Two tables of names agree.
use Rattle.std.proofs.Common.{◌≡◌, ◌∙◌, ℕ, ◌==◌, List, [], ◌∷◌, ◌++◌, ◌-◌, length, map, take, Bool, true, false, cond, Option, Some, refl, ap, arith}
use Rattle.std.specs.Prelude.{bytes_eq, find}
use Rattle.std.specs.Option.{option_map}
use Rattle.std.proofs.Math.Seq.{take-append_seam}
use Rattle.std.proofs.lemmas.List.{length-append}
use Rattle.macho_c.specs.Names.{name_in, number_in, is_named, IsFound}
use Rattle.macho_c.specs.declared.names.Named.{Named}

abbrev shown : Named → ℕ × List ℕ
shown named = (named.number, named.name.now)

abbrev ended : ℕ × List ℕ → ℕ × List ℕ
ended named = (named.0, named.1 ++ 0 ∷ [])

found : (number : ℕ) (table : List Named) → option_map (λ (n : Named). n.name.now) (find (λ n. n.number == number) table) ≡ option_map (λ n. n.1) (find (λ n. n.0 == number) (map shown table))
found number [] = refl
found number (x ∷ xs) = by (x.number == number) _ _ (found number xs)
  where
    by : (b : Bool) (f : Option Named) (g : Option (ℕ × List ℕ)) → option_map (λ (n : Named). n.name.now) f ≡ option_map (λ n. n.1) g
        → option_map (λ (n : Named). n.name.now) (cond b (Some x) f) ≡ option_map (λ n. n.1) (cond b (Some (shown x)) g)
    by true f g rest = refl
    by false f g rest = rest

same : (number : ℕ) (names : List (ℕ × List ℕ)) → option_map (λ n. n.1) (find (λ n. n.0 == number) (map ended names)) ≡ name_in names number
same number [] = refl
same number (x ∷ xs) = by (x.0 == number) _ _ (same number xs)
  where
    by : (b : Bool) (f g : Option (ℕ × List ℕ)) → option_map (λ n. n.1) f ≡ option_map (λ n. n.1 ++ 0 ∷ []) g
        → option_map (λ n. n.1) (cond b (Some (ended x)) f) ≡ option_map (λ n. n.1 ++ 0 ∷ []) (cond b (Some x) g)
    by true f g rest = refl
    by false f g rest = rest

pub agree : {table : List Named} {r : Option Named} (number : ℕ) (names : List (ℕ × List ℕ)) → IsFound table (λ named. named.number == number) r → map shown table ≡ map ended names
    → option_map (λ (n : Named). n.name.now) r ≡ name_in names number
agree {table} {r} number names at is =
    ap (option_map (λ (n : Named). n.name.now)) at.is
    ∙ (found number table ∙ (ap (λ t. option_map (λ n. n.1) (find (λ n. n.0 == number) t)) is ∙ same number names))

-- The same by name

named : (name : List ℕ) (table : List Named) → option_map (λ (n : Named). n.number) (find (λ n. is_named n.name.now name) table) ≡ option_map (λ n. n.0) (find (λ n. is_named n.1 name) (map shown table))
named name [] = refl
named name (x ∷ xs) = by (is_named x.name.now name) _ _ (named name xs)
  where
    by : (b : Bool) (f : Option Named) (g : Option (ℕ × List ℕ)) → option_map (λ (n : Named). n.number) f ≡ option_map (λ n. n.0) g
        → option_map (λ (n : Named). n.number) (cond b (Some x) f) ≡ option_map (λ n. n.0) (cond b (Some (shown x)) g)
    by true f g rest = refl
    by false f g rest = rest

unended : (name text : List ℕ) → is_named (text ++ 0 ∷ []) name ≡ bytes_eq text name
unended name text = ap (λ t. bytes_eq t name) (front text)
  where
    front : (text : List ℕ) → take (length (text ++ 0 ∷ []) - 1) (text ++ 0 ∷ []) ≡ text
    front text =
        let size : length (text ++ 0 ∷ []) - 1 ≡ length text = omega (arith, length-append text (0 ∷ [])) in
        rw size (take-append_seam text (0 ∷ []))

same_named : (name : List ℕ) (names : List (ℕ × List ℕ)) → option_map (λ n. n.0) (find (λ n. is_named n.1 name) (map ended names)) ≡ number_in names name
same_named name [] = refl
same_named name (x ∷ xs) = rw (unended name x.1) (by (bytes_eq x.1 name) _ _ (same_named name xs))
  where
    by : (b : Bool) (f g : Option (ℕ × List ℕ)) → option_map (λ n. n.0) f ≡ option_map (λ n. n.0) g
        → option_map (λ n. n.0) (cond b (Some (ended x)) f) ≡ option_map (λ n. n.0) (cond b (Some x) g)
    by true f g rest = refl
    by false f g rest = rest

pub agree_named : {table : List Named} {r : Option Named} (name : List ℕ) (names : List (ℕ × List ℕ)) → IsFound table (λ named. is_named named.name.now name) r → map shown table ≡ map ended names
    → option_map (λ (n : Named). n.number) r ≡ number_in names name
agree_named {table} {r} name names at is =
    ap (option_map (λ (n : Named). n.number)) at.is
    ∙ (named name table ∙ (ap (λ t. option_map (λ n. n.0) (find (λ n. is_named n.1 name) t)) is ∙ same_named name names))
