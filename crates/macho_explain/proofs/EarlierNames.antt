-- Symbols, by their indices, and what their names are.
use Rattle.std.proofs.Common.{◌≡◌, ◌∙◌, ℕ, zero, suc, ◌+◌, ◌-◌, ◌^◌, ◌≤◌, ◌<◌, List, [], ◌∷◌, length, Option, Some, None, inl, inr, refl, sym, ap, subst, arith}
use Rattle.std.specs.Prelude.{◌==◌, IsSomeAnd, min, slice_get}
use Rattle.std.specs.List.{before_first}
use Rattle.std.specs.Option.{option_map, option_map_or}
use Rattle.std.proofs.lemmas.Bool.{cases_lt}
use Rattle.std.proofs.lemmas.List.{drop_all}
use Rattle.std.proofs.lemmas.List.Sums.{sum_by_more}
use Rattle.std.proofs.lemmas.Option.{get_or_from_slice_get, none-some, same_Some, slice_get_within}
use Rattle.macho_fields.specs.Field.{string_from}
use Rattle.macho_image.specs.Symbol.{symbol_at}
use Rattle.macho_image.specs.declared.symbol.Symbol.{Symbol}
use Rattle.macho_explain.specs.Alike.{name_size, names_size, symbols_in, AreNamesUpTo, IsDefinitionShown, IsKindSeen, IsOtherValue, IsSymbolKindShown, IsTotalShown}
use Rattle.macho_explain.specs.Explain.{IsSymbolAt}
use Rattle.macho_explain.specs.declared.conflict.Conflict.{Conflict}

-- What is made of what a mapped option has

pub mapped_or : {X Y Z : Type 0} (f : X → Y) (g : Y → Z) (o : Option X) (y : Y) (d : Z) → Some y ≡ option_map f o → option_map_or (λ x. g (f x)) o d ≡ g y
mapped_or f g None y d is = absurd (none-some y (sym is))
mapped_or f g (Some x) y d is = ap g (sym (same_Some y (f x) is))

pub mapped_or_none : {X Y Z : Type 0} (f : X → Y) (h : X → Z) (o : Option X) (d : Z) → None ≡ option_map f o → option_map_or h o d ≡ d
mapped_or_none f h None d is = refl
mapped_or_none f h (Some x) d is = absurd (none-some (f x) is)

-- Strings

string_past : (place : ℕ) (bytes : List ℕ) → length bytes ≤ place → string_from place bytes ≡ []
string_past place bytes past = ap (before_first (λ byte. byte == 0)) (drop_all place bytes past)

-- a place that is held below 2^64 has the same string
pub same_string : (place : ℕ) (bytes : List ℕ) → length bytes < 2 ^ 64 → string_from (min place (2 ^ 64 - 1)) bytes ≡ string_from place bytes
same_string place bytes fits = elim (cases_lt place (2 ^ 64)) [
  | inl less ↦ (let same : min place (2 ^ 64 - 1) ≡ place = omega (arith, less) in ap (λ n. string_from n bytes) same)
  | inr past ↦ string_past (min place (2 ^ 64 - 1)) bytes (omega (arith, fits, past)) ∙ sym (string_past place bytes (omega (arith, fits, past)))
]

-- What is shown, from an image that was opened

module _ (image bytes : List ℕ) (place index : ℕ) (symbol : Symbol) (c : Conflict) (same : image ≡ bytes) (its : symbol ≡ symbol_at bytes place) (listed : IsSymbolAt image index place) where
  pub kind_shown : c.value ≡ index → IsKindSeen image index symbol.kind c → IsSymbolKindShown bytes place c
  kind_shown value seen =
      subst (λ (s : Symbol). IsSymbolAt bytes c.value place × IsKindSeen bytes c.value s.kind c) its
      (subst (λ (n : ℕ). IsSymbolAt bytes n place × IsKindSeen bytes n symbol.kind c) (sym value)
      (subst (λ (b : List ℕ). IsSymbolAt b index place × IsKindSeen b index symbol.kind c) same (listed, seen)))

  pub definition_shown : c.value ≡ symbol.value → IsOtherValue image symbol index c.limit → IsDefinitionShown bytes place c
  definition_shown value other =
      let both : IsSymbolAt bytes index place × IsOtherValue bytes (symbol_at bytes place) index c.limit =
      subst (λ (s : Symbol). IsSymbolAt bytes index place × IsOtherValue bytes s index c.limit) its
      (subst (λ (b : List ℕ). IsSymbolAt b index place × IsOtherValue b symbol index c.limit) same (listed, other)) in
      (value ∙ ap (λ (s : Symbol). s.value) its, (index, both.0, both.1))

pub total_shown : (image bytes : List ℕ) (place index : ℕ) (c : Conflict) → image ≡ bytes → IsSymbolAt image index place → AreNamesUpTo image index c.value → c.limit ≡ length image → IsTotalShown bytes place c
total_shown image bytes place index c same listed names size = subst (λ (b : List ℕ). IsTotalShown b place c) same ((index, listed, names), size)

-- Sums of names

pub next_size : (image : List ℕ) (k : ℕ) (symbol : Symbol) → slice_get (symbols_in image) k ≡ Some symbol → names_size image (k + 1) ≡ names_size image k + name_size image symbol
next_size image k symbol at =
    sum_by_more (name_size image) (symbols_in image) k symbol (slice_get_within (symbols_in image) k symbol at)
    ∙ ap (λ s. names_size image k + name_size image s) (get_or_from_slice_get (symbols_in image) k symbol symbol at)

-- nothing is past the end of a list
pub nothing_past : {A : Type 0} (xs : List A) (end k : ℕ) (P : A → Type 0) → slice_get xs end ≡ None → end ≤ k → ¬ IsSomeAnd (slice_get xs k) P
nothing_past [] end k P none past has = has
nothing_past (x ∷ xs) zero k P none past has = none-some x (sym none)
nothing_past (x ∷ xs) (suc end) zero P none past has = absurd (omega (arith, past))
nothing_past (x ∷ xs) (suc end) (suc k) P none past has = nothing_past xs end k P none (omega (arith, past)) has
