-- Claims agree where no symbol is from another library than its name is looked up in.
use Rattle.std.proofs.Common.{◌≡◌, ◌∙◌, ℕ, zero, suc, ◌+◌, ◌-◌, ◌≤◌, ◌<◌, List, [], ◌∷◌, length, get_or, map, Some, Contains, refl, sym, ap, ap₂, subst, arith, add-zero, inl, inr}
use Rattle.std.specs.Prelude.{nat_lt, ◌==◌, if◌then◌else◌}
use Rattle.std.specs.List.{AllAdjacentBelow}
use Rattle.std.specs.List.Sorted.{IsNonDecreasingBy, IsPermutation}
use Rattle.std.proofs.lemmas.Bool.{cases_Bool, cases_lt, eqb-true, ltb-true}
use Rattle.std.proofs.lemmas.List.{get_or_default}
use Rattle.std.proofs.lemmas.List.Sorted.{Contains-permutation}
use Rattle.std.proofs.lemmas.Option.{same_Some, none-some}
use Rattle.macho_fields.specs.declared.header.nlist.TheConstants.{DYNAMIC_LOOKUP_ORDINAL, EXECUTABLE_ORDINAL}
use Rattle.macho_fields.proofs.Lists.{contains_mapped, contains_first}
use Rattle.macho_image.specs.Symbol.{symbol_at}
use Rattle.macho_image.specs.declared.symbol.Symbol.{Symbol}
use Rattle.macho_rules.proofs.Searches.{Searching, search_next}
use Rattle.macho_symbols.specs.Nlist.{library_ordinal}
use Rattle.macho_alike.specs.Claims.{ordinal_of, claim_of, claim_by, claim_at, AreAmong, IsUnclaimed, NoneIsUnclaimed, AgreesWith, Agree}
use Rattle.macho_alike.specs.Definitions.{name_of}
use Rattle.macho_alike.specs.Imports.{ImportsName, library_of, IsLookUp, IsFromOther, NoneIsFromOther, HasLookUp}
use Rattle.macho_alike.specs.LookUps.{LookUps, WereListed}
use Rattle.macho_alike.specs.declared.binds.Library.{Library}
use Rattle.macho_alike.specs.declared.binds.Library.TheVariants as library
use Rattle.macho_alike.specs.declared.claims.Claim.{Claim}
use Rattle.macho_alike.specs.declared.imports.TheConstants as special

-- The library that n_desc says

abbrev with_ordinal : ℕ → Library
with_ordinal number =
    if number == EXECUTABLE_ORDINAL then library.Special special.MAIN_EXECUTABLE
    else (if number == DYNAMIC_LOOKUP_ORDINAL then library.Special special.FLAT_LOOKUP else library.Ordinal number)

plain : (number : ℕ) → number < DYNAMIC_LOOKUP_ORDINAL → library.Ordinal number ≡ with_ordinal number
plain number less = elim (cases_Bool (number == EXECUTABLE_ORDINAL)) [
  | inl t ↦ let same = eqb-true number EXECUTABLE_ORDINAL t in absurd (omega (arith, same, less))
  | inr f ↦ elim (cases_Bool (number == DYNAMIC_LOOKUP_ORDINAL)) [
    | inl t ↦ let same = eqb-true number DYNAMIC_LOOKUP_ORDINAL t in absurd (omega (arith, same, less))
    | inr g ↦ rw (f, g) refl
  ]
]

said : (from : Library) (number : ℕ) → ordinal_of from ≡ Some number → from ≡ with_ordinal number
said (library.Ordinal own) number is = elim (cases_Bool (nat_lt own DYNAMIC_LOOKUP_ORDINAL)) [
  | inl t ↦
      let same : own ≡ number = same_Some own number (rw t at is) in
      plain own (ltb-true own DYNAMIC_LOOKUP_ORDINAL t) ∙ ap with_ordinal same
  | inr f ↦ absurd (none-some number (rw f at is))
]
said (library.Special below) number is = elim (cases_Bool (below == special.MAIN_EXECUTABLE)) [
  | inl t ↦
      let same : EXECUTABLE_ORDINAL ≡ number = same_Some EXECUTABLE_ORDINAL number (rw t at is) in
      ap library.Special (eqb-true below special.MAIN_EXECUTABLE t) ∙ ap with_ordinal same
  | inr f ↦ elim (cases_Bool (below == special.FLAT_LOOKUP)) [
    | inl t ↦
        let same : DYNAMIC_LOOKUP_ORDINAL ≡ number = same_Some DYNAMIC_LOOKUP_ORDINAL number (rw (f, t) at is) in
        ap library.Special (eqb-true below special.FLAT_LOOKUP t) ∙ ap with_ordinal same
    | inr g ↦ absurd (none-some number (rw (f, g) at is))
  ]
]

-- what a symbol says, as it is read
pub same_claim : (claim : Claim) (name own : List ℕ) (number ordinal : ℕ) → claim ≡ claim_of name (Some number) → name ≡ own → number ≡ ordinal → claim ≡ claim_of own (Some ordinal)
same_claim claim name own number ordinal is same_name same = is ∙ ap₂ (λ (n : List ℕ) (k : ℕ). claim_of n (Some k)) same_name same

-- Neighbours

module _ (claims : List Claim) (sorted : IsNonDecreasingBy (λ (claim : Claim). claim.hash) claims) (adjacent : AllAdjacentBelow AgreesWith claims (length claims)) where
  from_on : (d : Claim) (i n : ℕ) → i + n < length claims → (get_or claims i d).hash ≡ (get_or claims (i + n) d).hash → (get_or claims i d).ordinal ≡ (get_or claims (i + n) d).ordinal
  from_on d i zero less same = rw (add-zero) refl
  from_on d i (suc n) less same =
      let next : i + n + 1 ≡ i + suc n = omega arith in
      let before : i + n < length claims = omega (arith, less) in
      let up : (get_or claims i d).hash ≤ (get_or claims (i + n) d).hash = sorted i (i + n) d (omega arith) before in
      let on : (get_or claims (i + n) d).hash ≤ (get_or claims (i + suc n) d).hash = sorted (i + n) (i + suc n) d (omega arith) less in
      let here : (get_or claims i d).hash ≡ (get_or claims (i + n) d).hash = omega (arith, up, on, same) in
      let step : AgreesWith (get_or claims (i + n) d) (get_or claims (i + suc n) d) = subst (λ (k : ℕ). AgreesWith (get_or claims (i + n) d) (get_or claims k d)) next (adjacent (i + n) d (omega (arith, less))) in
      from_on d i n before here ∙ step (sym here ∙ same)

  at_indices : (d : Claim) (i j : ℕ) → i ≤ j → j < length claims → AgreesWith (get_or claims i d) (get_or claims j d)
  at_indices d i j up less =
      let whole : i + (j - i) ≡ j = omega (arith, up) in
      let within : i + (j - i) < length claims = omega (arith, whole, less) in
      subst (λ (k : ℕ). AgreesWith (get_or claims i d) (get_or claims k d)) whole (from_on d i (j - i) within)

  pub all_agree : Agree claims
  all_agree one other (i, i_less, i_at) (j, j_less, j_at) = elim (cases_lt j i) [
    | inl down ↦ λ same. sym (at_ends j i j_less i_less (omega (arith, down)) other one j_at i_at (sym same))
    | inr up ↦ at_ends i j i_less j_less up one other i_at j_at
  ]
    where
      at_ends : (a b : ℕ) → a < length claims → b < length claims → a ≤ b → (x y : Claim) → get_or claims a x ≡ x → get_or claims b y ≡ y → AgreesWith x y
      at_ends a b a_less b_less up x y a_at b_at =
          let on_left = subst (λ (z : Claim). AgreesWith z (get_or claims b x)) a_at (at_indices x a b up b_less) in
          subst (AgreesWith x) (get_or_default claims b x y b_less ∙ b_at) on_left

-- Moved claims

pub agree_moved : (old new : List Claim) → IsPermutation old new → Agree new → Agree old
agree_moved old new moved agree one other has_one has_other = agree one other (Contains-permutation old new one moved has_one) (Contains-permutation old new other moved has_other)

-- Symbols

module _ (image : List ℕ) (symtab : ℕ) (all left rest : List Symbol) (x : Symbol) (is : left ≡ x ∷ rest) (items : List Claim)
    (search : Searching (λ s. s.place) (IsUnclaimed image items symtab) all left) where
  -- a symbol with nothing to claim is passed
  pub unnamed_next : ¬ ImportsName x → Searching (λ s. s.place) (IsUnclaimed image items symtab) all rest
  unnamed_next none = search_next (λ s. s.place) (IsUnclaimed image items symtab) all left rest x is search (λ (imports, unclaimed). none imports)

  -- what it says is claimed, and what was claimed stays
  pub claimed_next : (new : List Claim) → AreAmong items new → Contains new (claim_at image symtab x) → Searching (λ s. s.place) (IsUnclaimed image new symtab) all rest
  claimed_next new among has = search_next (λ s. s.place) (IsUnclaimed image new symtab) all left rest x is more (λ (imports, unclaimed). unclaimed has)
    where
      more : Searching (λ s. s.place) (IsUnclaimed image new symtab) all left
      more = record {
        rising = search.rising;
        among = search.among;
        ahead = λ y has_y (imports, unclaimed). search.ahead y has_y (imports, λ was. unclaimed (among (claim_at image symtab y) was));
      }

pub among_itself : (claims : List Claim) → AreAmong claims claims
among_itself claims = λ claim has. has

-- The rule

none_by : (image : List ℕ) → ((symtab : ℕ) (symbol : Symbol) → ¬ IsFromOther image symtab symbol) → NoneIsFromOther image
none_by image none place (i, symtab, less, at, (k, few, is, other)) = none symtab (symbol_at image place) other

module _ (image : List ℕ) (looks : LookUps) (listed : WereListed (IsLookUp image) [] looks) (claims : List Claim) (are : claims ≡ map claim_by looks) where
  claimed : (name : List ℕ) (from : Library) → IsLookUp image name from → Contains claims (claim_by (name, from))
  claimed name from is = subst (λ (xs : List Claim). Contains xs (claim_by (name, from))) (sym are) (contains_mapped claim_by looks (name, from) ((listed name from).1 (inr is)))

  -- without a claim no name is looked up
  pub none_claimed : length claims ≡ 0 → NoneIsFromOther image
  none_claimed empty = none_by image (λ symtab symbol (imports, (from, looks_up, apart)). let (k, less, at) = claimed (name_of image symtab symbol) from looks_up in omega (arith, less, empty))

  pub some_claimed : 0 < length claims → HasLookUp image
  some_claimed some = by_looks looks listed (subst (λ (xs : List Claim). 0 < length xs) are some)
    where
      by_looks : (all : LookUps) → WereListed (IsLookUp image) [] all → 0 < length (map claim_by all) → HasLookUp image
      by_looks [] none few = absurd (omega (arith, few))
      by_looks ((name, from) ∷ rest) are_all few = elim ((are_all name from).0 (contains_first (name, from) rest)) [
        | inl (k, less, at) ↦ absurd (omega (arith, less))
        | inr is ↦ (name, from, is)
      ]

  -- where all claims agree, no symbol is from another library
  pub none_by_claims : (more : List Claim) → AreAmong claims more → NoneIsUnclaimed image more → Agree more → NoneIsFromOther image
  none_by_claims more among none agree place (i, symtab, less, at, (k, few, is, (imports, (from, looks_up, apart)))) =
      none place (i, symtab, less, at, (k, few, is, (imports, λ has. apart (from_own has))))
    where
      symbol : Symbol
      symbol = symbol_at image place

      from_own : Contains more (claim_at image symtab (symbol_at image place)) → from ≡ library_of (symbol_at image place)
      from_own has =
          let own = symbol_at image place in
          let same = agree (claim_by (name_of image symtab own, from)) (claim_at image symtab own) (among (claim_by (name_of image symtab own, from)) (claimed (name_of image symtab own) from looks_up)) has refl in
          said from (library_ordinal own) same
