-- Where the rule symbol-kind is unbroken, readers see one symbol.
use Rattle.std.proofs.Common.{◌≡◌, ◌≢◌, ◌∙◌, ◌↔◌, ◌⊎◌, ℕ, ◌+◌, ◌-◌, ◌*◌, ◌/◌, ◌<◌, List, [], ◌∷◌, Some, bit_and, lit<, refl, sym, ap, subst, arith, inl, inr}
use Rattle.std.proofs.Math.Nat.{mul-div_cancel_left}
use Rattle.std.proofs.lemmas.Bool.{cases_lt, cases_order}
use Rattle.macho_fields.proofs.Lists.{any_of}
use Rattle.macho_fields.proofs.Options.{some_of, of_some, some_has}
use Rattle.macho_fields.specs.Field.{string_from}
use Rattle.macho_fields.specs.Image.{commands_of, with_cmd}
use Rattle.macho_fields.specs.Symbol.{symoff, nsyms, stroff, n_strx, n_type}
use Rattle.macho_fields.specs.declared.header.loader.TheConstants.{LC_SYMTAB, LC_DYSYMTAB}
use Rattle.macho_fields.specs.declared.header.nlist.TheConstants.{N_EXT, N_STAB, N_TYPE, N_UNDF, N_PBUD}
use Rattle.macho_image.specs.Command.{first_with_cmd}
use Rattle.macho_image.specs.Symbol.{symbol_at, dysymtab_at}
use Rattle.macho_image.specs.declared.dysymtab.Dysymtab.{Dysymtab}
use Rattle.macho_alike.specs.Symbols.{IsExternal, IsOfAnother, IsIn, Differ, IsMisgrouped, IsSeenTwice, symbol_index, BreaksSymbolKind}
use Rattle.macho_alike.specs.SymbolModels.{symbol_place, HasSymbol, SymbolKind, Local, Defined, Undefined, IsOfType, group_of, IsKindByType, IsKindOf, HasOneKind, HasSameGroups, IsNameWithoutOffset, HasOneName}
use Rattle.macho_alike.specs.declared.symbols.TheConstants.{SPACE}

-- Each type is of one kind

same_or_not : (a b : ℕ) → (a ≡ b) ⊎ (a ≢ b)
same_or_not a b = elim (cases_order a b) [
  | inl same ↦ inl same
  | inr (inl less) ↦ inr (λ same. omega (arith, same, less))
  | inr (inr less) ↦ inr (λ same. omega (arith, same, less))
]

external_or_not : (bits : ℕ) → IsExternal bits ⊎ (¬ IsExternal bits)
external_or_not bits = elim (same_or_not (bit_and bits N_STAB) 0) [
  | inl stab ↦ elim (same_or_not (bit_and bits N_EXT) 0) [
    | inl none ↦ inr (λ external. external.1 none)
    | inr some ↦ inl (stab, some)
  ]
  | inr stab ↦ inr (λ external. stab external.0)
]

another_or_not : (bits : ℕ) → IsOfAnother bits ⊎ (¬ IsOfAnother bits)
another_or_not bits = elim (same_or_not (bit_and bits N_TYPE) N_UNDF) [
  | inl undefined ↦ inl (inl undefined)
  | inr not_undefined ↦ elim (same_or_not (bit_and bits N_TYPE) N_PBUD) [
    | inl prebound ↦ inl (inr prebound)
    | inr not_prebound ↦ inr (λ either. elim either [ inl is ↦ not_undefined is | inr is ↦ not_prebound is ])
  ]
]

type_or_not : (bits : ℕ) (kind : SymbolKind) → IsOfType bits kind ⊎ (¬ IsOfType bits kind)
type_or_not bits Local = elim (external_or_not bits) [ inl external ↦ inr (λ is. is external) | inr not ↦ inl not ]
type_or_not bits Defined = elim (external_or_not bits) [
  | inl external ↦ elim (another_or_not bits) [ inl another ↦ inr (λ is. is.1 another) | inr not ↦ inl (external, not) ]
  | inr not ↦ inr (λ is. not is.0)
]
type_or_not bits Undefined = elim (external_or_not bits) [
  | inl external ↦ elim (another_or_not bits) [ inl another ↦ inl (external, another) | inr not ↦ inr (λ is. not is.1) ]
  | inr not ↦ inr (λ is. not is.0)
]

one_type : (bits : ℕ) (a b : SymbolKind) → IsOfType bits a → IsOfType bits b → a ≡ b
one_type bits Local Local is_a is_b = refl
one_type bits Local Defined is_a is_b = absurd (is_a is_b.0)
one_type bits Local Undefined is_a is_b = absurd (is_a is_b.0)
one_type bits Defined Local is_a is_b = absurd (is_b is_a.0)
one_type bits Defined Defined is_a is_b = refl
one_type bits Defined Undefined is_a is_b = absurd (is_a.1 is_b.1)
one_type bits Undefined Local is_a is_b = absurd (is_b is_a.0)
one_type bits Undefined Defined is_a is_b = absurd (is_b.1 is_a.1)
one_type bits Undefined Undefined is_a is_b = refl

-- The groups say the same

in_or_not : (group : ℕ × ℕ) (k : ℕ) → IsIn group k ⊎ (¬ IsIn group k)
in_or_not group k = elim (cases_lt k group.0) [
  | inl before ↦ inr (λ (from, below). omega (arith, before, from))
  | inr from ↦ elim (cases_lt k (group.0 + group.1)) [
    | inl below ↦ inl (from, below)
    | inr past ↦ inr (λ (_, below). omega (arith, past, below))
  ]
]

module _ (groups : Dysymtab) (k bits : ℕ) (right : ¬ IsMisgrouped groups k bits) where
  misgrouped : (kind : SymbolKind) → Differ (IsIn (group_of groups kind) k) (IsOfType bits kind) → IsMisgrouped groups k bits
  misgrouped Local differ = inl differ
  misgrouped Defined differ = inr (inl differ)
  misgrouped Undefined differ = inr (inr differ)

  same_kind : (kind : SymbolKind) → IsIn (group_of groups kind) k ↔ IsOfType bits kind
  same_kind kind = (
    λ within. elim (type_or_not bits kind) [ inl is ↦ is | inr not ↦ absurd (right (misgrouped kind (inl (within, not)))) ],
    λ is. elim (in_or_not (group_of groups kind) k) [ inl within ↦ within | inr not ↦ absurd (right (misgrouped kind (inr (not, is)))) ],
  )

module _ (image : List ℕ) (none : (place : ℕ) → ¬ BreaksSymbolKind image place) (symtab k : ℕ) (has : HasSymbol image symtab k) where
  abbrev place : ℕ
  place = symbol_place image symtab k

  seen_once : ¬ IsSeenTwice image symtab (symbol_at image place)
  seen_once seen =
      none place
      (any_of (λ t. (j : ℕ) × (j < nsyms image t) × (place ≡ symoff image t + 16 * j) × IsSeenTwice image t (symbol_at image place)) (with_cmd image LC_SYMTAB (commands_of image)) symtab has.0
      (k, has.1, refl, seen))

  index : symbol_index image symtab (symbol_at image place) ≡ k
  index = let past : symoff image symtab + 16 * k - symoff image symtab ≡ 16 * k = omega arith in ap (λ n. n / 16) past ∙ mul-div_cancel_left k (lit< tt)

  kind_by_group : (dysymtab : ℕ) → first_with_cmd image LC_DYSYMTAB (commands_of image) ≡ Some dysymtab → (kind : SymbolKind) → IsIn (group_of (dysymtab_at image dysymtab) kind) k ↔ IsKindByType image symtab k kind
  kind_by_group dysymtab is =
      same_kind (dysymtab_at image dysymtab) k (n_type image place) (λ bad. seen_once (inl
      (of_some (λ d. IsMisgrouped (dysymtab_at image d) (symbol_index image symtab (symbol_at image place)) (n_type image place)) (first_with_cmd image LC_DYSYMTAB (commands_of image)) dysymtab is
      (subst (λ n. IsMisgrouped (dysymtab_at image dysymtab) n (n_type image place)) (sym index) bad))))

  kind_by_type : (kind : SymbolKind) → IsKindOf image symtab k kind → IsKindByType image symtab k kind
  kind_by_type kind (inl is) = is
  kind_by_type kind (inr grouped) =
      let (dysymtab, is, within) = some_of (λ d. IsIn (group_of (dysymtab_at image d) kind) k) (first_with_cmd image LC_DYSYMTAB (commands_of image)) grouped in
      (kind_by_group dysymtab is kind).0 within

  -- Names

  nameless : n_strx image place ≡ 0 → (name : List ℕ) → IsNameWithoutOffset image symtab name → name ≡ []
  nameless zero name (inl is) = is
  nameless zero name (inr (inl (space, is))) = is
  nameless zero name (inr (inr (other, is))) = is ∙ empty (string_from (stroff image symtab) image) other (λ shows. seen_once (inr (zero, shows)))
    where
      empty : (string : List ℕ) → string ≢ SPACE ∷ [] → ¬ ((string ≢ []) × (string ≢ SPACE ∷ [])) → string ≡ []
      empty [] other not = refl
      empty (x ∷ xs) other not = absurd (not (λ wrong. absurd (cc), other))

pub one_kind : (image : List ℕ) → ((place : ℕ) → ¬ BreaksSymbolKind image place) → HasOneKind image
one_kind image none symtab k has a b is_a is_b =
    one_type (n_type image (symbol_place image symtab k)) a b (kind_by_type image none symtab k has a is_a) (kind_by_type image none symtab k has b is_b)

pub same_groups : (image : List ℕ) → ((place : ℕ) → ¬ BreaksSymbolKind image place) → HasSameGroups image
same_groups image none dysymtab is symtab k has kind =
    let here = kind_by_group image none symtab k has dysymtab is kind in (
      λ grouped. here.0 (some_has (λ d. IsIn (group_of (dysymtab_at image d) kind) k) (first_with_cmd image LC_DYSYMTAB (commands_of image)) dysymtab is grouped),
      λ typed. of_some (λ d. IsIn (group_of (dysymtab_at image d) kind) k) (first_with_cmd image LC_DYSYMTAB (commands_of image)) dysymtab is (here.1 typed),
    )

pub one_name : (image : List ℕ) → ((place : ℕ) → ¬ BreaksSymbolKind image place) → HasOneName image
one_name image none symtab k has zero a b is_a is_b = nameless image none symtab k has zero a is_a ∙ sym (nameless image none symtab k has zero b is_b)
