-- Where the rule of definitions is unbroken, all definitions of a name say the same.
use Rattle.std.proofs.Common.{◌≡◌, ◌≢◌, ◌∙◌, ◌⊎◌, ℕ, ◌+◌, ◌*◌, ◌<◌, List, refl, sym, ap, arith, inl, inr}
use Rattle.std.proofs.lemmas.Bool.{cases_order}
use Rattle.macho_fields.proofs.Lists.{any_of}
use Rattle.macho_fields.specs.Image.{commands_of, with_cmd}
use Rattle.macho_fields.specs.Symbol.{symoff, nsyms}
use Rattle.macho_fields.specs.declared.header.loader.TheConstants.{LC_SYMTAB}
use Rattle.macho_image.specs.Symbol.{symbol_at}
use Rattle.macho_image.specs.declared.symbol.Symbol.{Symbol}
use Rattle.macho_alike.specs.SymbolModels.{symbol_place}
use Rattle.macho_alike.specs.Definitions.{meaning_of, DisagreesEarlier, BreaksDefinition}
use Rattle.macho_alike.specs.DefinitionModels.{IsDefinition, IsMeaningOfName, HasOneMeaningOfName, AllDefinitionsAgree}
use Rattle.macho_alike.specs.declared.definitions.Meaning.{Meaning}

pub equal_or_not : (a b : ℕ) → (a ≡ b) ⊎ (a ≢ b)
equal_or_not a b = elim (cases_order a b) [
  | inl same ↦ inl same
  | inr (inl less) ↦ inr (λ same. omega (arith, same, less))
  | inr (inr less) ↦ inr (λ same. omega (arith, same, less))
]

abbrev made : ℕ → ℕ → ℕ → Meaning
made value kind weak = record { value = value; kind = kind; weak = weak }

pub same_meaning : (a b : Meaning) → a.value ≡ b.value → a.kind ≡ b.kind → a.weak ≡ b.weak → a ≡ b
same_meaning a b value kind weak = ap (λ v. made v a.kind a.weak) value ∙ (ap (λ k. made b.value k a.weak) kind ∙ ap (λ w. made b.value b.kind w) weak)

pub meanings_or_not : (a b : Meaning) → (a ≡ b) ⊎ (a ≢ b)
meanings_or_not a b = elim (equal_or_not a.value b.value) [
  | inr other ↦ inr (λ same. other (ap (λ (m : Meaning). m.value) same))
  | inl value ↦ elim (equal_or_not a.kind b.kind) [
    | inr other ↦ inr (λ same. other (ap (λ (m : Meaning). m.kind) same))
    | inl kind ↦ elim (equal_or_not a.weak b.weak) [
      | inr other ↦ inr (λ same. other (ap (λ (m : Meaning). m.weak) same))
      | inl weak ↦ inl (same_meaning a b value kind weak)
    ]
  ]
]

module _ (image : List ℕ) (none : (place : ℕ) → ¬ BreaksDefinition image place) (symtab : ℕ) (name : List ℕ) where
  abbrev at : ℕ → Symbol
  at k = symbol_at image (symbol_place image symtab k)

  in_order : (j k : ℕ) → j < k → IsDefinition image symtab name j → IsDefinition image symtab name k → meaning_of (at j) ≡ meaning_of (at k)
  in_order j k less (has_j, defines_j, named_j) (has_k, defines_k, named_k) =
      let below : symbol_place image symtab j < symbol_place image symtab k = omega (arith, less) in
      elim (meanings_or_not (meaning_of (at j)) (meaning_of (at k))) [
        | inl same ↦ same
        | inr other ↦
            absurd (none (symbol_place image symtab k)
            (any_of (λ t. (i : ℕ) × (i < nsyms image t) × (symbol_place image symtab k ≡ symoff image t + 16 * i) × DisagreesEarlier image t (symbol_place image symtab k))
            (with_cmd image LC_SYMTAB (commands_of image)) symtab has_k.0
            (k, has_k.1, refl, (j, has_j.1, below, (defines_j, defines_k, named_j ∙ sym named_k, other)))))
      ]

  agree : (j k : ℕ) → IsDefinition image symtab name j → IsDefinition image symtab name k → meaning_of (at j) ≡ meaning_of (at k)
  agree j k is_j is_k = elim (cases_order j k) [
    | inl same ↦ ap (λ n. meaning_of (at n)) same
    | inr (inl less) ↦ in_order j k less is_j is_k
    | inr (inr less) ↦ sym (in_order k j less is_k is_j)
  ]

  taken : (k : ℕ) (meaning : Meaning) → (is : IsMeaningOfName image symtab name meaning) → IsDefinition image symtab name is.0
  taken k meaning (i, inl first, means) = first.0
  taken k meaning (i, inr last, means) = last.0

  one_meaning : (a b : Meaning) → IsMeaningOfName image symtab name a → IsMeaningOfName image symtab name b → a ≡ b
  one_meaning a b is_a is_b = is_a.2 ∙ (agree is_a.0 is_b.0 (taken 0 a is_a) (taken 0 b is_b) ∙ sym is_b.2)

pub all_agree : (image : List ℕ) → ((place : ℕ) → ¬ BreaksDefinition image place) → AllDefinitionsAgree image
all_agree image none symtab name j k = agree image none symtab name j k

pub has_one_meaning : (image : List ℕ) → ((place : ℕ) → ¬ BreaksDefinition image place) → HasOneMeaningOfName image
has_one_meaning image none symtab name = one_meaning image none symtab name
