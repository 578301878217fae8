-- A bound pointer of a section has one name.
use Rattle.std.proofs.Common.{◌≡◌, ◌∙◌, ℕ, ◌+◌, List, slice_get, refl, sym, ap, subst, inl, inr}
use Rattle.std.specs.Prelude.{IsSomeAnd, ◌==◌, bit_and}
use Rattle.std.proofs.lemmas.Bool.{cases_Bool, eqb-true, eq-eqb, true≢false}
use Rattle.std.proofs.lemmas.Option.{same_Some}
use Rattle.macho_fields.specs.Field.{string_from}
use Rattle.macho_fields.specs.Image.{commands_of}
use Rattle.macho_fields.specs.Symbol.{stroff, IsSymbolIndex}
use Rattle.macho_fields.specs.declared.header.loader.TheConstants.{LC_SYMTAB}
use Rattle.macho_fields.specs.declared.header.nlist.TheConstants.{N_TYPE, N_INDR}
use Rattle.macho_fields.proofs.Options.{some_of, of_some}
use Rattle.macho_image.specs.Command.{first_with_cmd}
use Rattle.macho_image.specs.declared.indirect.Indirect.{Indirect}
use Rattle.macho_image.specs.declared.symbol.Symbol.{Symbol}
use Rattle.macho_alike.specs.IndirectModels.{IsShownName, IsNameOfEntry, HasOneNameOfPointer}
use Rattle.macho_alike.specs.Indirects.{HasEntry, entry_with, name_offset, HasNameAt, IsNameOf, IsOfAnotherName, BreaksIndirectName, symbols_in}
use Rattle.macho_alike.proofs.SaidNames.{same_text}

module _ (image : List ℕ) where
  -- the name that readers show of a symbol begins where it stands for one
  shown_at : (symtab : ℕ) (symbol : Symbol) (name : List ℕ) → IsShownName image symtab symbol name → name ≡ string_from (stroff image symtab + name_offset symbol) image
  shown_at symtab symbol name shown = elim (cases_Bool (bit_and symbol.kind N_TYPE == N_INDR)) [
    | inl t ↦ elim shown [ inl (other, is) ↦ absurd (other (eqb-true (bit_and symbol.kind N_TYPE) N_INDR t)) | inr (alias, is) ↦ rw t is ]
    | inr f ↦ elim shown [ inl (other, is) ↦ rw f is | inr (alias, is) ↦ absurd (true≢false (sym (eq-eqb (bit_and symbol.kind N_TYPE) N_INDR alias) ∙ f)) ]
  ]

  -- a name that readers show of a symbol is the name that it stands for
  shown_own : (value : ℕ) (a b : List ℕ) → IsNameOf image value a → IsNameOfEntry image value b → a ≡ b
  shown_own value a b (start, is_start, text) shown =
      let (symtab, first, here) = some_of (λ (t : ℕ). IsSomeAnd (slice_get (symbols_in image) value) (λ (s : Symbol). HasNameAt image t s start)) (first_with_cmd image LC_SYMTAB (commands_of image)) is_start in
      let (symbol, at, (named, begins, whole)) = some_of (λ (s : Symbol). HasNameAt image symtab s start) (slice_get (symbols_in image) value) here in
      let (other, again, there) = some_of (λ (t : ℕ). IsSomeAnd (slice_get (symbols_in image) value) (λ (s : Symbol). IsShownName image t s b)) (first_with_cmd image LC_SYMTAB (commands_of image)) shown in
      let (same, too, name) = some_of (λ (s : Symbol). IsShownName image other s b) (slice_get (symbols_in image) value) there in
      let tables : other ≡ symtab = same_Some _ _ (sym again ∙ first) in
      let symbols : same ≡ symbol = same_Some _ _ (sym too ∙ at) in
      let shows : IsShownName image symtab symbol b = subst (λ (t : ℕ). IsShownName image t symbol b) tables (subst (λ (s : Symbol). IsShownName image other s b) symbols name) in
      sym text ∙ (ap (λ (n : ℕ). string_from n image) begins ∙ sym (shown_at symtab symbol b shows))

  pub one_name_of_pointer : ((place : ℕ) → ¬ BreaksIndirectName image place) → HasOneNameOfPointer image
  one_name_of_pointer unbroken segment offset a b (bound, is, its, at, text) (index, has, found) =
      let (entry, listed, (is_index, shown)) = some_of (λ (e : Indirect). IsSymbolIndex e.value × IsNameOfEntry image e.value b) (entry_with image index) found in
      elim (same_text a b) [
        | inl same ↦ same
        | inr other ↦
            absurd (unbroken entry.place (
              bound,
              index,
              is,
              entry_of has,
              of_some (λ (e : Indirect). (entry.place ≡ e.place) × IsOfAnotherName image e bound.name) (entry_with image index) entry listed
                  (refl, (is_index, λ named. other (text ∙ shown_own entry.value (string_from bound.name image) b named shown))),
            ))
      ]
    where
      entry_of : HasEntry image (record { segment = segment; offset = offset; name = 0 }) index → HasEntry image bound index
      entry_of entry =
          subst (λ (s : ℕ). HasEntry image (record { segment = s; offset = bound.offset; name = bound.name }) index) (sym its)
          (subst (λ (o : ℕ). HasEntry image (record { segment = segment; offset = o; name = 0 }) index) (sym at) entry)
