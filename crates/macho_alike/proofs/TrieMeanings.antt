-- Where no symbol says something else than the export trie, readers of both see one origin of a name.
use Rattle.std.proofs.Common.{◌≡◌, ◌≢◌, ◌∙◌, ◌↔◌, ℕ, ◌+◌, ◌<◌, List, Bool, true, false, Some, None, IsTrue, refl, sym, ap, subst, arith, inl, inr}
use Rattle.std.proofs.lemmas.Bool.{false≢true}
use Rattle.std.proofs.lemmas.Option.{same_Some}
use Rattle.macho_fields.proofs.Lists.{any_of}
use Rattle.macho_fields.proofs.Options.{of_some, some_of}
use Rattle.macho_fields.specs.Field.{part}
use Rattle.macho_fields.specs.Image.{commands_of, with_cmd}
use Rattle.macho_fields.specs.Segment.{base_of}
use Rattle.macho_fields.specs.Symbol.{nsyms}
use Rattle.macho_fields.specs.declared.header.loader.TheConstants.{LC_SYMTAB}
use Rattle.macho_image.specs.Symbol.{symbol_at}
use Rattle.macho_image.specs.declared.symbol.Symbol.{Symbol}
use Rattle.macho_spans.specs.declared.span.Span.{Span}
use Rattle.macho_exports.specs.ExportTrie.{find_export}
use Rattle.macho_exports.specs.Exports.{export_table}
use Rattle.macho_exports.specs.declared.export_trie.Export.{Export}
use Rattle.macho_exports.specs.declared.export_trie.Target.{Target}
use Rattle.macho_exports.specs.declared.export_trie.Target.TheVariants as target
use Rattle.macho_alike.proofs.DefinitionMeanings.{equal_or_not}
use Rattle.macho_alike.specs.SymbolModels.{symbol_place}
use Rattle.macho_alike.specs.Symbols.{Differ}
use Rattle.macho_alike.specs.TrieModels.{Origin, Elsewhere, Here, IsOriginByTrie, IsOriginOf, IsOriginBySymbol, IsOriginOfName, HasOneOrigin}
use Rattle.macho_alike.specs.TrieSymbols.{IsUnlike, IsWeakSymbol, IsWeakExport, IsExportedAs, IsUnlikeTrie, BreaksTrieSymbol}

-- two tests that do not differ
same_test : (P Q : Type 0) (p q : Bool) → IsTrue p ↔ P → IsTrue q ↔ Q → ¬ Differ P Q → p ≡ q
same_test P Q true true is_p is_q alike = refl
same_test P Q false false is_p is_q alike = refl
same_test P Q true false is_p is_q alike = absurd (alike (inl (is_p.0 refl, λ so. false≢true (is_q.1 so))))
same_test P Q false true is_p is_q alike = absurd (alike (inr (λ so. false≢true (is_p.1 so), is_q.0 refl)))

abbrev address_of : Target → ℕ
address_of (target.Address address resolver) = address
address_of (target.Reexport ordinal name) = 0

module _ (image : List ℕ) (unbroken : (place : ℕ) → ¬ BreaksTrieSymbol image place) (name : List ℕ) where
  -- a look-up finds one export
  one_export : (one other : Export) → IsExportedAs image name one → IsExportedAs image name other → one ≡ other
  one_export one other is_one is_other =
      let (table, at, found) = some_of (λ t. find_export (part t.start t.len image) name ≡ Some one) (export_table image) is_one in
      let (again, at_again, found_other) = some_of (λ t. find_export (part t.start t.len image) name ≡ Some other) (export_table image) is_other in
      let same : again ≡ table = same_Some again table (sym at_again ∙ at) in
      same_Some one other (sym found ∙ subst (λ (t : Span). find_export (part t.start t.len image) name ≡ Some other) same found_other)

  by_trie : (a b : Origin) → IsOriginByTrie image name a → IsOriginByTrie image name b → a ≡ b
  by_trie Elsewhere b is_a is_b = absurd is_a
  by_trie (Here at weak) Elsewhere is_a is_b = absurd is_b
  by_trie (Here at weak) (Here there other) (one, address, base, found, is_at, based, at_is, is_weak) (two, place, start, found_two, is_there, started, there_is, is_other) =
      let same = one_export one two found found_two in
      let target_is : target.Address address None ≡ target.Address place None = sym is_at.1 ∙ (ap (λ (e : Export). e.target) same ∙ is_there.1) in
      let address_is : address ≡ place = ap address_of target_is in
      let base_is : base ≡ start = same_Some base start (sym based ∙ started) in
      let weak_is : weak ≡ other = same_test (IsWeakExport one.flags) (IsWeakExport one.flags) weak other is_weak (subst (λ (e : Export). IsTrue other ↔ IsWeakExport e.flags) (sym same) is_other)
      (λ differ. elim differ [ inl (so, not) ↦ not so | inr (not, so) ↦ not so ]) in
      rw weak_is (ap (λ (n : ℕ). Here n other) (omega (arith, at_is, there_is, address_is, base_is)))

  symbol_by_trie : (a b : Origin) → IsOriginByTrie image name a → IsOriginBySymbol image name b → a ≡ b
  symbol_by_trie Elsewhere b is_a is_b = absurd is_a
  symbol_by_trie (Here at weak) b (export, address, base, found, is_at, based, at_is, is_weak) (symtab, k, (has, few), external, named, is_b) = by_origin b is_b
    where
      symbol : Symbol
      symbol = symbol_at image (symbol_place image symtab k)

      alike : ¬ IsUnlike (base_of image (commands_of image)) export.flags address symbol
      alike unlike =
          unbroken (symbol_place image symtab k)
          (any_of (λ t. (i : ℕ) × (i < nsyms image t) × (symbol_place image symtab k ≡ symbol_place image t i) × IsUnlikeTrie image t symbol) (with_cmd image LC_SYMTAB (commands_of image)) symtab has
          (k, few, refl, (external, (export, address, subst (λ (n : List ℕ). IsExportedAs image n export) (sym named) found, is_at, unlike))))

      by_origin : (origin : Origin) → IsOriginOf symbol origin → Here at weak ≡ origin
      by_origin Elsewhere elsewhere = absurd (alike (inl elsewhere))
      by_origin (Here there other) (not, there_is, is_other) =
          let value_is : symbol.value ≡ base + address = elim (equal_or_not symbol.value (base + address)) [
            | inl same ↦ same
            | inr differ ↦ absurd (alike (inr (inl (of_some (λ b. symbol.value ≢ b + address) (base_of image (commands_of image)) base based differ))))
          ] in
          let weak_is : other ≡ weak = same_test (IsWeakSymbol symbol) (IsWeakExport export.flags) other weak is_other is_weak (λ differ. alike (inr (inr differ))) in
          rw weak_is (ap (λ (n : ℕ). Here n weak) (omega (arith, at_is, there_is, value_is)))

  as_found : (found a : Origin) → IsOriginByTrie image name found → IsOriginOfName image name a → found ≡ a
  as_found found a is (inl by) = by_trie found a is by
  as_found found a is (inr by) = symbol_by_trie found a is by

pub one_origin : (image : List ℕ) → ((place : ℕ) → ¬ BreaksTrieSymbol image place) → HasOneOrigin image
one_origin image unbroken name found a b is is_a is_b = sym (as_found image unbroken name found a is is_a) ∙ as_found image unbroken name found b is is_b
