-- The symbols and the indirect entries of an opened image, one after the other.
use Rattle.std.proofs.Common.{◌≡◌, ℕ, ◌+◌, ◌≤◌, ◌<◌, ◌↔◌, List, ◌∷◌, map, length, Some, refl, sym, ap, ◌∙◌, subst, arith, lit<, inl, inr}
use Rattle.std.specs.Option.{option_map}
use Rattle.std.proofs.lemmas.Bool.{cases_lt}
use Rattle.std.proofs.lemmas.Option.{same_Some}
use Rattle.macho_fields.specs.First.{rank}
use Rattle.macho_fields.specs.Image.{word, commands_of}
use Rattle.macho_fields.specs.Segment.{section_count}
use Rattle.macho_fields.specs.Symbol.{symbol_count, symoff, nsyms, stroff, strsize, indirectsymoff, nindirectsyms, n_strx, AtSymbol, IsOutside, HasEndlessName, IsInNoSection, NamesNoSymbol}
use Rattle.macho_fields.specs.LoadCommands.{symbol_table, string_table, indirect_table}
use Rattle.macho_fields.specs.declared.load_command.Structure.TheVariants.{SymtabCommand, DysymtabCommand}
use Rattle.macho_fields.specs.declared.header.loader.TheConstants as loader
use Rattle.macho_fields.specs.declared.rule.Rule.{Rule}
use Rattle.macho_fields.specs.declared.rule.Rule.TheVariants as rule
use Rattle.macho_fields.proofs.LoadCommands.{symbols_listed, strings_listed, indirects_listed}
use Rattle.macho_image.specs.Command.{first_with_cmd}
use Rattle.macho_image.specs.Symbol.{symtab_at, symbols_of, symbol_at, indirects_of, indirect_at}
use Rattle.macho_image.specs.declared.indirect.Indirect.{Indirect}
use Rattle.macho_image.specs.declared.symbol.Symbol.{Symbol}
use Rattle.macho_image.specs.declared.symtab.Symtab.{Symtab}
use Rattle.macho_rules.specs.Check.{KeptBefore}
use Rattle.macho_rules.specs.Survey.{IsNameLimit, BeginsPast, LacksSection}
use Rattle.macho_rules.proofs.OneCommand.{first_at, is_with_cmd}
use Rattle.macho_fields.proofs.FirstPlaces.{AreBreaks}
use Rattle.macho_rules.proofs.Searches.{Searching, first_among}
use Rattle.macho_rules.proofs.TableItems.{table_inside, AtItem, items_search, item_at, items_break}

-- Indirect entries

abbrev pub AreIndirects : List ℕ → List Indirect → Type 0
AreIndirects image all = all ≡ map (indirect_at image) (indirects_of image (commands_of image))

module _ (image : List ℕ) (all : List Indirect) (are : AreIndirects image all) where
  pub indirects_search : (Q : Indirect → Type 0) → Searching (λ e. e.place) Q all all
  indirects_search Q = items_search image loader.LC_DYSYMTAB 4 (indirectsymoff image) (nindirectsyms image) (indirect_at image) (λ e. e.place) (λ p. refl) all are Q

  pub indirects_break : (count : ℕ) → KeptBefore image rule.IndirectIndex → count ≡ symbol_count image (commands_of image)
      → AreBreaks (AtItem image loader.LC_DYSYMTAB 4 (indirectsymoff image) (nindirectsyms image) (indirect_at image) (λ e. e.place) (λ p. refl)
      (λ d p. NamesNoSymbol (symbol_count image (commands_of image)) (word image p)))
      (λ e. e.place) (λ e. NamesNoSymbol count e.value) all
  indirects_break count below number =
      items_break image loader.LC_DYSYMTAB 4 (indirectsymoff image) (nindirectsyms image) (indirect_at image) (λ e. e.place) (λ p. refl) rule.IndirectIndex (lit< tt) below refl
      (λ d has. table_inside image loader.LC_DYSYMTAB DysymtabCommand d indirect_table rule.IndirectIndex (lit< tt) below refl has indirects_listed)
      (λ d p. NamesNoSymbol (symbol_count image (commands_of image)) (word image p)) (λ e. NamesNoSymbol count e.value)
      (λ d p first. (λ here. subst (λ n. NamesNoSymbol n (word image p)) number here, λ here. subst (λ n. NamesNoSymbol n (word image p)) (sym number) here)) all are

-- Symbols

abbrev pub AreSymbols : List ℕ → List Symbol → Type 0
AreSymbols image all = all ≡ map (symbol_at image) (symbols_of image (commands_of image))

module _ (image : List ℕ) (all : List Symbol) (are : AreSymbols image all) where
  pub symbols_search : (Q : Symbol → Type 0) → Searching (λ s. s.place) Q all all
  symbols_search Q = items_search image loader.LC_SYMTAB 16 (symoff image) (nsyms image) (symbol_at image) (λ s. s.place) (λ p. refl) all are Q

  -- a symbol that is left is read at its place
  pub symbol_left : (Q : Symbol → Type 0) (left rest : List Symbol) (s : Symbol) → left ≡ s ∷ rest → Searching (λ t. t.place) Q all left → s ≡ symbol_at image s.place
  symbol_left Q left rest s is search =
      item_at image loader.LC_SYMTAB 16 (symoff image) (nsyms image) (symbol_at image) (λ t. t.place) (λ p. refl) all are s (first_among (λ t. t.place) Q all left rest s is search)

  module _ (r : Rule) (late : rank rule.TableRange < rank r) (below : KeptBefore image r) where
    symbols_break : (P : ℕ → ℕ → Type 0) (Q : Symbol → Type 0) → ((c p : ℕ) → first_with_cmd image loader.LC_SYMTAB (commands_of image) ≡ Some c → Q (symbol_at image p) ↔ P c p)
        → AreBreaks (AtSymbol image (commands_of image) P) (λ s. s.place) Q all
    symbols_break P Q seen =
        items_break image loader.LC_SYMTAB 16 (symoff image) (nsyms image) (symbol_at image) (λ s. s.place) (λ p. refl) r late below refl
        (λ c has. table_inside image loader.LC_SYMTAB SymtabCommand c symbol_table r late below refl has symbols_listed) P Q seen all are

    pub numbers_break : (count : ℕ) → count ≡ section_count image (commands_of image)
        → AreBreaks (AtSymbol image (commands_of image) (λ symtab. IsInNoSection image (section_count image (commands_of image)))) (λ s. s.place) (LacksSection count) all
    numbers_break count number =
        symbols_break (λ symtab. IsInNoSection image (section_count image (commands_of image))) (LacksSection count)
        (λ c p first. (λ here. subst (λ n. IsInNoSection image n p) number here, λ here. subst (λ n. IsInNoSection image n p) (sym number) here))

    pub limit_breaks : (limit : ℕ) → IsNameLimit image limit → AreBreaks (AtSymbol image (commands_of image) (HasEndlessName image)) (λ s. s.place) (BeginsPast limit) all
    limit_breaks limit ends =
        symbols_break (HasEndlessName image) (BeginsPast limit)
        (λ c p first. let past = ends c first (n_strx image p) in (λ (named, begins). (named, past.1 begins), λ (named, endless). (named, past.0 endless)))

    pub names_break : (symtab : ℕ) → first_with_cmd image loader.LC_SYMTAB (commands_of image) ≡ Some symtab
        → AreBreaks (AtSymbol image (commands_of image) (HasEndlessName image)) (λ s. s.place) (λ s. HasEndlessName image symtab s.place) all
    names_break symtab is =
        symbols_break (HasEndlessName image) (λ s. HasEndlessName image symtab s.place)
        (λ c p first. let same = same_Some symtab c (sym is ∙ first) in
        (λ here. subst (λ t. HasEndlessName image t p) same here, λ here. subst (λ t. HasEndlessName image t p) (sym same) here))

-- The symbol table of an image

module _ (image : List ℕ) (symtab : Symtab) (is : Some symtab ≡ option_map (symtab_at image) (first_with_cmd image loader.LC_SYMTAB (commands_of image))) where
  pub symtab_first : first_with_cmd image loader.LC_SYMTAB (commands_of image) ≡ Some symtab.place
  symtab_first = let (c, first, same) = first_at (symtab_at image) _ symtab is in first ∙ ap Some (sym (ap (λ (t : Symtab). t.place) same))

  pub symtab_read : symtab ≡ symtab_at image symtab.place
  symtab_read = let (c, first, same) = first_at (symtab_at image) _ symtab is in same ∙ ap (symtab_at image) (sym (ap (λ (t : Symtab). t.place) same))

  -- its strings lie inside the image, or it has none
  pub strings_inside : (r : Rule) → rank rule.TableRange < rank r → KeptBefore image r → 0 < symtab.strsize → symtab.stroff + symtab.strsize ≤ length image
  strings_inside r late below some =
      let (c, first, same) = first_at (symtab_at image) _ symtab is in
      let size : symtab.strsize ≡ strsize image c = ap (λ (t : Symtab). t.strsize) same in
      let start : symtab.stroff ≡ stroff image c = ap (λ (t : Symtab). t.stroff) same in
      let fits : ¬ IsOutside image (stroff image c, strsize image c, 1) =
      table_inside image loader.LC_SYMTAB SymtabCommand c string_table r late below refl (is_with_cmd image loader.LC_SYMTAB c first) strings_listed in
      elim (cases_lt (length image) (stroff image c + strsize image c)) [ inl past ↦ absurd (fits (omega arith, omega arith)) | inr most ↦ omega arith ]
