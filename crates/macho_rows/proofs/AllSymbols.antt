-- The rows of all symbols and of all indirect entries of an image that breaks no rule.
use Rattle.std.proofs.Common.{◌≡◌, ◌≢◌, ◌∙◌, ℕ, zero, suc, ◌+◌, ◌-◌, ◌*◌, ◌==◌, ◌≤◌, ◌<◌, List, [], ◌∷◌, length, map, take, drop, slice_index, Bool, true, false, Option, Some, None, Contains, inl, inr, refl, sym, ap, ap₂, subst, subst₂, arith, lit<, length-take, length-drop}
use Rattle.std.specs.Prelude.{nat_le, slice_get}
use Rattle.std.specs.List.{list_any, before_first}
use Rattle.std.specs.Option.{option_map, option_map_or, unwrap_or}
use Rattle.std.proofs.Math.Nat.{mul_comm}
use Rattle.std.proofs.lemmas.Bool.{cases_Bool, cases_lt, le-leb, false≢true, ne_eqb}
use Rattle.std.proofs.lemmas.List.{get_or-take, get_or-drop, length-map}
use Rattle.std.proofs.lemmas.List.Folds.{list_any-from_Any}
use Rattle.std.proofs.lemmas.List.FromFn.{length-map-range_with_len}
use Rattle.std.proofs.lemmas.Option.{same_Some, slice_get-get_or, slice_get-map, slice_get_past}
use Rattle.std.proofs.lemmas.Simd.{map-map}
use Rattle.macho_fields.proofs.LoadCommands.{symbols_listed, strings_listed, indirects_listed}
use Rattle.macho_fields.proofs.Lists.{none_in_nil}
use Rattle.macho_fields.proofs.Ranks.{image_alone}
use Rattle.macho_fields.specs.Field.{HasZero, part, string_from}
use Rattle.macho_fields.specs.Image.{word, commands_of}
use Rattle.macho_fields.specs.Layers.{NothingBreaks}
use Rattle.macho_fields.specs.LoadCommands.{symbol_table, string_table, indirect_table}
use Rattle.macho_fields.specs.Rules.{BreaksImage}
use Rattle.macho_fields.specs.Symbol.{symbol_count, symoff, nsyms, stroff, strsize, indirectsymoff, nindirectsyms, n_strx, IsOutside}
use Rattle.macho_fields.specs.declared.header.loader.TheConstants as loader
use Rattle.macho_fields.specs.declared.load_command.Structure.TheVariants.{SymtabCommand, DysymtabCommand}
use Rattle.macho_fields.specs.declared.rule.Rule.TheVariants as rule
use Rattle.macho_image.specs.Symbol.{symtab_at, dysymtab_at, symbol_at, symbols_of, indirect_at, indirects_of, items_inside}
use Rattle.macho_image.specs.declared.dysymtab.Dysymtab.{Dysymtab}
use Rattle.macho_image.specs.declared.symtab.Symtab.{Symtab}
use Rattle.macho_rules.specs.Check.{KeptBefore}
use Rattle.macho_rules.proofs.OneCommand.{is_with_cmd, symbols_counted}
use Rattle.macho_rules.proofs.TableItems.{table_inside, in_items}
use Rattle.macho_rules.proofs.Verdicts.{unbroken_image_sound}
use Rattle.macho_rows.specs.Image.{ShowsUnbroken, image_in, only, symtab_in, dysymtab_in, field_of}
use Rattle.macho_rows.specs.Rows.{first_string}
use Rattle.macho_rows.specs.Spans.{part_or_none, span_at, span_of}
use Rattle.macho_rows.specs.Symbols.{symbol_row, symbol_rows, row_at, all_symbols, HasAllSymbols, name_at, name_span, name_of, NamesSymbols, AreNames, NamesEach, indirect_row, indirect_rows, all_indirects, HasAllIndirects}
use Rattle.macho_rows.specs.declared.image.KesvuotImage.{KesvuotImage}
use Rattle.macho_rows.specs.declared.span.KesvuotSpan.{KesvuotSpan}
use Rattle.macho_rows.specs.declared.symbols.KesvuotSymbol.{KesvuotSymbol}
use Rattle.macho_rows.proofs.Supplied.{rest_of}

-- Names

-- what stands before the first item that passes, where one of the first n does
before_in_front : (test : ℕ → Bool) (n : ℕ) (xs : List ℕ) → list_any test (take n xs) ≡ true → before_first test (take n xs) ≡ before_first test xs
before_in_front test zero xs some = absurd (false≢true some)
before_in_front test (suc n) [] some = refl
before_in_front test (suc n) (x ∷ xs) some = elim (cases_Bool (test x)) [
  | inl passes ↦ rw passes refl
  | inr fails ↦ rw fails (more _ (take n xs) ∙ (ap (λ ys. x ∷ ys) (before_in_front test n xs (rw fails at some)) ∙ sym (more _ xs)))
]
  where
    more : (k : ℕ) (ys : List ℕ) → take (1 + k) (x ∷ ys) ≡ x ∷ take k ys
    more k ys = let unary : 1 + k ≡ suc k = omega arith in rw unary refl

-- a string that ends in strings that lie in the image
module _ (image : List ℕ) (start size strx : ℕ) (fits : start + size ≤ length image) (ends : HasZero image (start + strx) (start + size)) where
  abbrev front : List ℕ
  front = part (start + strx) (size - strx) image

  zero_in_front : list_any (λ byte. byte == 0) front ≡ true
  zero_in_front =
      let (z, from, below, inside, is) = ends in
      let k : ℕ = z - (start + strx) in
      let here : (start + strx) + k ≡ z = omega (arith, from) in
      let less : k < size - strx = omega (arith, from, below) in
      let held : k < length front = omega (arith, less, fits, length-take (size - strx) (drop (start + strx) image), length-drop (start + strx) image) in
      let is_zero : slice_index front k ≡ 0 = get_or-take (size - strx) (drop (start + strx) image) k 0 less ∙ (get_or-drop (start + strx) image k 0 ∙ (ap (slice_index image) here ∙ is)) in
      list_any-from_Any (λ byte. byte == 0) front (k, 0, held, is_zero, refl)

  string_found : first_string (drop strx (part_or_none start size image)) ≡ Some (string_from (start + strx) image)
  string_found =
      let (z, from, below, inside, is) = ends in
      let past : strx < size = omega (arith, from, below) in
      let rest : drop strx (part_or_none start size image) ≡ front = rw (le-leb (start + size) (length image) fits) (rest_of image start size strx fits past) in
      ap first_string rest ∙ rw zero_in_front (ap Some (before_in_front (λ byte. byte == 0) (size - strx) (drop (start + strx) image) zero_in_front))

-- an item of the first n
in_front : {A : Type 0} (xs : List A) (n k : ℕ) (other : A) → k < n → slice_get (take n xs) k ≡ slice_get xs k
in_front xs n k other less = elim (cases_lt k (length xs)) [
  | inl within ↦ slice_get-get_or (take n xs) k other (omega (arith, within, less, length-take n xs))
      ∙ (ap Some (get_or-take n xs k other less) ∙ sym (slice_get-get_or xs k other within))
  | inr past ↦ slice_get_past (take n xs) k (omega (arith, past, length-take n xs)) ∙ sym (slice_get_past xs k past)
]

-- Tables

-- one that has items, and is not outside, lies in the image
fits_inside : (image : List ℕ) (start n each : ℕ) → ¬ IsOutside image (start, n, each) → 0 < n → start + n * each ≤ length image
fits_inside image start n each inside some = elim (cases_lt (length image) (start + n * each)) [ inl past ↦ absurd (inside (some, past)) | inr most ↦ most ]

pub no_items : (image : List ℕ) (start each : ℕ) → items_inside image start each 0 ≡ []
no_items image start each = elim (cases_Bool (nat_le (start + each * 0) (length image))) [ inl t ↦ rw t refl | inr f ↦ rw f refl ]

pub items_counted : (image : List ℕ) (start each n : ℕ) → ¬ IsOutside image (start, n, each) → length (items_inside image start each n) ≡ n
items_counted image start each zero inside = ap length (no_items image start each)
items_counted image start each (suc n) inside =
    let most = subst (λ size. start + size ≤ length image) (mul_comm (suc n) each) (fits_inside image start (suc n) each inside (omega arith)) in
    rw (le-leb (start + each * suc n) (length image) most) (length-map-range_with_len (λ k. start + each * k) 0 (suc n))

-- the table of a command that may be there
module _ {T : Type 0} (image : List ℕ) (each : ℕ) (at : ℕ → T) (start count : T → ℕ) where
  abbrev table_of : Option ℕ → List ℕ
  table_of first = option_map_or (λ c. items_inside image (start (at c)) each (count (at c))) first []

  table_shown : (first : Option ℕ) → items_inside image (field_of start (option_map at first)) each (field_of count (option_map at first)) ≡ table_of first
  table_shown None = no_items image 0 each
  table_shown (Some c) = refl

  table_counted : (first : Option ℕ) → ((c : ℕ) → first ≡ Some c → ¬ IsOutside image (start (at c), count (at c), each)) → length (table_of first) ≡ field_of count (option_map at first)
  table_counted None inside = refl
  table_counted (Some c) inside = items_counted image (start (at c)) each (count (at c)) (inside c refl)

-- An image that breaks no rule

module _ (image : List ℕ) (unbroken : NothingBreaks (BreaksImage image None)) where
  below : KeptBefore image rule.IndirectIndex
  below other place late = unbroken other place

  symbols_inside : (t : ℕ) → only image loader.LC_SYMTAB ≡ Some t → ¬ IsOutside image (symoff image t, nsyms image t, 16)
  symbols_inside t is = table_inside image loader.LC_SYMTAB SymtabCommand t symbol_table rule.IndirectIndex (lit< tt) below refl (is_with_cmd image loader.LC_SYMTAB t is) symbols_listed

  strings_inside : (t : ℕ) → only image loader.LC_SYMTAB ≡ Some t → ¬ IsOutside image (stroff image t, strsize image t, 1)
  strings_inside t is = table_inside image loader.LC_SYMTAB SymtabCommand t string_table rule.IndirectIndex (lit< tt) below refl (is_with_cmd image loader.LC_SYMTAB t is) strings_listed

  indirects_inside : (d : ℕ) → only image loader.LC_DYSYMTAB ≡ Some d → ¬ IsOutside image (indirectsymoff image d, nindirectsyms image d, 4)
  indirects_inside d is =
      table_inside image loader.LC_DYSYMTAB DysymtabCommand d indirect_table rule.IndirectIndex (lit< tt) below refl (is_with_cmd image loader.LC_DYSYMTAB d is) indirects_listed

  -- a symbol with a name has it in strings that lie in the image, and a zero byte ends it there
  abbrev HasString : ℕ → ℕ → ℕ → Type 0
  HasString start size symbol = (start + size ≤ length image) × HasZero image (start + n_strx image symbol) (start + size)

  has_string : (first : Option ℕ) → only image loader.LC_SYMTAB ≡ first → (p : ℕ)
      → Contains (table_of image 16 (symtab_at image) (λ (t : Symtab). t.symoff) (λ (t : Symtab). t.nsyms) first) p → n_strx image p ≢ 0
      → HasString (field_of (λ (t : Symtab). t.stroff) (option_map (symtab_at image) first)) (field_of (λ (t : Symtab). t.strsize) (option_map (symtab_at image) first)) p
  has_string None is p has some = absurd (none_in_nil p has)
  has_string (Some t) is p has some =
      let (k, few, at) = in_items image (symoff image t) 16 (nsyms image t) p has in
      let (j, less, here) = is_with_cmd image loader.LC_SYMTAB t is in
      let named : n_strx image (symoff image t + 16 * k) ≢ 0 = subst (λ q. n_strx image q ≢ 0) at some in
      let end : ℕ = stroff image t + strsize image t in
      let ends_at = (unbroken_image_sound image unbroken).names (stroff image t + n_strx image (symoff image t + 16 * k)) end (inr (j, t, less, here, (k, few, (named, refl, refl)))) in
      let ends : HasZero image (stroff image t + n_strx image p) end = subst (λ q. HasZero image (stroff image t + n_strx image q) end) (sym at) ends_at in
      let (z, from, high, inside, zero_there) = ends in
      let fits = fits_inside image (stroff image t) (strsize image t) 1 (strings_inside t is) (omega (arith, from, high)) in
      (omega (arith, fits), ends)

  -- so the names of all symbols are read from the strings
  abbrev strings : ℕ
  strings = field_of (λ (t : Symtab). t.stroff) (symtab_in image)

  abbrev strings_size : ℕ
  strings_size = field_of (λ (t : Symtab). t.strsize) (symtab_in image)

  pub name_found : (p strx : ℕ) → Contains (symbols_of image (commands_of image)) p → n_strx image p ≡ strx → strx ≢ 0
      → first_string (drop strx (part_or_none strings strings_size image)) ≡ Some (string_from (strings + strx) image)
  name_found p strx has is some =
      let (fits, ends) = has_string (only image loader.LC_SYMTAB) refl p has (λ none. some (sym is ∙ none)) in
      string_found image strings strings_size strx fits (subst (λ n. HasZero image (strings + n) (strings + strings_size)) is ends)

  all_symbols_counted : length (all_symbols image) ≡ symbol_count image (commands_of image)
  all_symbols_counted =
      length-map (symbols_of image (commands_of image)) (row_at image)
      ∙ (table_counted image 16 (symtab_at image) (λ (t : Symtab). t.symoff) (λ (t : Symtab). t.nsyms) (only image loader.LC_SYMTAB) symbols_inside
      ∙ (by (only image loader.LC_SYMTAB) ∙ sym (symbols_counted image (commands_of image))))
    where
      by : (first : Option ℕ) → field_of (λ (t : Symtab). t.nsyms) (option_map (symtab_at image) first) ≡ option_map_or (nsyms image) first 0
      by None = refl
      by (Some t) = refl

  all_indirects_counted : length (all_indirects image) ≡ field_of (λ (t : Dysymtab). t.nindirectsyms) (dysymtab_in image)
  all_indirects_counted =
      length-map (indirects_of image (commands_of image)) (word image)
      ∙ table_counted image 4 (dysymtab_at image) (λ (t : Dysymtab). t.indirectsymoff) (λ (t : Dysymtab). t.nindirectsyms) (only image loader.LC_DYSYMTAB) indirects_inside

-- The struct of such an image

module _ (file : List ℕ) (row : KesvuotImage) (shows : ShowsUnbroken file row) where
  abbrev image : List ℕ
  image = image_in file row

  -- whatever the architecture
  pub unbroken : NothingBreaks (BreaksImage image None)
  unbroken r place broken = let (all, arch, none) = shows in none r place (image_alone image arch r place broken)

  -- the symbols by its numbers are the whole image's
  pub table_same : items_inside image row.symbols 16 row.symbol_count ≡ symbols_of image (commands_of image)
  table_same =
      ap₂ (λ start n. items_inside image start 16 n) shows.0.tables.symbols shows.0.tables.symbol_count
      ∙ table_shown image 16 (symtab_at image) (λ (t : Symtab). t.symoff) (λ (t : Symtab). t.nsyms) (only image loader.LC_SYMTAB)

  pub symbols_same : symbol_rows image row ≡ all_symbols image
  symbols_same =
      map-map (symbol_row row.section_count) (symbol_at image) (items_inside image row.symbols 16 row.symbol_count)
      ∙ ap₂ (λ n places. map (λ p. symbol_row n (symbol_at image p)) places) shows.0.counts.sections table_same

  pub indirects_same : indirect_rows image row ≡ all_indirects image
  indirects_same =
      map-map indirect_row (indirect_at image) (items_inside image row.indirects 4 row.indirect_count)
      ∙ ap (map (word image)) table
    where
      table : items_inside image row.indirects 4 row.indirect_count ≡ indirects_of image (commands_of image)
      table =
          ap₂ (λ start n. items_inside image start 4 n) shows.0.tables.indirects shows.0.tables.indirect_count
          ∙ table_shown image 4 (dysymtab_at image) (λ (t : Dysymtab). t.indirectsymoff) (λ (t : Dysymtab). t.nindirectsyms) (only image loader.LC_DYSYMTAB)

  pub has_symbols : HasAllSymbols image (symbol_rows image row)
  has_symbols = (symbols_same, all_symbols_counted image unbroken)

  pub has_indirects : HasAllIndirects image (indirect_rows image row)
  has_indirects = (indirects_same, all_indirects_counted image unbroken)

  abbrev named_from : ℕ → ℕ
  named_from strx = field_of (λ (t : Symtab). t.stroff) (symtab_in image) + strx

  name_known : (strx p : ℕ) → Contains (symbols_of image (commands_of image)) p → n_strx image p ≡ strx → strx ≢ 0
      → name_span image row strx ≡ Some (span_of (row.slice.offset + named_from strx) (string_from (named_from strx) image))
  name_known strx p has is some =
      let named : strx == 0 ≡ false = ne_eqb strx 0 some in
      let string : first_string (drop strx (part_or_none row.strings row.strings_size image)) ≡ Some (string_from (named_from strx) image) =
      subst₂ (λ start size. first_string (drop strx (part_or_none start size image)) ≡ Some (string_from (named_from strx) image)) (sym shows.0.tables.strings) (sym shows.0.tables.strings_size) (name_found image unbroken p strx has is some) in
      let found : name_at image row strx ≡ Some (string_from (named_from strx) image) = rw named string in
      ap (option_map (span_of (row.slice.offset + (row.strings + strx)))) found
      ∙ ap (λ start. Some (span_of (row.slice.offset + (start + strx)) (string_from (named_from strx) image))) shows.0.tables.strings

  pub names : (strx : ℕ) → NamesSymbols image row.slice.offset strx (name_span image row strx)
  names strx p has is some = name_known strx p has is some

  pub names_each : (symbols : List KesvuotSymbol) (n : ℕ) (old new : List KesvuotSpan) → AreNames image row symbols n old new → NamesEach image row.slice.offset symbols n new
  names_each symbols n old new are k symbol name less at here p has is some =
      ap Some (same_Some name (name_of image row symbol) (sym here ∙ written k symbol less at)
      ∙ ap (λ o. unwrap_or o (span_at 0 0)) (name_known symbol.strx p has is some))
    where
      written : (k : ℕ) (symbol : KesvuotSymbol) → k < n → slice_get symbols k ≡ Some symbol → slice_get new k ≡ Some (name_of image row symbol)
      written k symbol less at =
          sym (in_front new n k (span_at 0 0) less)
          ∙ (ap (λ names. slice_get names k) are.names
          ∙ (slice_get-map (name_of image row) (take n symbols) k
          ∙ ap (option_map (name_of image row)) (in_front symbols n k symbol less ∙ at)))
