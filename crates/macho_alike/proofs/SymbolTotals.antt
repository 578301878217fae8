-- The names of external symbols are counted, up to the first with which they have more bytes than the image.
use Rattle.std.proofs.Common.{◌≡◌, ◌≢◌, ◌∙◌, ◌==◌, ℕ, zero, suc, ◌+◌, ◌*◌, ◌<◌, ◌≤◌, Bool, true, false, List, [], ◌∷◌, map, length, Option, None, Some, refl, sym, ap, subst, arith, lit<, inl, inr}
use Rattle.std.specs.Prelude.{◌&&◌, not, nat_le, bit_and, if◌then◌else◌}
use Rattle.std.specs.List.{range_with_len}
use Rattle.std.specs.Option.{option_map_or}
use Rattle.std.proofs.lemmas.Bool.{cases_Bool, cases_lt, eqb-true, eq-eqb, le-leb, true≢false}
use Rattle.std.proofs.lemmas.Option.{same_Some}
use Rattle.std.proofs.Math.Nat.{mul_comm}
use Rattle.macho_fields.specs.Field.{string_from}
use Rattle.macho_fields.specs.FirstPlace.{IsLeastPlace}
use Rattle.macho_fields.specs.Image.{commands_of, with_cmd}
use Rattle.macho_fields.specs.Layers.{NothingBreaks}
use Rattle.macho_fields.specs.LoadCommands.{symbol_table}
use Rattle.macho_fields.specs.Rules.{BreaksImage}
use Rattle.macho_fields.specs.Symbol.{symoff, nsyms, stroff, IsOutside}
use Rattle.macho_fields.specs.declared.header.loader.TheConstants as loader
use Rattle.macho_fields.specs.declared.header.nlist.TheConstants.{N_EXT, N_STAB}
use Rattle.macho_fields.specs.declared.load_command.Structure.TheVariants.{SymtabCommand}
use Rattle.macho_fields.specs.declared.rule.Rule.TheVariants as rule
use Rattle.macho_fields.proofs.Lists.{any_of}
use Rattle.macho_fields.proofs.LoadCommands.{symbols_listed}
use Rattle.macho_image.specs.Command.{first_with_cmd}
use Rattle.macho_image.specs.Opened.{IsOpened}
use Rattle.macho_image.specs.Symbol.{symbol_at, symbols_of, items_inside}
use Rattle.macho_image.specs.declared.symbol.Symbol.{Symbol}
use Rattle.macho_rules.proofs.Judged.{keeps_opened}
use Rattle.macho_rules.proofs.OneCommand.{is_with_cmd, first_is}
use Rattle.macho_rules.proofs.SymbolItems.{AreSymbols}
use Rattle.macho_rules.proofs.TableItems.{table_inside}
use Rattle.macho_alike.specs.Definitions.{name_of}
use Rattle.macho_alike.specs.Names.{HasExternalName}
use Rattle.macho_alike.specs.SymbolModels.{symbol_place}
use Rattle.macho_alike.specs.SymbolTotal.{has_external_name, name_size, names_size, PassesImage, BreaksSymbolTotal}

-- the test of external names

both : (a b : Bool) → (a && b) ≡ true → (a ≡ true) × (b ≡ true)
both true b is = (refl, is)
both false b is = absurd (true≢false (sym is))

not_zero : (n : ℕ) → not (n == 0) ≡ true → n ≢ 0
not_zero n is zero_is = true≢false (sym is ∙ ap not (eq-eqb n 0 zero_is))

zero_not : (n : ℕ) → n ≢ 0 → not (n == 0) ≡ true
zero_not n some = elim (cases_Bool (n == 0)) [ inl t ↦ absurd (some (eqb-true n 0 t)) | inr f ↦ ap not f ]

pub tested : (symbol : Symbol) → HasExternalName symbol → has_external_name symbol ≡ true
tested symbol ((plain, external), some) = rw (eq-eqb (bit_and symbol.kind N_STAB) 0 plain, zero_not (bit_and symbol.kind N_EXT) external, zero_not symbol.strx some) refl

pub tested_back : (symbol : Symbol) → has_external_name symbol ≡ true → HasExternalName symbol
tested_back symbol is =
    let (plain, rest) = both (bit_and symbol.kind N_STAB == 0) _ is in
    let (external, some) = both (not (bit_and symbol.kind N_EXT == 0)) _ rest in
    ((eqb-true (bit_and symbol.kind N_STAB) 0 plain, not_zero (bit_and symbol.kind N_EXT) external), not_zero symbol.strx some)

-- what is read of a name
pub size_read : (image : List ℕ) (symtab : ℕ) (s : Symbol) → HasExternalName s → (start len : ℕ) → start ≡ stroff image symtab + s.strx
    → (bytes : List ℕ) → bytes ≡ image → len ≡ length (string_from start bytes) → name_size image symtab s ≡ len + 1
size_read image symtab s named start len is bytes same size =
    let name : len ≡ length (name_of image symtab s) = size ∙ (ap (λ xs. length (string_from start xs)) same ∙ ap (λ n. length (string_from n image)) is) in
    rw (tested s named) (ap (λ n. n + 1) (sym name))

module _ (image : List ℕ) (symtab : ℕ) where
  abbrev pub row : ℕ → Symbol
  row k = symbol_at image (symbol_place image symtab k)

  -- the symbols from one on, so many
  abbrev pub rows : ℕ → ℕ → List Symbol
  rows k left = map (symbol_at image) (map (λ i. symoff image symtab + 16 * i) (range_with_len k left))

  -- These symbols are left, and the names before them are counted.
  pub record Counted (count : ℕ) (left : List Symbol) (total : ℕ) : Type 0 where
    pub index : ℕ
    pub rest : ℕ
    pub sum_is : index + rest ≡ count
    pub left_is : left ≡ rows index rest
    pub total_is : total ≡ names_size image symtab index
    pub fits : total ≤ length image

  pub counted_none : (count : ℕ) (left : List Symbol) → left ≡ rows 0 count → Counted count left 0
  counted_none count left is = record { index = 0; rest = count; sum_is = omega arith; left_is = is; total_is = refl; fits = omega arith }

  names_rise : (j k : ℕ) → j ≤ k → names_size image symtab j ≤ names_size image symtab k
  names_rise j zero low = let none : j ≡ 0 = omega (arith, low) in rw none (omega arith)
  names_rise j (suc k) low = elim (cases_lt k j) [
    | inl last ↦ let here : j ≡ suc k = omega (arith, low, last) in rw here (omega arith)
    | inr most ↦ let up = names_rise j k most in omega (arith, up)
  ]

  module _ (count : ℕ) (left rest : List Symbol) (s : Symbol) (is : left ≡ s ∷ rest) (total : ℕ) (counted : Counted count left total) where
    -- which one it is
    pub next_row : (m : ℕ) × (counted.rest ≡ suc m) × (s ≡ row counted.index) × (rest ≡ rows (counted.index + 1) m)
    next_row = by counted.rest refl
      where
        by : (r : ℕ) → counted.rest ≡ r → (m : ℕ) × (counted.rest ≡ suc m) × (s ≡ row counted.index) × (rest ≡ rows (counted.index + 1) m)
        by zero none = absurd (let e : s ∷ rest ≡ [] = sym is ∙ (counted.left_is ∙ ap (rows counted.index) none) in cc)
        by (suc m) some =
            let e : s ∷ rest ≡ row counted.index ∷ rows (counted.index + 1) m = sym is ∙ (counted.left_is ∙ ap (rows counted.index) some) in
            (m, some, cc, cc)

    counted_next : (new : ℕ) → new ≡ total + name_size image symtab s → new ≤ length image → Counted count rest new
    counted_next new adds fits =
        let (m, some, here, later) = next_row in
        let step : counted.index + 1 ≡ suc counted.index = omega arith in
        let size : name_size image symtab s ≡ name_size image symtab (row counted.index) = ap (name_size image symtab) here in
        let sum = counted.sum_is in
        let was = counted.total_is in record {
          index = counted.index + 1;
          rest = m;
          sum_is = omega (arith, sum, some);
          left_is = later;
          total_is = rw step (omega (arith, adds, was, size));
          fits = fits;
        }

    -- it has no name
    pub counted_past : ¬ HasExternalName s → Counted count rest total
    counted_past nothing = counted_next total (elim (cases_Bool (has_external_name s)) [
      | inl t ↦ absurd (nothing (tested_back s t))
      | inr f ↦ rw f (omega arith)
    ]) counted.fits

    module _ (named : HasExternalName s) (len : ℕ) (size : name_size image symtab s ≡ len + 1) where
      -- with its name they have no more bytes than the image
      pub counted_more : (new : ℕ) → new ≡ total + (len + 1) → new ≤ length image → Counted count rest new
      counted_more new adds = counted_next new (omega (arith, adds, size))

-- From the table to the image

module _ (image : List ℕ) (keeps : NothingBreaks (BreaksImage image None)) (symtab : ℕ) (first : first_with_cmd image loader.LC_SYMTAB (commands_of image) ≡ Some symtab) where
  opened : IsOpened image
  opened = keeps_opened image rule.SymbolName (lit< tt) (λ other place early. keeps other place)

  abbrev count : ℕ
  count = nsyms image symtab

  pub table_rows : (all : List Symbol) → AreSymbols image all → all ≡ rows image symtab 0 count
  table_rows all are = are ∙ ap (map (symbol_at image)) (places ∙ inside)
    where
      places : symbols_of image (commands_of image) ≡ items_inside image (symoff image symtab) 16 count
      places = ap (λ (o : Option ℕ). option_map_or (λ t. items_inside image (symoff image t) 16 (nsyms image t)) o []) first

      fits : ¬ IsOutside image (symoff image symtab, count, 16)
      fits = table_inside image loader.LC_SYMTAB SymtabCommand symtab symbol_table rule.SymbolName (lit< tt) (λ other place early. keeps other place) refl (is_with_cmd image loader.LC_SYMTAB symtab first) symbols_listed

      either : (b : Bool) → (if b then map (λ k. symoff image symtab + 16 * k) (range_with_len 0 0) else []) ≡ map (λ k. symoff image symtab + 16 * k) (range_with_len 0 0)
      either true = refl
      either false = refl

      inside : items_inside image (symoff image symtab) 16 count ≡ map (λ k. symoff image symtab + 16 * k) (range_with_len 0 count)
      inside = elim (cases_lt 0 count) [
        | inl some ↦ elim (cases_lt (length image) (symoff image symtab + count * 16)) [
          | inl past ↦ absurd (fits (some, past))
          | inr most ↦ rw (le-leb (symoff image symtab + 16 * count) (length image) (subst (λ size. symoff image symtab + size ≤ length image) (mul_comm count 16) most)) refl
        ]
        | inr none ↦ let no : count ≡ 0 = omega (arith, none) in rw no (either (nat_le (symoff image symtab + 16 * 0) (length image)))
      ]

  -- where the rule is broken, in the table
  pub broken_row : (place : ℕ) → BreaksSymbolTotal image place → (k : ℕ) × (k < count) × (place ≡ symbol_place image symtab k) × (length image < names_size image symtab (suc k))
  broken_row place (i, c, inside, at_i, (k, few, from, (named, (j, at, passes)))) =
      let same : c ≡ symtab = same_Some c symtab (sym (first_is image loader.LC_SYMTAB opened refl c (i, inside, at_i)) ∙ first) in
      let one : j ≡ k = omega (arith, from, at) in
      subst (λ t. (n : ℕ) × (n < nsyms image t) × (place ≡ symbol_place image t n) × (length image < names_size image t (suc n))) same
      (k, few, from, subst (λ n. length image < names_size image c (suc n)) one passes)

  pub row_broken : (k : ℕ) → k < count → HasExternalName (row image symtab k) → length image < names_size image symtab (suc k) → BreaksSymbolTotal image (symbol_place image symtab k)
  row_broken k few named passes =
      any_of (λ t. (n : ℕ) × (n < nsyms image t) × (symbol_place image symtab k ≡ symoff image t + 16 * n) × PassesImage image t (symbol_place image symtab k))
      (with_cmd image loader.LC_SYMTAB (commands_of image)) symtab (is_with_cmd image loader.LC_SYMTAB symtab first) (k, few, refl, (named, (k, refl, passes)))

  -- all were counted
  pub none_pass : (left : List Symbol) (total : ℕ) → left ≡ [] → Counted image symtab count left total → (place : ℕ) → ¬ BreaksSymbolTotal image place
  none_pass left total none counted place broken =
      let (k, few, at, passes) = broken_row place broken in
      let ended : counted.rest ≡ 0 = none_left counted.rest (sym counted.left_is ∙ none) in
      let sum = counted.sum_is in
      let up = names_rise image symtab (suc k) counted.index (omega (arith, few, sum, ended)) in
      let was = counted.total_is in
      let fits = counted.fits in
      omega (arith, up, was, fits, passes)
    where
      none_left : (r : ℕ) → rows image symtab counted.index r ≡ [] → r ≡ 0
      none_left zero e = refl
      none_left (suc r) e = absurd (cc)

  -- with this name they have more bytes than the image
  module _ (left rest : List Symbol) (s : Symbol) (is : left ≡ s ∷ rest) (total : ℕ) (counted : Counted image symtab count left total) (named : HasExternalName s)
      (len : ℕ) (size : name_size image symtab s ≡ len + 1) where
    pub found_pass : (new : ℕ) → new ≡ total + (len + 1) → length image < new → IsLeastPlace (BreaksSymbolTotal image) (Some s.place)
    found_pass new adds past =
        let (m, some, here, later) = next_row image symtab count left rest s is total counted in
        let k : ℕ = counted.index in
        let sum = counted.sum_is in
        let was = counted.total_is in
        let of_row : name_size image symtab s ≡ name_size image symtab (row image symtab k) = ap (name_size image symtab) here in
        let passes : length image < names_size image symtab (suc k) = omega (arith, past, adds, size, was, of_row) in
        let at : symbol_place image symtab k ≡ s.place = sym (ap (λ (t : Symbol). t.place) here) in (
          subst (BreaksSymbolTotal image) at (row_broken k (omega (arith, sum, some)) (subst HasExternalName here named) passes),
          λ place broken.
              let (j, few, there, over) = broken_row place broken in
              elim (cases_lt j k) [
                | inl less ↦
                    let up = names_rise image symtab (suc j) k (omega (arith, less)) in
                    let fits = counted.fits in absurd (omega (arith, up, was, fits, over))
                | inr most ↦ omega (arith, most, at, there)
              ],
        )
