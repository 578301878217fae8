use Rattle.std.proofs.Common.{◌≡◌, ◌∙◌, ℕ, List, length, map, Option, Some, None, refl, ap, subst, arith}
use Rattle.std.proofs.lemmas.List.{length-map}
use Rattle.macho_fields.specs.Bytes.{bytes_of}
use Rattle.macho_image.specs.Symbol.{symbol_at, items_inside}
use Rattle.macho_image.specs.declared.symbol.Symbol.{Symbol}
use Rattle.macho_rows.specs.Image.{image_in}
use Rattle.macho_rows.specs.Spans.{part_or_none}
use Rattle.macho_rows.specs.SymbolNames.{HasNameAmong, FindsFirst, IsNamed}
use Rattle.macho_rows.specs.Symbols.{symbol_row}
use Rattle.macho_rows.specs.declared.image.KesvuotImage.{KesvuotImage}
use Rattle.macho_rows.proofs.NamedSymbols.{shown_named, seen_named}
use Rattle.macho_rows.proofs.Ranged.{items_few}
use Rattle.macho_c.proofs.NamedAlike.{finds_meaning}
use Rattle.macho_c.proofs.symbol_names.kesvuot_find_name.Goals as goal

pub first_named-requires : goal.first_named-requires
first_named-requires c =
    let image = bytes_of c.held.result.bytes in
    let row = c.args.image.now in
    let places = items_inside image row.symbols 16 row.symbol_count in
    omega (arith, ap length c.in_table-symbols.ensures, length-map places (symbol_at image), items_few image row.symbols 16 row.symbol_count (omega arith), c.held.result.fits)

-- what the search found is so of the symbols of the struct
shown : (image bytes : List ℕ) (row : KesvuotImage) (name : List ℕ) (found : Option (ℕ × Symbol)) (strings : List ℕ) (symbols : List Symbol) → strings ≡ part_or_none row.strings row.strings_size bytes
    → symbols ≡ map (symbol_at bytes) (items_inside bytes row.symbols 16 row.symbol_count) → bytes ≡ image → FindsFirst (HasNameAmong strings name) symbols found → IsNamed image row name found
shown image bytes row name found strings symbols are is same first =
    subst (λ (held : List ℕ). IsNamed held row name found) same (shown_named bytes row name found strings symbols are is first)

pub returns-in-Some-clause-answer : goal.returns-in-Some-clause-answer
returns-in-Some-clause-answer c =
    let found : Option (ℕ × Symbol) = Some (c.in-Some.first, c.in-Some.found) in (
      found,
      shown (image_in c.args.file.now c.args.image.now) (bytes_of c.held.result.bytes) c.args.image.now c.args.name.now found c.strings.result.now c.in_table-symbols.result
          c.strings.ensures c.in_table-symbols.ensures c.held.ensures.bytes c.in-Some.ensures,
      (refl, refl, c.row_of.ensures),
    )

pub returns-in-Some-clause-all : goal.returns-in-Some-clause-all
returns-in-Some-clause-all c = λ shows.
    let found : Option (ℕ × Symbol) = Some (c.in-Some.first, c.in-Some.found) in (
      found,
      seen_named c.args.file.now c.args.image.now shows c.args.name.now found
          (shown (image_in c.args.file.now c.args.image.now) (bytes_of c.held.result.bytes) c.args.image.now c.args.name.now found c.strings.result.now c.in_table-symbols.result
          c.strings.ensures c.in_table-symbols.ensures c.held.ensures.bytes c.in-Some.ensures),
      (refl, refl, c.row_of.ensures ∙ ap (λ n. symbol_row n c.in-Some.found) shows.0.counts.sections),
    )

pub returns-in-None-clause-answer : goal.returns-in-None-clause-answer
returns-in-None-clause-answer c = (
  None,
  shown (image_in c.args.file.now c.args.image.now) (bytes_of c.held.result.bytes) c.args.image.now c.args.name.now None c.strings.result.now c.in_table-symbols.result
      c.strings.ensures c.in_table-symbols.ensures c.held.ensures.bytes c.in-None.ensures,
  (refl, refl, refl),
)

pub returns-in-None-clause-all : goal.returns-in-None-clause-all
returns-in-None-clause-all c = λ shows. (
  None,
  seen_named c.args.file.now c.args.image.now shows c.args.name.now None
      (shown (image_in c.args.file.now c.args.image.now) (bytes_of c.held.result.bytes) c.args.image.now c.args.name.now None c.strings.result.now c.in_table-symbols.result
      c.strings.ensures c.in_table-symbols.ensures c.held.ensures.bytes c.in-None.ensures),
  (refl, refl, refl),
)

pub returns-in-Some-clause-alike : goal.returns-in-Some-clause-alike
returns-in-Some-clause-alike c = λ shows agree.
    let (found, is, answer) = returns-in-Some-clause-all c shows in
    finds_meaning (image_in c.args.file.now c.args.image.now) c.args.name.now _ _ _ _ found agree is answer

pub returns-in-None-clause-alike : goal.returns-in-None-clause-alike
returns-in-None-clause-alike c = λ shows agree.
    let (found, is, answer) = returns-in-None-clause-all c shows in
    finds_meaning (image_in c.args.file.now c.args.image.now) c.args.name.now _ _ _ _ found agree is answer
