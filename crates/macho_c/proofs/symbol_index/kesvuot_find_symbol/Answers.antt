use Rattle.std.proofs.Common.{◌≡◌, ◌∙◌, ℕ, List, Option, Some, None, refl, ap, subst}
use Rattle.macho_image.specs.declared.symbol.Symbol.{Symbol}
use Rattle.macho_fields.specs.Bytes.{bytes_of}
use Rattle.macho_rows.specs.Image.{ShowsUnbroken, image_in}
use Rattle.macho_rows.specs.SymbolIndex.{symbols_shown, symbols_seen, FindsLast, FindsNearest}
use Rattle.macho_rows.specs.Symbols.{symbol_row}
use Rattle.macho_rows.specs.declared.image.KesvuotImage.{KesvuotImage}
use Rattle.macho_c.proofs.NearestSymbol.{finds}
use Rattle.macho_rows.proofs.ShownSymbols.{seen_few, shown_are, shown_seen}
use Rattle.macho_c.proofs.symbol_index.kesvuot_find_symbol.Goals as goal

-- what the search found is so of the symbols of the struct, and of those of an image that breaks no rule
shown : (image bytes : List ℕ) (row held : KesvuotImage) (index : List ℕ) (address : ℕ) (symbols : List Symbol) (found : Option (ℕ × Symbol)) → symbols ≡ symbols_shown bytes held → bytes ≡ image → held ≡ row
    → FindsLast symbols index address found → FindsLast (symbols_shown image row) index address found
shown image bytes row held index address symbols found is same same_row last =
    subst (λ (all : List Symbol). FindsLast all index address found) (shown_are image bytes row held symbols is same same_row) last

seen : (file : List ℕ) (row : KesvuotImage) (index : List ℕ) (address : ℕ) (found : Option (ℕ × Symbol)) → ShowsUnbroken file row → FindsLast (symbols_shown (image_in file row) row) index address found
    → FindsNearest (image_in file row) index address found
seen file row index address found shows last =
    finds (symbols_seen (image_in file row)) index address found (seen_few (image_in file row)) (subst (λ (all : List Symbol). FindsLast all index address found) (shown_seen file row shows) last)

pub returns-in-Some-clause-answer : goal.returns-in-Some-clause-answer
returns-in-Some-clause-answer c =
    let found : Option (ℕ × Symbol) = Some (c.in-Some.last, c.in-Some.found) in (
      found,
      shown (image_in c.args.file.now c.args.image.now) (bytes_of c.of-table.result.bytes) c.args.image.now c.of-table.result.image.now c.args.index.now c.args.address c.indexed.result found
          c.indexed.ensures c.of-table.ensures.bytes c.of-table.ensures.image c.in-Some.ensures,
      (refl, refl, c.row_of.ensures),
    )

pub returns-in-Some-clause-all : goal.returns-in-Some-clause-all
returns-in-Some-clause-all c = λ shows.
    let found : Option (ℕ × Symbol) = Some (c.in-Some.last, c.in-Some.found) in (
      found,
      seen c.args.file.now c.args.image.now c.args.index.now c.args.address found shows
          (shown (image_in c.args.file.now c.args.image.now) (bytes_of c.of-table.result.bytes) c.args.image.now c.of-table.result.image.now c.args.index.now c.args.address c.indexed.result found
          c.indexed.ensures c.of-table.ensures.bytes c.of-table.ensures.image c.in-Some.ensures),
      (refl, refl, c.row_of.ensures ∙ ap (λ n. symbol_row n c.in-Some.found) shows.0.counts.sections),
    )

pub returns-in-None-clause-answer : goal.returns-in-None-clause-answer
returns-in-None-clause-answer c = (
  None,
  shown (image_in c.args.file.now c.args.image.now) (bytes_of c.of-table.result.bytes) c.args.image.now c.of-table.result.image.now c.args.index.now c.args.address c.indexed.result None
      c.indexed.ensures c.of-table.ensures.bytes c.of-table.ensures.image c.in-None.ensures,
  (refl, refl, refl),
)

pub returns-in-None-clause-all : goal.returns-in-None-clause-all
returns-in-None-clause-all c = λ shows. (
  None,
  seen c.args.file.now c.args.image.now c.args.index.now c.args.address None shows
      (shown (image_in c.args.file.now c.args.image.now) (bytes_of c.of-table.result.bytes) c.args.image.now c.of-table.result.image.now c.args.index.now c.args.address c.indexed.result None
      c.indexed.ensures c.of-table.ensures.bytes c.of-table.ensures.image c.in-None.ensures),
  (refl, refl, refl),
)
