-- The symbols by the struct of an image that breaks no rule are the image's, and so are their
-- names.
use Rattle.std.proofs.Common.{◌≡◌, ◌∙◌, ℕ, ◌^◌, ◌≤◌, List, length, map, take, sym, ap, ap₂, subst, arith, length-take}
use Rattle.macho_fields.specs.Image.{commands_of}
use Rattle.macho_image.specs.Symbol.{symbols_of, symbol_at}
use Rattle.macho_image.specs.declared.symbol.Symbol.{Symbol}
use Rattle.macho_rows.specs.Image.{ShowsUnbroken, image_in}
use Rattle.macho_rows.specs.SymbolIndex.{symbols_shown, symbols_seen}
use Rattle.macho_rows.specs.declared.image.KesvuotImage.{KesvuotImage}
use Rattle.macho_rows.proofs.AllSymbols.{table_same}

take_few : (n : ℕ) (symbols : List Symbol) → length (take n symbols) ≤ n
take_few n symbols = omega (arith, length-take n symbols)

pub few_are : (n : ℕ) (some all : List Symbol) → some ≡ take n all → length some ≤ n
few_are n some all is = subst (λ (xs : List Symbol). length xs ≤ n) (sym is) (take_few n all)

pub seen_few : (image : List ℕ) → length (symbols_seen image) ≤ 2 ^ 32
seen_few image = take_few (2 ^ 32) (map (symbol_at image) (symbols_of image (commands_of image)))

-- the symbols that the code reads are those by the struct
pub shown_are : (image bytes : List ℕ) (row held : KesvuotImage) (symbols : List Symbol) → symbols ≡ symbols_shown bytes held → bytes ≡ image → held ≡ row → symbols ≡ symbols_shown image row
shown_are image bytes row held symbols is same same_row = is ∙ ap₂ symbols_shown same same_row

pub shown_seen : (file : List ℕ) (row : KesvuotImage) → ShowsUnbroken file row → symbols_shown (image_in file row) row ≡ symbols_seen (image_in file row)
shown_seen file row shows = ap (λ places. take (2 ^ 32) (map (symbol_at (image_in file row)) places)) (table_same file row shows)
