-- The rows of the symbols and of the indirect entries of an image, by the numbers of its struct, which
-- the caller may have changed, and by the image alone. (mach-o/nlist.h: nlist_64)
use Rattle.std.specs.Prelude.{◌≡◌, ◌≢◌, ℕ, ◌+◌, ◌-◌, ◌^◌, ◌==◌, ◌<◌, ◌&&◌, List, length, map, take, drop, min, slice_get, Contains, Option, Some, None, nat_le, if◌then◌else◌}
use Rattle.std.specs.Option.{option_map, unwrap_or}
use Rattle.macho_fields.specs.Field.{string_from}
use Rattle.macho_fields.specs.Image.{word, commands_of}
use Rattle.macho_fields.specs.Segment.{section_count}
use Rattle.macho_fields.specs.Symbol.{symbol_count, n_strx, n_type, n_sect, n_desc, n_value}
use Rattle.macho_fields.specs.declared.header.loader.TheConstants as loader
use Rattle.macho_fields.specs.declared.header.nlist.TheConstants as nlist
use Rattle.macho_image.specs.Symbol.{symbols_of, symbol_at, indirects_of, indirect_at, items_inside}
use Rattle.macho_image.specs.declared.dysymtab.Dysymtab.{Dysymtab}
use Rattle.macho_image.specs.declared.indirect.Indirect.{Indirect}
use Rattle.macho_image.specs.declared.symbol.Symbol.{Symbol}
use Rattle.macho_image.specs.declared.symtab.Symtab.{Symtab}
use Rattle.macho_rows.specs.Image.{symtab_in, dysymtab_in, field_of}
use Rattle.macho_rows.specs.Rows.{first_string}
use Rattle.macho_rows.specs.Spans.{part_or_none, span_at, span_of}
use Rattle.macho_rows.specs.declared.cursor.KesvuotCursor.{KesvuotCursor}
use Rattle.macho_rows.specs.declared.image.KesvuotImage.{KesvuotImage}
use Rattle.macho_rows.specs.declared.span.KesvuotSpan.{KesvuotSpan}
use Rattle.macho_rows.specs.declared.symbols.KesvuotSymbol.{KesvuotSymbol}

-- the index of the section with this number, which is from 1 on, and 2^32 - 1 where the number names none
abbrev pub section_of : ℕ → ℕ → ℕ
section_of sect sections =
    if nat_le 1 sect && nat_le sect sections then sect - 1 else 2 ^ 32 - 1

-- the row of a symbol of an image with so many sections
abbrev pub symbol_row : ℕ → Symbol → KesvuotSymbol
symbol_row sections symbol = record {
  value = symbol.value;
  strx = symbol.strx;
  section = section_of symbol.sect sections;
  desc = symbol.desc;
  kind = symbol.kind;
  sect = symbol.sect;
  reserved = 0;
}

-- the rows of the table, in its order, and none where it does not lie inside the image
abbrev pub symbol_rows : List ℕ → KesvuotImage → List KesvuotSymbol
symbol_rows image row =
    map (symbol_row row.section_count) (map (symbol_at image)
    (items_inside image row.symbols nlist.NLIST_64_SIZE row.symbol_count))

-- those that remain at a cursor
abbrev pub symbols_left : List ℕ → KesvuotImage → KesvuotCursor → List KesvuotSymbol
symbols_left image row cursor = drop cursor.items (symbol_rows image row)

-- the indirect entries, in the order of their table, and none where it does not lie inside the image
abbrev pub indirect_row : Indirect → ℕ
indirect_row entry = entry.value

abbrev pub indirect_rows : List ℕ → KesvuotImage → List ℕ
indirect_rows image row =
    map indirect_row (map (indirect_at image)
    (items_inside image row.indirects loader.INDIRECT_ENTRY_SIZE row.indirect_count))

abbrev pub indirects_left : List ℕ → KesvuotImage → KesvuotCursor → List ℕ
indirects_left image row cursor = drop cursor.items (indirect_rows image row)

-- The name at strx in the strings. It is empty where strx is 0, where the strings do not lie inside the
-- image, and where no zero byte of them ends it.
abbrev pub name_at : List ℕ → KesvuotImage → ℕ → Option (List ℕ)
name_at image row strx =
    if strx == 0 then None
    else first_string (drop strx (part_or_none row.strings row.strings_size image))

-- where this name lies in the file
abbrev pub name_span : List ℕ → KesvuotImage → ℕ → Option KesvuotSpan
name_span image row strx =
    option_map (span_of (row.slice.offset + (row.strings + strx))) (name_at image row strx)

-- the same of a symbol, and no bytes where there is none
abbrev pub name_of : List ℕ → KesvuotImage → KesvuotSymbol → KesvuotSpan
name_of image row symbol = unwrap_or (name_span image row symbol.strx) (span_at 0 0)

-- The names of symbols: of all these, or of as many as there is room for, which are the first n. The table of
-- the names had `old`, and has `new`: these names, and from then on what it had.
pub record AreNames (image : List ℕ) (row : KesvuotImage) (symbols : List KesvuotSymbol) (n : ℕ)
    (old new : List KesvuotSpan) : Type 0 where
  pub count : n ≡ min (length symbols) (length old)
  pub names : take n new ≡ map (name_of image row) (take n symbols)
  pub rest : drop n new ≡ drop n old

-- By the image alone: all its symbols, and all its indirect entries

-- the row of the symbol at a place
abbrev pub row_at : List ℕ → ℕ → KesvuotSymbol
row_at image symbol = record {
  value = n_value image symbol;
  strx = n_strx image symbol;
  section = section_of (n_sect image symbol) (section_count image (commands_of image));
  desc = n_desc image symbol;
  kind = n_type image symbol;
  sect = n_sect image symbol;
  reserved = 0;
}

-- the rows of all symbols, in the order of their table
abbrev pub all_symbols : List ℕ → List KesvuotSymbol
all_symbols image = map (row_at image) (symbols_of image (commands_of image))

-- There are nsyms of them, and 0 without an LC_SYMTAB. These are the rows from the first on.
abbrev pub HasAllSymbols : List ℕ → List KesvuotSymbol → Type 0
HasAllSymbols image rows =
    (rows ≡ all_symbols image)
    × (length (all_symbols image) ≡ symbol_count image (commands_of image))

-- Where strx is a symbol's, and not 0, the name is the symbol's: the bytes from strx on in the
-- strings of LC_SYMTAB, up to the first zero byte, in an image that begins at `place` in the file.
abbrev pub NamesSymbols : List ℕ → ℕ → ℕ → Option KesvuotSpan → Type 0
NamesSymbols image place strx name =
    let from = field_of (λ (t : Symtab). t.stroff) (symtab_in image) + strx in
    (symbol : ℕ) → Contains (symbols_of image (commands_of image)) symbol
    → n_strx image symbol ≡ strx → strx ≢ 0
    → name ≡ Some (span_of (place + from) (string_from from image))

-- the same of each of the first n symbols, whose names these are
abbrev pub NamesEach : List ℕ → ℕ → List KesvuotSymbol → ℕ → List KesvuotSpan → Type 0
NamesEach image place symbols n names =
    (k : ℕ) (symbol : KesvuotSymbol) (name : KesvuotSpan) → k < n → slice_get symbols k ≡ Some symbol
    → slice_get names k ≡ Some name → NamesSymbols image place symbol.strx (Some name)

-- all indirect entries, in the order of their table
abbrev pub all_indirects : List ℕ → List ℕ
all_indirects image = map (word image) (indirects_of image (commands_of image))

-- There are nindirectsyms of them, and 0 without an LC_DYSYMTAB. These are the rows from the first
-- on.
abbrev pub HasAllIndirects : List ℕ → List ℕ → Type 0
HasAllIndirects image rows =
    (rows ≡ all_indirects image)
    × (length (all_indirects image)
    ≡ field_of (λ (t : Dysymtab). t.nindirectsyms) (dysymtab_in image))
