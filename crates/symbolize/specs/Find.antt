-- What is nearest to an address, and what has it. (mach-o/nlist.h: nlist_64; mach-o/loader.h:
-- section_64)
use Rattle.std.specs.Prelude.{◌≡◌, ℕ, ◌≤◌, ◌<◌, List, ◌∷◌, ◌++◌, All, map}
use Rattle.macho_spans.specs.Span.{Covers}
use Rattle.macho_fields.specs.Image.{commands_of}
use Rattle.macho_fields.specs.Segment.{vmsize, section_address, section_size}
use Rattle.macho_fields.specs.Symbol.{NamesSection, n_value}
use Rattle.macho_image.specs.Segment.{SectionView, section_at, sections_of}
use Rattle.macho_image.specs.Symbol.{symbols_of}
use Rattle.macho_verified.specs.Image.{SymbolView, symbol_view}

-- the symbols of an image, in the order of its table
abbrev pub symbols : List ℕ → List SymbolView
symbols image = map (symbol_view image) (symbols_of image (commands_of image))

-- the sections of an image, in the order of the commands
abbrev pub sections : List ℕ → List SectionView
sections image = map (section_at image) (sections_of image (commands_of image))

-- nlist_64.n_value
abbrev pub value_of : SymbolView → ℕ
value_of symbol = n_value symbol.image symbol.place

-- the symbol names a section, and its value is the address or less
abbrev pub IsAtOrBefore : ℕ → SymbolView → Type 0
IsAtOrBefore address symbol =
    NamesSection symbol.image symbol.place × (value_of symbol ≤ address)

-- among the symbols, it is the nearest to the address: no other at or before the address
-- has a greater value, and among symbols with its value it is the last
pub record IsNearest (address : ℕ) (symbols : List SymbolView) (nearest : SymbolView) : Type 0 where
  pub before : List SymbolView
  pub after : List SymbolView
  pub among : symbols ≡ before ++ nearest ∷ after
  pub reaches : IsAtOrBefore address nearest
  pub none_nearer : All (λ s. IsAtOrBefore address s → value_of s ≤ value_of nearest) before
  pub none_later : All (λ s. IsAtOrBefore address s → value_of s < value_of nearest) after

-- section_64: the segment of the section is mapped, and the address is one of the size addresses from
-- addr on
abbrev pub HasAddress : ℕ → SectionView → Type 0
HasAddress address section =
    (0 < vmsize section.image section.segment)
    × Covers (section_address section.image section.place)
    (section_size section.image section.place) address

-- among the sections, it is the first that has the address
pub record IsFirstAt (address : ℕ) (sections : List SectionView) (first : SectionView) : Type 0 where
  pub before : List SectionView
  pub after : List SectionView
  pub among : sections ≡ before ++ first ∷ after
  pub has : HasAddress address first
  pub none_before : All (λ s. ¬ HasAddress address s) before
