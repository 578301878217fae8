-- What the types of this crate keep, which only proofs need.
use Rattle.std.specs.Prelude.{◌≡◌, ◌≢◌, ℕ, ◌+◌, ◌≤◌, ◌<◌, List, None, Contains, length}
use Rattle.std.specs.Option.{option_map_or}
use Rattle.macho_fields.specs.Field.{HasZero}
use Rattle.macho_fields.specs.Image.{commands_of}
use Rattle.macho_fields.specs.Layers.{NothingBreaks}
use Rattle.macho_fields.specs.Loader.{IsSoundImage}
use Rattle.macho_fields.specs.Rules.{BreaksImage}
use Rattle.macho_fields.specs.Segment.{segments_of, sections_in}
use Rattle.macho_fields.specs.Symbol.{stroff, strsize, IsSymbolIndex}
use Rattle.macho_fields.specs.declared.header.loader.TheConstants as loader
use Rattle.macho_spans.specs.declared.span.Span.{Span}
use Rattle.macho_image.specs.Command.{first_with_cmd}
use Rattle.macho_image.specs.Segment.{SegmentView, SectionView}
use Rattle.macho_image.specs.Symbol.{symbol_at, symbols_of, indirect_at}
use Rattle.macho_image.specs.declared.indirect.Indirect.{Indirect}
use Rattle.macho_image.specs.declared.symbol.Symbol.{Symbol}
use Rattle.macho_verified.specs.Image.{dataoff, datasize}

-- the image breaks no rule, and is sound
pub record IsUnbrokenImage (image : List ℕ) : Type 0 where
  pub unbroken : NothingBreaks (BreaksImage image None)
  pub sound : IsSoundImage image (commands_of image)

unfoldable pub IsAccepted : List ℕ → Type 0
IsAccepted image = IsUnbrokenImage image

-- a segment of such an image
unfoldable pub IsVerifiedSegment : SegmentView → Type 0
IsVerifiedSegment view =
    IsUnbrokenImage view.image × Contains (segments_of view.image (commands_of view.image)) view.place

-- a section of such an image
unfoldable pub IsVerifiedSection : SectionView → Type 0
IsVerifiedSection view =
    IsUnbrokenImage view.image
    × Contains (segments_of view.image (commands_of view.image)) view.segment
    × Contains (sections_in view.image view.segment) view.place

-- the strings of LC_SYMTAB
abbrev pub strings : List ℕ → Span
strings image =
    option_map_or
    (λ symtab. record { start = stroff image symtab; len = strsize image symtab })
    (first_with_cmd image loader.LC_SYMTAB (commands_of image)) (record { start = 0; len = 0 })

-- a symbol of such an image, with the strings that its name is among, where it has one
unfoldable pub IsVerifiedSymbol : List ℕ → Span → Symbol → Type 0
IsVerifiedSymbol image among symbol =
    (symbol ≡ symbol_at image symbol.place) × (among ≡ strings image)
    × (symbol.strx ≢ 0 → HasZero image (among.start + symbol.strx) (among.start + among.len))

-- an indirect entry of such an image, which has the symbol that the entry names
unfoldable pub IsVerifiedIndirect : List ℕ → Indirect → Type 0
IsVerifiedIndirect image entry =
    (entry ≡ indirect_at image entry.place)
    × (IsSymbolIndex entry.value → entry.value < length (symbols_of image (commands_of image)))

-- the data of a linkedit_data_command that has any lies inside the image
abbrev pub HasData : List ℕ → ℕ → Type 0
HasData image command =
    datasize image command ≢ 0 → dataoff image command + datasize image command ≤ length image
