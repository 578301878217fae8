-- What a walk over the pointers of chains finds, page by page.
use Rattle.std.specs.Prelude.{◌≡◌, ◌↔◌, ℕ, ◌+◌, ◌≤◌, ◌<◌, List, None, Any, IsTrue, IsSomeAnd}
use Rattle.std.specs.Option.{option_map}
use Rattle.macho_fields.specs.FirstPlace.{IsLeastPlace}
use Rattle.macho_fields.specs.Image.{commands_of}
use Rattle.macho_fields.specs.Segment.{fileoff}
use Rattle.macho_fields.specs.declared.header.loader.TheConstants as loader
use Rattle.macho_image.specs.Command.{first_with_cmd, command_of, command_at}
use Rattle.macho_image.specs.Opened.{IsOpened}
use Rattle.macho_chains.specs.ChainPointers.{Lead, Fits, IsRoomTo, encryption_count}
use Rattle.macho_chains.specs.ChainStarts.{starts_of}
use Rattle.macho_tables.specs.Homes.{Encrypts}
use Rattle.macho_tables.specs.Places.{lesser}
use Rattle.macho_tables.specs.Items.{OfItem}
use Rattle.macho_chains.specs.declared.chain_header.ChainHeader.{ChainHeader}
use Rattle.macho_chains.specs.declared.chain_pages.Encryption.{Encryption}
use Rattle.macho_chains.specs.declared.chain_pages.PointerSurvey.{PointerSurvey}
use Rattle.macho_chains.specs.declared.chain_starts.SegmentStarts.{SegmentStarts}
use Rattle.macho_spans.specs.declared.span.Span.{Span}

-- the greatest end up to which a loader can write the segment as it is in the file, or 0
abbrev pub IsRoom : List ℕ → ℕ → ℕ → Type 0
IsRoom image segment room = (end : ℕ) → 0 < end → (end ≤ room) ↔ IsRoomTo image segment end

-- The first command with an encrypted range, if any, and whether it is the only one.
pub record IsEncryptionOf (image : List ℕ) (encryption : Encryption) : Type 0 where
  pub opened : IsOpened image
  pub first : option_map command_of encryption.first
      ≡ option_map (command_at image)
      (first_with_cmd image loader.LC_ENCRYPTION_INFO_64 (commands_of image))
  pub single : IsTrue encryption.is_single ↔ (encryption_count image ≤ 1)

-- There is at most one encrypted range, and it has no byte of the span.
abbrev pub IsClear : Span → List ℕ → Type 0
IsClear span image = (encryption_count image ≤ 1) × ¬ Any (Encrypts span image) (commands_of image)

-- the pointers of a page from an offset on lead to one with P, which is at the place
abbrev pub AtPointer : List ℕ → ℕ → SegmentStarts → ℕ → ℕ → (ℕ → Type 0) → ℕ → Type 0
AtPointer image segment starts page from P place =
    (offset : ℕ) × (place ≡ fileoff image segment + offset)
    × (((before : List ℕ) × Lead image segment starts page from before offset) × Fits image segment starts page offset)
    × P offset

-- a rule of the pages of a segment, at a place, where the segment k has starts
abbrev pub OfPages : List ℕ → ChainHeader → ℕ → (SegmentStarts → ℕ → ℕ → Type 0) → ℕ → Type 0
OfPages chains header k Rule place =
    IsSomeAnd (starts_of chains header k) (λ starts. OfItem starts.page_count (Rule starts) place)

-- the least places at which the two rules are broken
pub record AreLeastPlaces (Slot Bind : ℕ → Type 0) (survey : PointerSurvey) : Type 0 where
  pub slot : IsLeastPlace Slot survey.slot
  pub bind : IsLeastPlace Bind survey.bind

-- a survey that found nothing
abbrev pub unbroken_pointers : PointerSurvey
unbroken_pointers = record { slot = None; bind = None }

-- the lesser places of two surveys
abbrev pub joined_pointers : PointerSurvey → PointerSurvey → PointerSurvey
joined_pointers one other = record { slot = lesser one.slot other.slot; bind = lesser one.bind other.bind }
