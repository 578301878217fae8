-- What the strict rules promise of a file: every nonzero byte is accounted for, and no byte is in two
-- elements.
use Rattle.std.specs.Prelude.{◌≡◌, ℕ, ◌+◌, ◌<◌, ◌⊎◌, List, slice_get, Some, Any, Contains}
use Rattle.macho_fields.specs.Command.{least_size}
use Rattle.macho_fields.specs.Image.{command_cmd, command_size, commands_of, commands_end}
use Rattle.macho_fields.specs.LoadCommands.{structure_of}
use Rattle.macho_fields.specs.NonZero.{IsNonZero}
use Rattle.macho_fields.specs.declared.header.loader.TheConstants as loader
use Rattle.macho_fields.specs.declared.load_command.Structure.{Structure}
use Rattle.macho_spans.specs.Span.{Covers, Holds}
use Rattle.macho_fields.specs.Universal.{IsUniversal, table_end, slices_of, HasPlace, OfEachImage}
use Rattle.macho_strict.specs.Elements.{elements_of}
use Rattle.macho_strict.specs.Rules.{IsByteOfSegment, all_segments, IsInName, IsNop}
use Rattle.macho_strict.specs.declared.elements.Element.{Element}

-- exactly one item of the list has P: that with one index has it, and no other index has an item with P
abbrev pub ExactlyOne : {X : Type 0} → (X → Type 0) → List X → Type 0
ExactlyOne {X = X} P items =
    (i : ℕ) × (x : X) × (slice_get items i ≡ Some x) × P x
    × ((j : ℕ) (y : X) → slice_get items j ≡ Some y → P y → j ≡ i)

-- of an image
pub record IsAccountedImage (image : List ℕ) : Type 0 where
  -- every byte that is not zero lies in the file part of exactly one segment
  pub bytes : (place : ℕ) → IsNonZero image place
      → ExactlyOne (λ segment. IsByteOfSegment image segment place) (all_segments image)
  -- and in exactly one element, unless it is a NOP
  pub claimed : (place : ℕ) → IsNonZero image place
      → ExactlyOne (λ element. Holds element.span place) (elements_of image)
      ⊎ Any (λ segment. IsByteOfSegment image segment place × IsNop image place segment)
      (all_segments image)
  -- one in the headers lies in the header or in exactly one command
  pub headers : (place : ℕ) → IsNonZero image place → place < commands_end image
      → (place < loader.MACH_HEADER_64_SIZE)
      ⊎ ExactlyOne (λ command. Covers command (command_size image command) place)
      (commands_of image)
  -- and one in a listed command in its structure, its records or its name
  pub described : (place command : ℕ) (structure : Structure) → IsNonZero image place
      → Contains (commands_of image) command → Covers command (command_size image command) place
      → structure_of (command_cmd image command) ≡ Some structure
      → (place < command + least_size image command structure)
      ⊎ IsInName image command structure place
  -- no byte belongs to two elements
  pub elements : (i j : ℕ) (a b : Element) (place : ℕ)
      → slice_get (elements_of image) i ≡ Some a → slice_get (elements_of image) j ≡ Some b
      → Holds a.span place → Holds b.span place → i ≡ j

-- of a file
pub record IsAccounted (file : List ℕ) : Type 0 where
  -- every byte that is not zero lies in the header or the table of a universal file, or in exactly one
  -- slice
  pub bytes : (place : ℕ) → IsNonZero file place
      → (IsUniversal file × (place < table_end file))
      ⊎ ExactlyOne (λ slice. HasPlace slice place) (slices_of file)
  -- each 64-bit slice is accounted for
  pub images : OfEachImage IsAccountedImage file
