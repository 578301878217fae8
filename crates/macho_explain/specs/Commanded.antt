-- What the rules of load commands, segments and sections are about. (mach-o/loader.h: load_command, segment_command_64,
-- section_64)
use Rattle.std.specs.Prelude.{◌≡◌, ℕ, ◌+◌, ◌*◌, ◌<◌, List, [], ◌∷◌, Some, length, slice_get}
use Rattle.std.specs.Option.{option_map_or}
use Rattle.macho_fields.specs.Image.{IsChain}
use Rattle.macho_fields.specs.LoadCommands.{symbol_table, contents_table, module_table, reference_table, external_relocations, local_relocations}
use Rattle.macho_fields.specs.Segment.{nsects}
use Rattle.macho_fields.specs.Symbol.{PassesSymbols}
use Rattle.macho_fields.specs.declared.load_command.Width.{Width}
use Rattle.macho_fields.specs.declared.load_command.Width.TheVariants.{Uint32, Uint64}
use Rattle.macho_fields.specs.declared.header.loader.TheConstants as loader
use Rattle.macho_image.specs.Command.{first_with_cmd}
use Rattle.macho_explain.specs.Explain.{all_loads, all_segment_loads, long_at, word_at, IsUncounted}
use Rattle.macho_explain.specs.declared.walk.WalkEnd.{WalkEnd}

-- a command of the list begins before the place, and has P
abbrev pub HasEarlier : List ℕ → (ℕ → Type 0) → ℕ → Type 0
HasEarlier commands P place =
    (k : ℕ) × (earlier : ℕ) × (slice_get commands k ≡ Some earlier) × (earlier < place) × P earlier

-- the walk over the commands ends at the place
abbrev pub HasWalkEnd : List ℕ → ℕ → Type 0
HasWalkEnd image place = ¬ IsUncounted image × IsChain image (all_loads image) place

-- a section of a segment begins at the place
abbrev pub HasSection : List ℕ → ℕ → Type 0
HasSection image place =
    ¬ IsUncounted image
    × ((k : ℕ) × (segment : ℕ) × (nth : ℕ) × (slice_get (all_segment_loads image) k ≡ Some segment)
    × (nth < nsects image segment)
    × (place ≡ segment + loader.SEGMENT_COMMAND_64_SIZE + loader.SECTION_64_SIZE * nth))

-- how many symbols the image has: nsyms of the first LC_SYMTAB, 0 without one
abbrev pub symbols_shown : List ℕ → ℕ
symbols_shown image =
    option_map_or (λ symtab. word_at image (symtab + symbol_table.count))
    (first_with_cmd image loader.LC_SYMTAB (all_loads image)) 0

-- the groups of symbols of the command at a place, by their numbers: the first index of each, and how many it has
-- (dysymtab_command: ilocalsym at 8, nlocalsym 12, and two groups more)
abbrev pub group_shown : List ℕ → ℕ → ℕ → ℕ × ℕ
group_shown image place k = (word_at image (place + 8 + 8 * k), word_at image (place + 8 + 8 * k + 4))

-- one of them ends past the symbols
abbrev pub IsGroupPast : List ℕ → ℕ → ℕ → Type 0
IsGroupPast image place k =
    (k < 3) × PassesSymbols (symbols_shown image) (group_shown image place k)

-- the fields that say how many items the tables have that only older loaders follow
-- (dysymtab_command: ntoc, nmodtab, nextrefsyms, nextrel, nlocrel)
abbrev pub obsolete_counts : List ℕ
obsolete_counts =
    contents_table.count ∷ module_table.count ∷ reference_table.count ∷ external_relocations.count
    ∷ local_relocations.count ∷ []

-- a field of a command, by its place and its width: 0 where it is not inside the image
abbrev pub field_shown : List ℕ → Width → ℕ → ℕ
field_shown image Uint32 place = word_at image place
field_shown image Uint64 place = long_at image place

-- What only proofs need.

-- where the walk over the commands ends, and how many there are
pub record IsEnd (image : List ℕ) (end : WalkEnd) : Type 0 where
  pub counted : end.count ≡ length (all_loads image)
  pub place : (place : ℕ) → IsChain image (all_loads image) place → place ≡ end.place
