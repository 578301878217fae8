-- The sections of an image whose stubs and pointers have indirect entries, and where they break their rule.
-- (mach-o/loader.h: section_64, dysymtab_command)
use Rattle.std.specs.Prelude.{◌≡◌, ◌≢◌, ℕ, ◌+◌, ◌/◌, ◌%◌, ◌<◌, ◌==◌, ◌⊎◌, List, [], ◌∷◌, Any, Bool, true, if◌then◌else◌}
use Rattle.std.specs.List.{list_any}
use Rattle.std.specs.Option.{option_map_or}
use Rattle.macho_fields.specs.Image.{commands_of}
use Rattle.macho_fields.specs.Segment.{section_size, section_flags}
use Rattle.macho_fields.specs.Symbol.{nindirectsyms}
use Rattle.macho_fields.specs.declared.header.loader.TheConstants.{LC_DYSYMTAB, S_NON_LAZY_SYMBOL_POINTERS, S_LAZY_SYMBOL_POINTERS, S_SYMBOL_STUBS, S_LAZY_DYLIB_SYMBOL_POINTERS, S_THREAD_LOCAL_VARIABLE_POINTERS}
use Rattle.macho_image.specs.Command.{first_with_cmd}
use Rattle.macho_image.specs.Segment.{reserved1, reserved2, sections_of}
use Rattle.macho_tables.specs.declared.limits.TheConstants.{POINTER_SIZE}

-- section_64.flags: the low byte is the type (SECTION_TYPE)
abbrev pub section_type : List ℕ → ℕ → ℕ
section_type image place = section_flags image place % 256

-- the types of sections of stubs, and of pointers to symbols
abbrev pub is_of_indirects : ℕ → Bool
is_of_indirects kind =
    list_any (λ wanted. kind == wanted)
    (S_NON_LAZY_SYMBOL_POINTERS ∷ S_LAZY_SYMBOL_POINTERS ∷ S_SYMBOL_STUBS ∷ S_LAZY_DYLIB_SYMBOL_POINTERS
    ∷ S_THREAD_LOCAL_VARIABLE_POINTERS ∷ [])

abbrev pub HasIndirects : List ℕ → ℕ → Type 0
HasIndirects image place = is_of_indirects (section_type image place) ≡ true

-- the size of a stub, reserved2, or of a pointer
abbrev pub stride : List ℕ → ℕ → ℕ
stride image place =
    if section_type image place == S_SYMBOL_STUBS then reserved2 image place else POINTER_SIZE

-- how many indirect entries an image has: nindirectsyms of its LC_DYSYMTAB, 0 if there is none
abbrev pub indirect_count : List ℕ → ℕ
indirect_count image =
    option_map_or (nindirectsyms image) (first_with_cmd image LC_DYSYMTAB (commands_of image)) 0

-- the stubs or pointers have no size, or do not fill the section
abbrev pub IsUneven : List ℕ → ℕ → Type 0
IsUneven image place =
    (stride image place ≡ 0) ⊎ (section_size image place % stride image place ≢ 0)

-- Each takes an entry, from reserved1 on, and the last one would be past the entries of the image.
abbrev pub PassesIndirects : List ℕ → ℕ → Type 0
PassesIndirects image place =
    indirect_count image < reserved1 image place + section_size image place / stride image place

-- what is wrong of stubs or pointers
abbrev pub AreBad : List ℕ → ℕ → Type 0
AreBad image place = IsUneven image place ⊎ PassesIndirects image place

abbrev pub IsBadIndirects : List ℕ → ℕ → Type 0
IsBadIndirects image place = HasIndirects image place × AreBad image place

-- the rule indirect-range, at the place of a section
abbrev pub BreaksIndirectRange : List ℕ → ℕ → Type 0
BreaksIndirectRange image place =
    Any (λ section. (place ≡ section.1) × IsBadIndirects image section.1)
    (sections_of image (commands_of image))
