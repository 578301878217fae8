-- The commands that name linked data, by what kind it is. (mach-o/loader.h)
use Rattle.std.specs.Prelude.{◌≡◌, ℕ, ◌<◌, ◌==◌, ◌&&◌, ◌||◌, List, [], ◌∷◌, Any, Contains, Bool, true}
use Rattle.std.specs.List.{list_any}
use Rattle.macho_fields.specs.Image.{command_cmd, commands_of}
use Rattle.macho_fields.specs.declared.header.loader.TheConstants as loader

abbrev pub is_one_of : List ℕ → ℕ → Bool
is_one_of commands cmd = list_any (λ wanted. cmd == wanted) commands

-- what a loader writes, and what it exports: by opcodes, or by a command for each
abbrev pub is_fixups : ℕ → Bool
is_fixups =
    is_one_of (loader.LC_DYLD_INFO ∷ loader.LC_DYLD_INFO_ONLY ∷ loader.LC_DYLD_CHAINED_FIXUPS ∷ [])

abbrev pub is_exports : ℕ → Bool
is_exports =
    is_one_of (loader.LC_DYLD_INFO ∷ loader.LC_DYLD_INFO_ONLY ∷ loader.LC_DYLD_EXPORTS_TRIE ∷ [])

-- the kinds with one command each
abbrev pub is_alone : ℕ → Bool
is_alone =
    is_one_of (loader.LC_FUNCTION_STARTS ∷ loader.LC_DATA_IN_CODE ∷ loader.LC_CODE_SIGNATURE ∷ [])

-- a command with this cmd names linked data
abbrev pub names_linked_data : ℕ → Bool
names_linked_data cmd = is_fixups cmd || (is_exports cmd || is_alone cmd)

-- two commands name linked data of a common kind
abbrev pub share_kind : ℕ → ℕ → Bool
share_kind cmd other =
    (is_fixups cmd && is_fixups other)
    || ((is_exports cmd && is_exports other) || (is_alone cmd && cmd == other))

-- an earlier command names linked data of a kind of this one
abbrev pub RepeatsEarlier : List ℕ → ℕ → Type 0
RepeatsEarlier image command =
    Any (λ earlier. (earlier < command)
    × (share_kind (command_cmd image earlier) (command_cmd image command) ≡ true)) (commands_of image)

-- the rule table-repeated, at the place of a command
abbrev pub BreaksTableRepeated : List ℕ → ℕ → Type 0
BreaksTableRepeated image place = Contains (commands_of image) place × RepeatsEarlier image place

-- a command with this cmd has variants of functions, or what is written for them
abbrev pub names_variants : ℕ → Bool
names_variants = is_one_of (loader.LC_FUNCTION_VARIANTS ∷ loader.LC_FUNCTION_VARIANT_FIXUPS ∷ [])

-- the rule function-variants, at the place of a command
abbrev pub BreaksFunctionVariants : List ℕ → ℕ → Type 0
BreaksFunctionVariants image place =
    Contains (commands_of image) place × (names_variants (command_cmd image place) ≡ true)
