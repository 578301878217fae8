-- The libraries of an opened image.
use Rattle.std.proofs.Common.{◌≡◌, ℕ, List, map, Bool, true, All, Contains, Option, Some, refl, sym, ap, ◌∙◌, subst, slice_index_or}
use Rattle.std.proofs.lemmas.List.Elements.{All-map, All-contains_itself, filter_passes, All-filter}
use Rattle.macho_fields.specs.Image.{command_cmd, commands_of}
use Rattle.macho_fields.specs.LoadCommands.{structure_of, has_name, names_library}
use Rattle.macho_fields.specs.declared.load_command.Structure.TheVariants.{DylibCommand}
use Rattle.macho_fields.proofs.LoadCommands.{library_structure}
use Rattle.macho_fields.proofs.Options.{of_some}
use Rattle.macho_image.specs.Opened.{IsOpened}
use Rattle.macho_image.specs.Command.{CommandView, command_at, first_with_cmd}
use Rattle.macho_image.specs.Library.{libraries, dylib_at, dylibs_left}
use Rattle.macho_image.specs.Views.{HaveLibraries, HoldsLibrary, HoldLibraries}
use Rattle.macho_fields.proofs.Parts.{with_cmd_is, with_cmd_among}
use Rattle.macho_fields.specs.declared.header.loader.TheConstants as loader
use Rattle.macho_image.proofs.Kept.{structure_held, got_first}
use Rattle.macho_image.proofs.Named.{ended}
use Rattle.macho_image.proofs.WithOneCmd.{map-places}

held_library : (image : List ℕ) (command : ℕ) → IsOpened image → Contains (commands_of image) command → names_library (command_cmd image command) ≡ true → HoldsLibrary image command
held_library image command opened has is =
    let listed = library_structure (command_cmd image command) is in record {
      whole = structure_held image command DylibCommand listed opened has;
      ended = ended image command (of_some (λ s. has_name s ≡ true) (structure_of (command_cmd image command)) DylibCommand listed refl) opened has;
    }

all_held : (image : List ℕ) → IsOpened image → All (HoldsLibrary image) (libraries image (commands_of image))
all_held image opened k d less =
    let commands = commands_of image in
    let test : ℕ → Bool = λ c. names_library (command_cmd image c) in
    let passes : names_library (command_cmd image (slice_index_or (libraries image commands) k d)) ≡ true = filter_passes test commands k d less in
    let among : Contains commands (slice_index_or (libraries image commands) k d) = All-filter test (Contains commands) commands (All-contains_itself commands) k d less in
    held_library image _ opened among passes

pub all_hold : (image : List ℕ) (all : List CommandView) → IsOpened image → HaveLibraries image all → HoldLibraries image all
all_hold image all opened is =
    subst (All (λ c. HoldsLibrary image c.place)) (sym is)
    (All-map (λ c. HoldsLibrary image c.place) (command_at image) (libraries image (commands_of image)) (all_held image opened))

pub libraries_seen : (image : List ℕ) (all : List CommandView) → HaveLibraries image all → dylibs_left image all ≡ map (dylib_at image) (libraries image (commands_of image))
libraries_seen image all is =
    ap (map (λ c. dylib_at image c.place)) is ∙ map-places (dylib_at image) image (libraries image (commands_of image))

-- the LC_ID_DYLIB of an image names a library
pub first_library : (image bytes : List ℕ) (place : ℕ) (found : Option ℕ) → IsOpened image → bytes ≡ image
    → found ≡ first_with_cmd image loader.LC_ID_DYLIB (commands_of image) → found ≡ Some place → HoldsLibrary bytes place
first_library image bytes place found opened same is some =
    let commands = commands_of image in
    let has = got_first _ place (sym is ∙ some) in
    let cmd : command_cmd image place ≡ loader.LC_ID_DYLIB = with_cmd_is image commands loader.LC_ID_DYLIB place has in
    let among : Contains commands place = with_cmd_among image commands loader.LC_ID_DYLIB place has in
    subst (λ b. HoldsLibrary b place) (sym same) (held_library image place opened among (ap names_library cmd))
