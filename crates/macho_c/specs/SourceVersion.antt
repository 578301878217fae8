-- The version of the sources that an image was built from. (mach-o/loader.h: source_version_command)
use Rattle.std.specs.Prelude.{◌≡◌, ℕ, ◌+◌, List, MatchOption}
use Rattle.macho_fields.specs.Image.{long}
use Rattle.macho_rows.specs.Loads.{first_wanted}
use Rattle.macho_c.specs.Status.{KESVUOT_OK, KESVUOT_NONE}
use Rattle.macho_rows.specs.declared.load.Wanted.TheVariants as wanted

-- the answer: the version at 8 of the first LC_SOURCE_VERSION of at least 16 bytes
abbrev pub IsAnswer : List ℕ → ℕ → ℕ → Type 0
IsAnswer image status version =
    MatchOption (first_wanted wanted.SourceVersions image) ((status ≡ KESVUOT_NONE) × (version ≡ 0))
    (λ command. (status ≡ KESVUOT_OK) × (version ≡ long image (command + 8)))
