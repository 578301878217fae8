-- The encrypted ranges of an image.
use Rattle.std.specs.Prelude.{◌≡◌, ℕ, ◌<◌, List}
use Rattle.macho_fields.specs.declared.header.loader.TheConstants as loader
use Rattle.macho_image.specs.Command.{CommandView}
use Rattle.macho_spans.specs.declared.span.Span.{Span}
use Rattle.macho_strict.specs.Rules.{cryptoff, cryptsize}

-- the command has an encrypted range
abbrev pub IsEncrypted : List ℕ → CommandView → Type 0
IsEncrypted image command =
    (command.cmd ≡ loader.LC_ENCRYPTION_INFO_64) × (0 < cryptsize image command.place)

abbrev pub encrypted_span : List ℕ → ℕ → Span
encrypted_span image command =
    record { start = cryptoff image command; len = cryptsize image command }
