-- The commands of an opened image that name tables. (mach-o/loader.h)
use Rattle.std.specs.Prelude.{◌≡◌, ◌≢◌, ℕ, List, [], ◌++◌, map, slice_get, All, None, IfSome}
use Rattle.std.specs.List.{last_or}
use Rattle.macho_fields.specs.Image.{commands_of}
use Rattle.macho_fields.specs.Symbol.{tables_of}
use Rattle.macho_image.specs.Command.{CommandView, command_at}

-- these are the commands from the first that names a table to the last: none before them and none
-- after them names one
pub record HaveTables (image : List ℕ) (these : List CommandView) : Type 0 where
  pub before : List ℕ
  pub among : List ℕ
  pub after : List ℕ
  pub are : these ≡ map (command_at image) among
  pub whole : commands_of image ≡ before ++ among ++ after
  pub none_before : All (λ command. tables_of image command ≡ []) before
  pub none_after : All (λ command. tables_of image command ≡ []) after
  pub first : IfSome (slice_get among 0) (λ command. tables_of image command ≢ [])
  pub last : IfSome (last_or None among) (λ command. tables_of image command ≢ [])
