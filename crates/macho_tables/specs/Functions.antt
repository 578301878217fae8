-- What the numbers of function starts say of the functions of an image, and where they first break their rules.
use Rattle.std.specs.Prelude.{◌≡◌, ℕ, ◌+◌, ◌≤◌, ◌⊎◌, List, Option, None, Some}
use Rattle.macho_fields.specs.FirstPlace.{IsLeastPlace}
use Rattle.macho_fields.specs.NonZero.{IsNonZero}
use Rattle.macho_tables.specs.StartNumbers.{IsFileAddress, BadNumber, StrayStart, BreaksFunctionNumber, BreaksFunctionStart}
use Rattle.macho_tables.specs.declared.function_starts.FunctionStartSurvey.{FunctionStartSurvey}
use Rattle.macho_tables.specs.declared.function_starts.Functions.{Functions}
use Rattle.macho_tables.specs.declared.function_starts.Functions.TheVariants as functions

-- before the first number
abbrev pub functions_from : Option ℕ → Functions
functions_from None = functions.Unknown
functions_from (Some base) = functions.Sound base

-- with one number more: the function is at a byte of the file, or it is the first that is not
abbrev pub IsNextFunction : List ℕ → ℕ → ℕ → Functions → Functions → Type 0
IsNextFunction image place distance (functions.Sound from) next =
    (IsFileAddress image (from + distance) × (next ≡ functions.Sound (from + distance)))
    ⊎ ((¬ IsFileAddress image (from + distance)) × (next ≡ functions.Stray place))
IsNextFunction image place distance other next = next ≡ other

-- the first that is not
abbrev pub stray_of : Functions → Option ℕ
stray_of (functions.Stray place) = Some place
stray_of other = None

-- the place is not before the start, and its byte is not 0
abbrev pub IsNonZeroFrom : List ℕ → ℕ → ℕ → Type 0
IsNonZeroFrom table start place = (start ≤ place) × IsNonZero table place

-- the least places at which the rules are broken, as offsets in a table
pub record IsLeastOfTable (image table : List ℕ) (survey : FunctionStartSurvey) : Type 0 where
  pub number : IsLeastPlace (BadNumber image table) survey.number
  pub start : IsLeastPlace (StrayStart image table) survey.start

-- as places in the image
pub record IsLeastOfImage (image : List ℕ) (survey : FunctionStartSurvey) : Type 0 where
  pub number : IsLeastPlace (BreaksFunctionNumber image) survey.number
  pub start : IsLeastPlace (BreaksFunctionStart image) survey.start
