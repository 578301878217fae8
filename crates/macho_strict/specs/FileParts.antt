-- What is found of the file parts of the segments of an image.
use Rattle.std.specs.Prelude.{◌≡◌, ◌≤◌, ℕ, List, length, true}
use Rattle.macho_fields.specs.FirstPlace.{IsLeastPlace}
use Rattle.macho_image.specs.Opened.{IsOpened}
use Rattle.macho_spans.specs.Overlap.{IsAscending, SharesEarlier}
use Rattle.macho_strict.specs.Gaps.{IsStray}
use Rattle.macho_strict.specs.Passed.{IsByStart, occupied}
use Rattle.macho_strict.specs.Verdict.{file_parts}
use Rattle.macho_strict.specs.declared.gaps.Wanted.TheVariants as wanted
use Rattle.macho_strict.specs.declared.segments.FilePartSurvey.{FilePartSurvey}

-- whether no two share a place, the least place of a byte that is not zero and lies in none of them,
-- their order, and how many have bytes
pub record IsFilePartSurveyOf (image : List ℕ) (survey : FilePartSurvey) : Type 0 where
  pub opened : IsOpened image
  pub apart : survey.apart ≡ true → (j : ℕ) → ¬ SharesEarlier (file_parts image) j
  pub ascend : IsAscending (file_parts image) → survey.apart ≡ true
  pub stray : IsLeastPlace (IsStray wanted.NonZero image (file_parts image)) survey.stray
  pub by_start : IsByStart (file_parts image) survey.sorted
  pub count : survey.count ≤ length (occupied (file_parts image))
