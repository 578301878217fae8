-- What a survey notes of one command more, and what its rules answer.
use Rattle.std.proofs.Common.{◌≡◌, ℕ, ◌+◌, ◌≤◌, ◌<◌, ◌↔◌, List, [], ◌∷◌, Contains, Option, None, Some, Result, Ok, Err, IsOk, IsErrAnd, MatchOption, unwrap_or, length, refl, sym, ap, ◌∙◌, subst, arith, inl, inr}
use Rattle.std.proofs.lemmas.Bool.{false≢true}
use Rattle.std.proofs.lemmas.List.Elements.{Contains-append_left, Contains-append_cases}
use Rattle.macho_fields.specs.Bytes.{bytes_of}
use Rattle.macho_fields.specs.Command.{IsShort, IsBadName, HasBadName, least_size}
use Rattle.macho_fields.specs.FirstPlace.{IsFirstOf}
use Rattle.macho_fields.specs.LoadCommands.{structure_of}
use Rattle.macho_fields.specs.Image.{command_cmd, command_size, commands_end, commands_of, IsGood}
use Rattle.macho_fields.specs.Rules.{BreaksHeader, BreaksCommands, BreaksImage}
use Rattle.macho_fields.specs.First.{rank}
use Rattle.macho_fields.specs.Layers.{Continues, StopsAt}
use Rattle.macho_fields.specs.declared.rule.Rule.{Rule}
use Rattle.macho_fields.specs.declared.rule.Rule.TheVariants as rule
use Rattle.macho_fields.specs.declared.rule.Break.{Break}
use Rattle.macho_fields.proofs.FirstPlaces.{first_of_kept, first_of_broken}
use Rattle.macho_fields.specs.declared.load_command.Structure.{Structure}
use Rattle.macho_fields.proofs.Lists.{only_one}
use Rattle.macho_fields.proofs.LoadCommands.{has_no_structure}
use Rattle.macho_image.specs.Command.{CommandView, command_of, command_at}
use Rattle.macho_image.specs.Walk.{AreLandmarks, CanPass, HasPassed, IsAlone, IsAt, IsWholeAndMisnamed, Repeats, first_commands}
use Rattle.macho_image.specs.declared.command.Command.{Command}
use Rattle.macho_image.specs.declared.landmarks.Landmarks.{Landmarks}
use Rattle.macho_image.specs.declared.survey.CommandSurvey.{CommandSurvey}
use Rattle.macho_image.specs.declared.walk.Candidate.{Candidate}
use Rattle.macho_image.proofs.Alone.{is_alone, short_alone, bad_alone}
use Rattle.macho_image.proofs.FirstWithCmd.{unlisted_is_not_unique}
use Rattle.macho_image.proofs.Noted.{passed_next, passed_before, landmarks_kept}
use Rattle.macho_image.proofs.Repeated.{repeats_none}
use Rattle.macho_image.proofs.KeptRules.{Kept, commands_kept, commands_broken}

-- the first item with P is the first with Q, where both are the same of each item
pub first_of_same : {X : Type 0} (place : X → ℕ) (P Q : X → Type 0) (items : List X) (found : Option ℕ) → ((x : X) → Contains items x → P x ↔ Q x) → IsFirstOf place P items found
    → IsFirstOf place Q items found
first_of_same place P Q items None same none = λ x has here. none x has ((same x has).1 here)
first_of_same place P Q items (Some first) same ((x, has, here, at), least) =
    ((x, has, (same x has).0 here, at), λ y has_y here_y. least y has_y ((same y has_y).1 here_y))

module _ (image : List ℕ) (walked place : ℕ) (at : IsAt image walked place) where
  -- one command more, with P or without it
  module _ (P : ℕ → Type 0) (found : Option ℕ) (first : IsFirstOf (λ command. command) P (first_commands image walked) found) where
    pub noted : P place → IsFirstOf (λ command. command) P (first_commands image (walked + 1)) (Some (unwrap_or found place))
    noted broken =
        subst (λ ps. IsFirstOf (λ command. command) P ps (Some (unwrap_or found place))) (sym (passed_next image walked place at))
        (first_of_broken (λ command. command) P (first_commands image walked) place found (λ q has. let before = passed_before image walked place at q has in omega (arith, before)) broken first)

    pub passed_over : ¬ P place → IsFirstOf (λ command. command) P (first_commands image (walked + 1)) found
    passed_over kept =
        subst (λ ps. IsFirstOf (λ command. command) P ps found) (sym (passed_next image walked place at))
        (first_of_kept (λ command. command) P (first_commands image walked) place found kept first)

  -- what repeats an earlier command does so among one more
  repeats_same : (q : ℕ) → q ≤ place → Repeats image walked q ↔ Repeats image (walked + 1) q
  repeats_same q most = (
    λ (unique, (k, e, within, is, earlier)).
        let (j, inside, same) = subst (λ ps. Contains ps e) (sym (passed_next image walked place at)) (Contains-append_left (first_commands image walked) (place ∷ []) e (k, within, is)) in
        (unique, (j, e, inside, same, earlier)),
    λ (unique, (k, e, within, is, (before, of_kind))).
        elim (Contains-append_cases (first_commands image walked) (place ∷ []) e (subst (λ ps. Contains ps e) (passed_next image walked place at) (k, within, is))) [
          | inl (j, inside, same) ↦ (unique, (j, e, inside, same, (before, of_kind)))
          | inr last ↦ let here : place ≡ e = only_one place e last in absurd (omega (arith, here))
        ],
  )

  repeats_still : (found : Option ℕ) → IsFirstOf (λ command. command) (Repeats image walked) (first_commands image walked) found
      → IsFirstOf (λ command. command) (Repeats image (walked + 1)) (first_commands image walked) found
  repeats_still found =
      first_of_same (λ command. command) (Repeats image walked) (Repeats image (walked + 1)) (first_commands image walked) found
      (λ q has. repeats_same q (let before = passed_before image walked place at q has in omega (arith, before)))

  module _ (found : Option ℕ) (first : IsFirstOf (λ command. command) (Repeats image walked) (first_commands image walked) found) where
    pub repeat_noted : Repeats image walked place → IsFirstOf (λ command. command) (Repeats image (walked + 1)) (first_commands image (walked + 1)) (Some (unwrap_or found place))
    repeat_noted repeats = noted (Repeats image (walked + 1)) found (repeats_still found first) ((repeats_same place (omega arith)).0 repeats)

    pub repeat_passed : ¬ Repeats image walked place → IsFirstOf (λ command. command) (Repeats image (walked + 1)) (first_commands image (walked + 1)) found
    repeat_passed none = passed_over (Repeats image (walked + 1)) found (repeats_still found first) (λ repeats. none ((repeats_same place (omega arith)).1 repeats))

-- the survey of what is opened can pass a good command
pub can_pass : (candidate : Candidate) (survey : CommandSurvey) (walked place : ℕ) → survey.candidate ≡ candidate → IsAt (bytes_of candidate.bytes) walked place → IsGood (bytes_of candidate.bytes) place
    → commands_end (bytes_of candidate.bytes) ≤ length (bytes_of candidate.bytes) → CanPass survey walked place
can_pass candidate survey walked place same at good inside = record {
  at = subst (λ (o : Candidate). IsAt (bytes_of o.bytes) walked place) (sym same) at;
  good = subst (λ (o : Candidate). IsGood (bytes_of o.bytes) place) (sym same) good;
  inside = subst (λ (o : Candidate). commands_end (bytes_of o.bytes) ≤ length (bytes_of o.bytes)) (sym same) inside;
}

-- A survey once its next command is tested for its size and its name
pub record Marks (before : CommandSurvey) (walked : ℕ) (after : CommandSurvey) : Type 0 where
  pub candidate : after.candidate ≡ before.candidate
  pub landmarks : after.landmarks ≡ before.landmarks
  pub repeated : after.command_repeated ≡ before.command_repeated
  pub short : IsFirstOf (λ command. command) (IsShort (bytes_of before.candidate.bytes)) (first_commands (bytes_of before.candidate.bytes) (walked + 1)) after.command_short
  pub name : IsFirstOf (λ command. command) (IsWholeAndMisnamed (bytes_of before.candidate.bytes)) (first_commands (bytes_of before.candidate.bytes) (walked + 1)) after.name

module _ (before : CommandSurvey) (walked place : ℕ) (can : CanPass before walked place) (passed : HasPassed before walked) where
  abbrev bytes : List ℕ
  bytes = bytes_of before.candidate.bytes

  short_noted : IsShort bytes place → Marks before walked (record before { command_short = Some (unwrap_or before.command_short place) })
  short_noted short = record {
    candidate = refl;
    landmarks = refl;
    repeated = refl;
    short = noted bytes walked place can.at (IsShort bytes) before.command_short passed.short short;
    name = passed_over bytes walked place can.at (IsWholeAndMisnamed bytes) before.name passed.name (λ misnamed. misnamed.0 short);
  }

  name_noted : ¬ IsShort bytes place → HasBadName bytes place → Marks before walked (record before { name = Some (unwrap_or before.name place) })
  name_noted whole bad = record {
    candidate = refl;
    landmarks = refl;
    repeated = refl;
    short = passed_over bytes walked place can.at (IsShort bytes) before.command_short passed.short whole;
    name = noted bytes walked place can.at (IsWholeAndMisnamed bytes) before.name passed.name (whole, bad);
  }

  none_noted : ¬ IsShort bytes place → ¬ HasBadName bytes place → Marks before walked before
  none_noted whole good = record {
    candidate = refl;
    landmarks = refl;
    repeated = refl;
    short = passed_over bytes walked place can.at (IsShort bytes) before.command_short passed.short whole;
    name = passed_over bytes walked place can.at (IsWholeAndMisnamed bytes) before.name passed.name (λ misnamed. good misnamed.1);
  }

  -- the command that is read there
  module _ (command : Command) (is : command_of command ≡ command_at bytes place) where
    pub place_is : command.place ≡ place
    place_is = ap (λ v. v.place) is

    pub cmd_is : command.cmd ≡ command_cmd bytes command.place
    cmd_is = ap (λ v. v.cmd) is ∙ ap (command_cmd bytes) (sym place_is)

    pub stands_at : IsAt bytes walked command.place
    stands_at = subst (IsAt bytes walked) (sym place_is) can.at

    pub stands_alone : IsAlone (command_of command)
    stands_alone = subst IsAlone (sym is) (is_alone bytes place can.good can.inside)

    short_there : IsShort command.bytes.now 0 ↔ IsShort bytes place
    short_there = subst (λ bs. IsShort bs 0 ↔ IsShort bytes place) (sym (ap (λ (v : CommandView). v.bytes) is)) (short_alone bytes place can.good can.inside)

    bad_there : ¬ IsShort bytes place → HasBadName command.bytes.now 0 ↔ HasBadName bytes place
    bad_there whole = subst (λ bs. HasBadName bs 0 ↔ HasBadName bytes place) (sym (ap (λ (v : CommandView). v.bytes) is)) (bad_alone bytes place can.good can.inside whole)

    pub marks_short : IsShort command.bytes.now 0 → Marks before walked (record before { command_short = Some (unwrap_or before.command_short place) })
    marks_short short = short_noted (short_there.0 short)

    pub marks_name : ¬ IsShort command.bytes.now 0 → HasBadName command.bytes.now 0 → Marks before walked (record before { name = Some (unwrap_or before.name place) })
    marks_name whole bad = let large : ¬ IsShort bytes place = λ short. whole (short_there.1 short) in name_noted large ((bad_there large).0 bad)

    pub marks_none : ¬ IsShort command.bytes.now 0 → ¬ HasBadName command.bytes.now 0 → Marks before walked before
    marks_none whole good = let large : ¬ IsShort bytes place = λ short. whole (short_there.1 short) in none_noted large (λ bad. good ((bad_there large).1 bad))

    -- a command that is not listed changes nothing
    pub unlisted_passed : structure_of command.cmd ≡ None → HasPassed before (walked + 1)
    unlisted_passed none = record {
      landmarks = landmarks_kept bytes walked place can.at command.cmd here before.landmarks none passed.landmarks;
      short = marks.short;
      repeated = repeat_passed bytes walked place can.at before.command_repeated passed.repeated
          (repeats_none bytes walked place command.cmd can.at here (unlisted_is_not_unique command.cmd none));
      name = marks.name;
    }
      where
        here : command.cmd ≡ command_cmd bytes place
        here = ap (λ v. v.cmd) is

        at_place : structure_of (command_cmd bytes place) ≡ None
        at_place = subst (λ cmd. structure_of cmd ≡ None) here none

        marks : Marks before walked before
        marks = none_noted (has_no_structure bytes place (λ (s : Structure). command_size bytes place < least_size bytes place s) at_place) (has_no_structure bytes place (IsBadName bytes place) at_place)

  -- the places of unique commands and of segments are noted, and what repeats
  pub all_noted : (after : CommandSurvey) (landmarks : Landmarks) (repeated : Option ℕ) → Marks before walked after → AreLandmarks bytes (walked + 1) landmarks
      → IsFirstOf (λ command. command) (Repeats bytes (walked + 1)) (first_commands bytes (walked + 1)) repeated
      → HasPassed (record after { landmarks = landmarks; command_repeated = repeated }) (walked + 1)
  all_noted after landmarks repeated marks are first =
      subst (λ o. HasPassed (record after { candidate = o; landmarks = landmarks; command_repeated = repeated }) (walked + 1)) (sym marks.candidate)
      (record { landmarks = are; short = marks.short; repeated = first; name = marks.name })

-- What a rule answers that is broken at the commands with P
module _ {T : Type 0} (image : List ℕ) (arch : Option (ℕ × ℕ)) (r : Rule) (P : ℕ → Type 0) (never : (place : ℕ) → ¬ BreaksHeader image arch r place) (late : rank rule.CommandWalk < rank r)
    (to : (p : ℕ) → Contains (commands_of image) p × P p → BreaksCommands image (commands_of image) r p)
    (from : (p : ℕ) → BreaksCommands image (commands_of image) r p → Contains (commands_of image) p × P p)
    (kept : Kept image arch (rank r)) where
  pub judged : (found : Option ℕ) (result : Result T Break) → IsFirstOf (λ command. command) P (commands_of image) found
      → MatchOption found (IsOk result) (λ place. IsErrAnd result (λ b. (b.rule ≡ r) × (b.place ≡ place))) → Continues (BreaksImage image arch) r result
  judged None (Ok x) none ok = commands_kept image arch r never late kept (λ place broken. let (has, here) = from place broken in none place has here)
  judged None (Err b) none ok = absurd (false≢true ok)
  judged (Some first) (Ok x) found err = absurd err
  judged (Some first) (Err b) ((p, has, here, at), least) (named, place) =
      commands_broken image arch r never late kept b named (subst (BreaksCommands image (commands_of image) r) (at ∙ sym place) (to p (has, here)))
      (λ other broken. let (has_other, here_other) = from other broken in let low : first ≤ other = least other has_other here_other in omega (arith, place, low))

-- what answers by the first place stops at its rule
pub judged_stops : {T : Type 0} (r : Rule) (found : Option ℕ) (result : Result T Break) → MatchOption found (IsOk result) (λ place. IsErrAnd result (λ b. (b.rule ≡ r) × (b.place ≡ place)))
    → StopsAt r result
judged_stops r None (Ok x) ok = tt
judged_stops r None (Err b) ok = absurd (false≢true ok)
judged_stops r (Some first) (Ok x) err = tt
judged_stops r (Some first) (Err b) (named, place) = let same = ap rank named in omega (arith, same)
