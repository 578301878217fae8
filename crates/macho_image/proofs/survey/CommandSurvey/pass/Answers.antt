use Rattle.std.proofs.Common.{ℕ, ◌+◌, ◌↔◌, IsTrue, Option, sym, subst, ◌∙◌}
use Rattle.std.proofs.lemmas.Bool.{both_ways}
use Rattle.macho_fields.specs.Bytes.{bytes_of}
use Rattle.macho_fields.specs.FirstPlace.{IsFirstOf}
use Rattle.macho_image.specs.Walk.{AreLandmarks, Repeats, first_commands}
use Rattle.macho_image.proofs.Surveyed.{Marks, all_noted, cmd_is, marks_name, marks_none, marks_short, place_is, repeat_noted, repeat_passed, stands_alone, stands_at, unlisted_passed}
use Rattle.macho_image.proofs.survey.CommandSurvey.pass.Goals as goal
use Rattle.macho_image.proofs.survey.CommandSurvey.pass.Goals.{After-note-2, then-is_short, else-is_short+then-has_bad_name, else-is_short+else-has_bad_name}

pub returns-in_default-clause-passed : goal.returns-in_default-clause-passed
returns-in_default-clause-passed c =
    unlisted_passed c.args.self.now c.args.index c.args.place c.requires.next c.requires.passed c.command_from-command.result c.command_from-command.ensures
    (sym c.structure_of.ensures ∙ c.in_default.is)

pub is_short-requires-clause-alone : goal.is_short-requires-clause-alone
is_short-requires-clause-alone c = stands_alone c.args.self.now c.args.index c.args.place c.requires.next c.requires.passed c.command_from-command.result c.command_from-command.ensures

pub has_bad_name-requires-clause-alone : goal.has_bad_name-requires-clause-alone
has_bad_name-requires-clause-alone c = stands_alone c.args.self.now c.args.index c.args.place c.requires.next c.requires.passed c.command_from-command.result c.command_from-command.ensures

-- the survey once the command is tested for its size and its name
marks : (c : After-note-2) → Marks c.args.self.now c.args.index c.if-is_short.self
marks c =
    let before = c.args.self.now in
    let command = c.command_from-command in
    elim c.if-is_short.branch [
      | then-is_short w ↦
          subst (Marks before c.args.index) (sym w.self-is)
          (subst (λ (found : Option ℕ). Marks before c.args.index (record before { command_short = found })) (sym w.note.ensures)
          (marks_short before c.args.index c.args.place c.requires.next c.requires.passed command.result command.ensures (c.is_short.ensures.0 w.if-is_short.true)))
      | else-is_short+then-has_bad_name w ↦
          subst (Marks before c.args.index) (sym w.self-is)
          (subst (λ (found : Option ℕ). Marks before c.args.index (record before { name = found })) (sym w.note-then-has_bad_name.ensures)
          (marks_name before c.args.index c.args.place c.requires.next c.requires.passed command.result command.ensures
          (λ short. both_ways c.is_short.result w.if-is_short.false (c.is_short.ensures.1 short)) (w.has_bad_name.ensures.0 w.if-has_bad_name.true)))
      | else-is_short+else-has_bad_name w ↦
          subst (Marks before c.args.index) (sym w.self-is)
          (marks_none before c.args.index c.args.place c.requires.next c.requires.passed command.result command.ensures
          (λ short. both_ways c.is_short.result w.if-is_short.false (c.is_short.ensures.1 short))
          (λ bad. both_ways w.has_bad_name.result w.if-has_bad_name.false (w.has_bad_name.ensures.1 bad)))
    ]

landmarks : (c : After-note-2) → AreLandmarks (bytes_of c.args.self.now.candidate.bytes) (c.args.index + 1) c.note-2.new.self
landmarks c =
    let before = c.args.self.now in
    let image = bytes_of before.candidate.bytes in
    let command = c.command_from-command in
    c.note-2.ensures.landmarks image
    (stands_at before c.args.index c.args.place c.requires.next c.requires.passed command.result command.ensures)
    (cmd_is before c.args.index c.args.place c.requires.next c.requires.passed command.result command.ensures)
    (subst (AreLandmarks image c.args.index) (sym (marks c).landmarks) c.requires.passed.landmarks)

-- where the command stands, and what the landmarks report of it
repeats : (c : After-note-2) → IsTrue c.note-2.result ↔ Repeats (bytes_of c.args.self.now.candidate.bytes) c.args.index c.args.place
repeats c =
    let before = c.args.self.now in
    let image = bytes_of before.candidate.bytes in
    let command = c.command_from-command in
    subst (λ place. IsTrue c.note-2.result ↔ Repeats image c.args.index place)
    (place_is before c.args.index c.args.place c.requires.next c.requires.passed command.result command.ensures)
    (c.note-2.ensures.repeats image
    (stands_at before c.args.index c.args.place c.requires.next c.requires.passed command.result command.ensures)
    (cmd_is before c.args.index c.args.place c.requires.next c.requires.passed command.result command.ensures)
    (subst (AreLandmarks image c.args.index) (sym (marks c).landmarks) c.requires.passed.landmarks))

repeated : (c : After-note-2) → IsFirstOf (λ command. command) (Repeats (bytes_of c.args.self.now.candidate.bytes) c.args.index)
    (first_commands (bytes_of c.args.self.now.candidate.bytes) c.args.index) c.if-is_short.self.command_repeated
repeated c =
    let image = bytes_of c.args.self.now.candidate.bytes in
    subst (IsFirstOf (λ command. command) (Repeats image c.args.index) (first_commands image c.args.index)) (sym (marks c).repeated) c.requires.passed.repeated

pub returns-then-note-clause-passed : goal.returns-then-note-clause-passed
returns-then-note-clause-passed c =
    let before = c.args.self.now in
    let image = bytes_of before.candidate.bytes in
    all_noted before c.args.index c.args.place c.requires.next c.requires.passed c.if-is_short.self c.note-2.new.self c.note-then-note.new.self (marks c.before.before.before) (landmarks c.before.before.before)
    (subst (IsFirstOf (λ command. command) (Repeats image (c.args.index + 1)) (first_commands image (c.args.index + 1))) (sym c.note-then-note.ensures)
    (repeat_noted image c.args.index c.args.place c.requires.next.at c.if-is_short.self.command_repeated (repeated c.before.before.before) ((repeats c.before.before.before).0 c.if-note.true)))

pub returns-else-note-clause-passed : goal.returns-else-note-clause-passed
returns-else-note-clause-passed c =
    let before = c.args.self.now in
    let image = bytes_of before.candidate.bytes in
    all_noted before c.args.index c.args.place c.requires.next c.requires.passed c.if-is_short.self c.note-2.new.self c.if-is_short.self.command_repeated (marks c.before) (landmarks c.before)
    (repeat_passed image c.args.index c.args.place c.requires.next.at c.if-is_short.self.command_repeated (repeated c.before)
    (λ again. both_ways c.note-2.result c.if-note.false ((repeats c.before).1 again)))
