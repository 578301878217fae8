use Rattle.std.proofs.Common.{◌≡◌, ◌+◌, ℕ, List, not, ap, sym, subst, length, ◌==◌, ◌∙◌, Some, Bool, false}
use Rattle.std.specs.Option.{option_map_or}
use Rattle.std.proofs.lemmas.Bool.{false≢true}
use Rattle.macho_fields.specs.Image.{command_cmd}
use Rattle.macho_fields.specs.LoadCommands.{IsUnique, is_dylib_command, names_library, structure_of, table_fields}
use Rattle.macho_fields.specs.declared.header.loader.TheConstants as loader
use Rattle.macho_image.specs.Library.{is_library}
use Rattle.macho_image.specs.Walk.{AreFirst, AreLandmarks, IsAt, IsRange, first_commands, has_cmd, has_tables, names_table}
use Rattle.macho_image.proofs.Noted.{at_cmd, listed_by, no_dylib, other_cmd, others_kept, passed_header, passed_next, range_kept, range_noted}
use Rattle.macho_fields.specs.declared.load_command.Structure.{Structure}
use Rattle.macho_fields.specs.declared.load_command.Structure.TheVariants as structure
use Rattle.macho_image.specs.declared.landmarks.Landmarks.{Landmarks}
use Rattle.macho_image.proofs.Repeated.{repeats_second}
use Rattle.macho_image.proofs.landmarks.Landmarks.note.Goals as goal
use Rattle.macho_image.proofs.landmarks.Landmarks.note.Goals.{After-note-2, in-DylibCommand, in_default+then-not-is_empty, in_default+else-not-is_empty}

pub returns-then-command-eq-LC_SEGMENT_64-clause-landmarks : goal.returns-then-command-eq-LC_SEGMENT_64-clause-landmarks
returns-then-command-eq-LC_SEGMENT_64-clause-landmarks c image at is are =
    let before = c.args.self.now in
    let index = c.args.index in
    let place = c.args.command.place in
    let cmd = c.args.command.cmd in
    let same = c.if-command-eq-LC_SEGMENT_64.true in
    let noted = c.note in
    let by = at_cmd image index place at cmd is in
    others_kept image index place at cmd is before noted.new.self before.builds (λ unique. false≢true (subst IsUnique same unique)) (by names_library loader.LC_SEGMENT_64 same)
    (by (λ n. option_map_or has_tables (structure_of n) false) loader.LC_SEGMENT_64 same)
    (range_noted image index place at (has_cmd loader.LC_SEGMENT_64 image) before.segments are.segments noted.new.self (by (λ n. n == loader.LC_SEGMENT_64) loader.LC_SEGMENT_64 same) noted.ensures.first noted.ensures.more)
    (range_kept image index place at (has_cmd loader.LC_BUILD_VERSION image) before.builds are.builds (by (λ n. n == loader.LC_BUILD_VERSION) loader.LC_SEGMENT_64 same)) are

pub returns-then-command-eq-LC_BUILD_VERSION-clause-landmarks : goal.returns-then-command-eq-LC_BUILD_VERSION-clause-landmarks
returns-then-command-eq-LC_BUILD_VERSION-clause-landmarks c image at is are =
    let before = c.args.self.now in
    let index = c.args.index in
    let place = c.args.command.place in
    let cmd = c.args.command.cmd in
    let same = c.if-command-eq-LC_BUILD_VERSION.true in
    let noted = c.note-then-command-eq-LC_BUILD_VERSION in
    let by = at_cmd image index place at cmd is in
    others_kept image index place at cmd is before before.segments noted.new.self (λ unique. false≢true (subst IsUnique same unique)) (by names_library loader.LC_BUILD_VERSION same)
    (by (λ n. option_map_or has_tables (structure_of n) false) loader.LC_BUILD_VERSION same)
    (range_kept image index place at (has_cmd loader.LC_SEGMENT_64 image) before.segments are.segments (by (λ n. n == loader.LC_SEGMENT_64) loader.LC_BUILD_VERSION same))
    (range_noted image index place at (has_cmd loader.LC_BUILD_VERSION image) before.builds are.builds noted.new.self (by (λ n. n == loader.LC_BUILD_VERSION) loader.LC_BUILD_VERSION same) noted.ensures.first noted.ensures.more) are

-- what is noted of the library that the command names, or of its tables
module _ (c : After-note-2) (image : List ℕ) (at : IsAt image c.args.index c.args.command.place) (is : c.args.command.cmd ≡ command_cmd image c.args.command.place)
    (are : AreLandmarks image c.args.index c.args.self.now) where
  by_structure : (test : Structure → Bool) → option_map_or test (structure_of (command_cmd image c.args.command.place)) false ≡ test c.args.structure
  by_structure test = listed_by image c.args.index c.args.command.place at c.args.command.cmd is test (Some c.args.structure) c.requires.listed

  names : (is_empty : Bool) → is_empty ≡ (length (table_fields c.args.structure) == 0) → names_table image c.args.command.place ≡ not is_empty
  names is_empty empty = by_structure has_tables ∙ ap not (sym empty)

  no_library : (c.args.structure ≡ structure.DylibCommand → ⊥) → IsRange image (is_library image) (c.args.index + 1) c.args.self.now.libraries
  no_library other =
      range_kept image c.args.index c.args.command.place at (is_library image) c.args.self.now.libraries are.libraries
      (by_structure is_dylib_command ∙ no_dylib c.args.structure other)

  abbrev before : Landmarks
  before = c.args.self.now

  abbrev after : Landmarks
  after = c.match-structure.self

  noted : (after.unique ≡ before.unique) × (after.segments ≡ before.segments) × (after.builds ≡ before.builds)
      × IsRange image (is_library image) (c.args.index + 1) after.libraries × IsRange image (names_table image) (c.args.index + 1) after.tables
  noted = elim c.match-structure.branch [
    | in-DylibCommand w ↦ (
      ap (λ l. l.unique) w.self-is,
      ap (λ l. l.segments) w.self-is,
      ap (λ l. l.builds) w.self-is,
      subst (IsRange image (is_library image) (c.args.index + 1)) (sym (ap (λ l. l.libraries) w.self-is))
          (range_noted image c.args.index c.args.command.place at (is_library image) before.libraries are.libraries w.note-in-DylibCommand.new.self
          (by_structure is_dylib_command ∙ ap is_dylib_command w.in-DylibCommand.is) w.note-in-DylibCommand.ensures.first w.note-in-DylibCommand.ensures.more),
      subst (IsRange image (names_table image) (c.args.index + 1)) (sym (ap (λ l. l.tables) w.self-is))
          (range_kept image c.args.index c.args.command.place at (names_table image) before.tables are.tables (by_structure has_tables ∙ ap has_tables w.in-DylibCommand.is)),
    )
    | in_default+then-not-is_empty w ↦ (
      ap (λ l. l.unique) w.self-is,
      ap (λ l. l.segments) w.self-is,
      ap (λ l. l.builds) w.self-is,
      subst (IsRange image (is_library image) (c.args.index + 1)) (sym (ap (λ l. l.libraries) w.self-is)) (no_library w.in_default.not-DylibCommand),
      subst (IsRange image (names_table image) (c.args.index + 1)) (sym (ap (λ l. l.tables) w.self-is))
          (range_noted image c.args.index c.args.command.place at (names_table image) before.tables are.tables w.note-then-not-is_empty.new.self
          (names w.is_empty.result (w.is_empty.ensures ∙ ap (λ fields. length fields == 0) w.tables.ensures.tables) ∙ ap not w.if-not-is_empty.true)
          w.note-then-not-is_empty.ensures.first w.note-then-not-is_empty.ensures.more),
    )
    | in_default+else-not-is_empty w ↦ (
      ap (λ l. l.unique) w.self-is,
      ap (λ l. l.segments) w.self-is,
      ap (λ l. l.builds) w.self-is,
      subst (IsRange image (is_library image) (c.args.index + 1)) (sym (ap (λ l. l.libraries) w.self-is)) (no_library w.in_default.not-DylibCommand),
      subst (IsRange image (names_table image) (c.args.index + 1)) (sym (ap (λ l. l.tables) w.self-is))
          (range_kept image c.args.index c.args.command.place at (names_table image) before.tables are.tables
          (names w.is_empty.result (w.is_empty.ensures ∙ ap (λ fields. length fields == 0) w.tables.ensures.tables) ∙ ap not w.if-not-is_empty.false)),
    )
  ]

pub returns-clause-landmarks : goal.returns-clause-landmarks
returns-clause-landmarks c image at is are =
    let before = c.args.self.now in
    let index = c.args.index in
    let place = c.args.command.place in
    let cmd = c.args.command.cmd in
    let (same_unique, same_segments, same_builds, libraries, tables) = noted c image at is are in record {
      first = subst (λ ps. AreFirst image ps c.note-2.new.self) (sym (passed_next image index place at))
          (c.note-2.ensures.first image (first_commands image index) is (passed_header image index place at) (subst (AreFirst image (first_commands image index)) (sym same_unique) are.first));
      segments = subst (IsRange image (has_cmd loader.LC_SEGMENT_64 image) (index + 1)) (sym same_segments)
          (range_kept image index place at (has_cmd loader.LC_SEGMENT_64 image) before.segments are.segments (other_cmd image index place at cmd is loader.LC_SEGMENT_64 c.if-command-eq-LC_SEGMENT_64.false));
      builds = subst (IsRange image (has_cmd loader.LC_BUILD_VERSION image) (index + 1)) (sym same_builds)
          (range_kept image index place at (has_cmd loader.LC_BUILD_VERSION image) before.builds are.builds (other_cmd image index place at cmd is loader.LC_BUILD_VERSION c.if-command-eq-LC_BUILD_VERSION.false));
      libraries = libraries;
      tables = tables;
    }

pub returns-clause-repeats : goal.returns-clause-repeats
returns-clause-repeats c image at is are =
    let (same_unique, same_segments, same_builds, libraries, tables) = noted c image at is are in
    repeats_second image c.args.index c.args.command.place c.args.command.cmd at is c.note-2.result
    (c.note-2.ensures.second image (first_commands image c.args.index) (subst (AreFirst image (first_commands image c.args.index)) (sym same_unique) are.first))
