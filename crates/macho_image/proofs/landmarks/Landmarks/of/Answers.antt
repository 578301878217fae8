use Rattle.std.proofs.Common.{◌≡◌, ◌+◌, ap, sym, ◌∙◌, subst, arith, None}
use Rattle.macho_fields.specs.Bytes.{bytes_of}
use Rattle.macho_fields.specs.First.{rank}
use Rattle.macho_fields.specs.Image.{IsGood, command_cmd, command_count}
use Rattle.macho_fields.specs.declared.rule.Rule.TheVariants as rule
use Rattle.macho_image.specs.Walk.{AreLandmarks, IsAt}
use Rattle.macho_image.proofs.Noted.{landmarks_kept, next_good}
use Rattle.macho_image.proofs.Opened.{opened_below}
use Rattle.macho_image.proofs.OpenedWalk.{opened_inside}
use Rattle.macho_image.proofs.KeptRules.{has_header}
use Rattle.macho_image.proofs.Places.{at_first, at_next}
use Rattle.macho_image.proofs.landmarks.Landmarks.of.Goals as goal
use Rattle.macho_image.proofs.landmarks.Landmarks.of.Goals.{After-structure_of, After-from-place, in-Some, in_default}

pub word_at-index-end-requires : goal.word_at-index-end-requires
word_at-index-end-requires c = let header = has_header _ None (rank rule.SegmentAddress) (omega arith) (opened_below _ c.requires) in omega (arith, header)

pub loop-index-init : goal.loop-index-init
loop-index-init c = record { at = at_first (bytes_of c.args.image); noted = c.new-landmarks.ensures (bytes_of c.args.image) }

pub command_from-command-requires : goal.command_from-command-requires
command_from-command-requires c = record {
  good = next_good (bytes_of c.args.image) c.requires c.loop-index.index c.loop-index.place c.loop-index.invariant.at (omega (arith, c.word_at-index-end.ensures));
  inside = opened_inside (bytes_of c.args.image) c.requires;
}

pub note-requires-clause-listed : goal.note-requires-clause-listed
note-requires-clause-listed c = sym c.structure_of.ensures ∙ c.in-Some.is

pub note-requires-clause-segments : goal.note-requires-clause-segments
note-requires-clause-segments c = c.loop-index.invariant.noted.segments.most

pub note-requires-clause-builds : goal.note-requires-clause-builds
note-requires-clause-builds c = c.loop-index.invariant.noted.builds.most

pub note-requires-clause-libraries : goal.note-requires-clause-libraries
note-requires-clause-libraries c = c.loop-index.invariant.noted.libraries.most

pub note-requires-clause-tables : goal.note-requires-clause-tables
note-requires-clause-tables c = c.loop-index.invariant.noted.tables.most

pub note-requires-clause-fits : goal.note-requires-clause-fits
note-requires-clause-fits c = omega (arith, c.word_at-index-end.type_inv)

-- where the command stands that is read
place_is : (c : After-structure_of) → c.command_from-command.result.place ≡ c.loop-index.place
place_is c = ap (λ v. v.place) c.command_from-command.ensures

cmd_is : (c : After-structure_of) → c.command_from-command.result.cmd ≡ command_cmd (bytes_of c.args.image) c.command_from-command.result.place
cmd_is c = ap (λ v. v.cmd) c.command_from-command.ensures ∙ ap (command_cmd (bytes_of c.args.image)) (sym (place_is c))

at_command : (c : After-structure_of) → IsAt (bytes_of c.args.image) c.loop-index.index c.command_from-command.result.place
at_command c = subst (IsAt (bytes_of c.args.image) c.loop-index.index) (sym (place_is c)) c.loop-index.invariant.at

noted : (c : After-from-place) → AreLandmarks (bytes_of c.args.image) (c.loop-index.index + 1) c.match-structure_of.landmarks
noted c =
    let image = bytes_of c.args.image in
    elim c.match-structure_of.branch [
      | in-Some w ↦
          subst (AreLandmarks image (c.loop-index.index + 1)) (sym w.landmarks-is)
          (w.note.ensures.landmarks image (at_command c.before.before) (cmd_is c.before.before) c.loop-index.invariant.noted)
      | in_default w ↦
          subst (AreLandmarks image (c.loop-index.index + 1)) (sym w.landmarks-is)
          (landmarks_kept image c.loop-index.index c.command_from-command.result.place (at_command c.before.before) c.command_from-command.result.cmd (cmd_is c.before.before) c.loop-index.landmarks
          (sym c.structure_of.ensures ∙ w.in_default.is) c.loop-index.invariant.noted)
    ]

pub loop-index-preserved : goal.loop-index-preserved
loop-index-preserved c =
    let image = bytes_of c.args.image in
    let good : IsGood image c.loop-index.place = next_good image c.requires c.loop-index.index c.loop-index.place c.loop-index.invariant.at (omega (arith, c.word_at-index-end.ensures)) in record {
      at = subst (λ size. IsAt image (c.loop-index.index + 1) (c.loop-index.place + size)) (sym (c.from-place.ensures ∙ ap (λ v. v.size) c.command_from-command.ensures))
          (at_next image c.loop-index.index c.loop-index.place c.loop-index.invariant.at good);
      noted = noted c;
    }

pub returns : goal.returns
returns c =
    let all : c.loop-index.index ≡ command_count (bytes_of c.args.image) = omega (arith, c.word_at-index-end.ensures) in
    subst (λ n. AreLandmarks (bytes_of c.args.image) n c.loop-index.landmarks) all c.loop-index.invariant.noted
