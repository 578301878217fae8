use Rattle.std.proofs.Common.{◌∙◌, ap, sym}
use Rattle.std.proofs.lemmas.Bool.{false≢true}
use Rattle.macho_fields.specs.Bytes.{bytes_of}
use Rattle.macho_image.specs.Command.{CommandView, command_of}
use Rattle.macho_image.proofs.HeldSegments.{held_segment, no_segment}
use Rattle.macho_image.proofs.command.Command.segment.Goals.{then-self-ne-LC_SEGMENT_64-via-then-self-ne-LC_SEGMENT_64, then-self-ne-LC_SEGMENT_64-via-else-self-ne-LC_SEGMENT_64+then-not-holds_segment}
use Rattle.macho_image.proofs.command.Command.segment.Goals as goal

pub returns-then-self-ne-LC_SEGMENT_64-clause-listed : goal.returns-then-self-ne-LC_SEGMENT_64-clause-listed
returns-then-self-ne-LC_SEGMENT_64-clause-listed c = λ of.
    let image = bytes_of c.args.image in
    elim c.then-self-ne-LC_SEGMENT_64.branch [
      | then-self-ne-LC_SEGMENT_64-via-then-self-ne-LC_SEGMENT_64 w ↦ sym (no_segment image (command_of c.args.self.now) w.if-self-ne-LC_SEGMENT_64.true)
      | then-self-ne-LC_SEGMENT_64-via-else-self-ne-LC_SEGMENT_64+then-not-holds_segment w ↦
          let cmd = sym (ap (λ (v : CommandView). v.cmd) of.same) ∙ w.if-self-ne-LC_SEGMENT_64.false in
          let held = held_segment image c.args.self.now.place of.opened of.listed cmd in
          absurd (false≢true (sym w.if-not-holds_segment.true ∙ w.holds_segment.ensures.1 held))
    ]
