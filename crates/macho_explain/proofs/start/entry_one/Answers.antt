use Rattle.std.proofs.Common.{◌≡◌, ◌∙◌, Some, ap, inl, inr, subst, true}
use Rattle.std.specs.Prelude.{slice_get}
use Rattle.macho_fields.specs.Bytes.{bytes_of}
use Rattle.macho_fields.specs.Image.{command_cmd}
use Rattle.macho_readers.specs.Entry.{is_entry}
use Rattle.macho_explain.specs.Explain.{all_loads}
use Rattle.macho_explain.specs.declared.walk.Sought.TheVariants as sought
use Rattle.macho_explain.proofs.Sought.{no_earlier}
use Rattle.macho_explain.proofs.start.entry_one.Goals as goal
use Rattle.macho_explain.proofs.start.entry_one.Goals.{in-Some, in-None}

pub returns : goal.returns
returns c =
    let image = bytes_of c.args.sliced.now.held.bytes in
    let place = c.args.sliced.now.place in
    let walked = c.in_ok-at.walked in
    let is = c.in_ok-at.ensures.1 in
    let cmd : walked.load.cmd ≡ command_cmd image place = is.load.cmd ∙ ap (command_cmd image) is.meets in
    let listed : slice_get (all_loads image) walked.index ≡ Some place = subst (λ p. slice_get (all_loads image) walked.index ≡ Some p) is.meets is.listed in
    rw c.shows.ensures (
      c.in_ok-at.ensures.0,
      elim c.match-repeated.branch [
        | in-Some w ↦ rw w.shows-is (inl (w.in-Some.ensures.value ∙ cmd, w.in-Some.ensures.limit, w.in-Some.ensures.order))
        | in-None w ↦
            rw w.shows-is (inr (λ few has. no_earlier image place sought.Entry (λ earlier. is_entry (command_cmd image earlier) ≡ true) walked is (λ earlier same. same) w.in-None.ensures.none ((few, walked.index, listed), has), w.other_entry.ensures))
      ],
    )
