use Rattle.std.proofs.Common.{◌≡◌, ◌+◌, List, ℕ, sym, ap, ◌∙◌, subst, arith}
use Rattle.std.proofs.lemmas.Bool.{false≢true}
use Rattle.macho_fields.specs.Image.{word, commands_of}
use Rattle.macho_fields.specs.Segment.{IsExecutable}
use Rattle.macho_tables.proofs.InitOffsets.{at_base, none_past}
use Rattle.macho_tables.proofs.init_offsets.is_called.Goals as goal

pub returns-in-Some-checked_add-clause-called : goal.returns-in-Some-checked_add-clause-called
returns-in-Some-checked_add-clause-called c =
    let image = c.args.image.now in
    let value : c.from.result ≡ word image c.args.place = c.from.ensures ∙ (c.word_at.ensures ∙ ap (λ (bytes : List ℕ). word bytes c.args.place) c.bytes.ensures.bytes) in
    let address : c.in-Some-checked_add.address ≡ c.in-Some.base + word image c.args.place = c.in-Some-checked_add.ensures.1 ∙ ap (λ n. c.in-Some.base + n) value in
    let found = c.has.ensures.found image c.requires.strictly c.requires.runs in
    let same = at_base image c.args.place c.args.base c.requires.base c.in-Some.base c.in-Some.is in (
      λ is. same.0 (subst (IsExecutable image (commands_of image)) address (found.0 is)),
      λ called. found.1 (subst (IsExecutable image (commands_of image)) (sym address) (same.1 called)),
    )

pub returns-in-Some-checked_add-clause-same : goal.returns-in-Some-checked_add-clause-same
returns-in-Some-checked_add-clause-same c = c.has.ensures.same c.args.image.now c.requires.runs

pub returns-in-None-clause-called : goal.returns-in-None-clause-called
returns-in-None-clause-called c =
    let image = c.args.image.now in
    let value : c.from.result ≡ word image c.args.place = c.from.ensures ∙ (c.word_at.ensures ∙ ap (λ (bytes : List ℕ). word bytes c.args.place) c.bytes.ensures.bytes) in
    let past = c.in-None.ensures in
    let same = at_base image c.args.place c.args.base c.requires.base c.in-Some.base c.in-Some.is in
    (λ wrong. absurd (false≢true wrong), λ called. absurd (none_past image c.requires.unbroken (c.in-Some.base + word image c.args.place) (omega (arith, value, past)) (same.1 called)))
