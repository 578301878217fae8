use Rattle.std.proofs.lemmas.Bool.{false≢true}
use Rattle.macho_alike.proofs.BindPairs.{none_of_either}
use Rattle.macho_alike.proofs.binds.agree.Goals as goal

pub returns : goal.returns
returns c = λ t.
    none_of_either c.args.image.now c.args.binds.now c.requires.inside (c.agree_in_names.ensures c.if-not-agree_in_names.false)
    (λ clash. let some = c.clash.ensures.1 (rw (c.len.ensures.count, c.bytes.ensures.bytes) clash) in absurd (false≢true (rw some at t)))
