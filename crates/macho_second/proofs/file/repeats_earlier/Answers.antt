use Rattle.std.proofs.Common.{◌≡◌, refl, arith, rules}
use Rattle.std.proofs.lemmas.Bool.{false≢true}
use Rattle.macho_fields.specs.Bytes.{bytes_of}
use Rattle.macho_fields.specs.Universal.{entry_slice}
use Rattle.macho_fields.proofs.Entries.{none_more}
use Rattle.macho_second.proofs.file.repeats_earlier.Goals as goal

pub returns-then-eq : goal.returns-then-eq
returns-then-eq c = (λ h. (c.loop-k.k, c.loop-k-test.true, search rules), λ h. refl)

pub loop-k-preserved : goal.loop-k-preserved
loop-k-preserved c =
    let file = bytes_of c.args.entries.file in
    none_more (λ i. (entry_slice file i).arch ≡ (entry_slice file c.args.later).arch) c.loop-k.k c.loop-k.invariant (search rules)

pub returns : goal.returns
returns c = (λ h. absurd (false≢true h), λ (i, less, h). absurd (c.loop-k.invariant i (omega arith) h))
