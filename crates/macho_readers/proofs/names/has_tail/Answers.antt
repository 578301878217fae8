use Rattle.std.proofs.Common.{refl, subst}
use Rattle.std.proofs.lemmas.Bool.{false≢true}
use Rattle.macho_fields.specs.Bytes.{bytes_of}
use Rattle.macho_readers.proofs.NameTails.{Passed, passed_zero, passed_byte, tail_found, tail_none}
use Rattle.macho_readers.proofs.names.has_tail.Goals as goal
use Rattle.macho_readers.proofs.names.has_tail.Goals.{then-byte-eq0, else-byte-eq0+else-is_ended}

pub returns-then-is_ended : goal.returns-then-is_ended
returns-then-is_ended c =
    let bytes = c.name_field-byte-items.result.now in
    let k = c.loop-byte.byte-index in
    let passed = subst (Passed bytes k) c.if-is_ended.true c.loop-byte.invariant in
    (λ _. tail_found (bytes_of c.args.image) c.args.place c.requires bytes c.name_field-byte-items.ensures k c.loop-byte-test.true passed c.if-byte-eq0.false, λ _. refl)

pub loop-byte-preserved : goal.loop-byte-preserved
loop-byte-preserved c =
    let bytes = c.name_field-byte-items.result.now in
    let k = c.loop-byte.byte-index in
    let passed = c.loop-byte.invariant in
    elim c.if-byte-eq0.branch [
      | then-byte-eq0 w ↦ rw w.is_ended-is (passed_zero bytes k c.loop-byte-test.true c.loop-byte.is_ended passed w.if-byte-eq0.true)
      | else-byte-eq0+else-is_ended w ↦ rw (w.is_ended-is, w.if-is_ended.false) (passed_byte bytes k c.loop-byte-test.true c.loop-byte.is_ended passed w.if-byte-eq0.false w.if-is_ended.false)
    ]

pub returns : goal.returns
returns c =
    let bytes = c.name_field-byte-items.result.now in
    let none = tail_none (bytes_of c.args.image) c.args.place c.requires bytes c.name_field-byte-items.ensures c.loop-byte.byte-index c.loop-byte.is_ended c.loop-byte-test.false c.loop-byte.invariant in
    (λ wrong. absurd (false≢true wrong), λ tail. absurd (none tail))
