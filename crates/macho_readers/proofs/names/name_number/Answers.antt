use Rattle.std.proofs.Common.{◌∙◌, ◌==◌, length, drop, ap, arith}
use Rattle.std.proofs.lemmas.List.{length-take}
use Rattle.std.specs.List.{before_first}
use Rattle.macho_fields.specs.Bytes.{bytes_of}
use Rattle.macho_readers.specs.Names.{number_of}
use Rattle.macho_readers.proofs.NameNumbers.{passed_none, passed_more, passed_zero, passed_all, number_fits}
use Rattle.macho_readers.proofs.names.name_number.Goals as goal

pub loop-byte-init : goal.loop-byte-init
loop-byte-init c = passed_none c.name_field-byte-items.result.now

pub returns-then-byte-eq0 : goal.returns-then-byte-eq0
returns-then-byte-eq0 c =
    passed_zero c.name_field-byte-items.result.now c.loop-byte.byte-index c.loop-byte.number c.loop-byte.invariant c.loop-byte-test.true c.if-byte-eq0.true
    ∙ ap (λ bytes. number_of (before_first (λ b. b == 0) bytes)) c.name_field-byte-items.ensures

pub overflow_mul-number : goal.overflow_mul-number
overflow_mul-number c =
    let short = ap length c.name_field-byte-items.ensures ∙ length-take 16 (drop c.args.place (bytes_of c.args.image)) in
    let byte = c.type_inv.byte-items c.loop-byte.byte-index in
    let fits = number_fits c.name_field-byte-items.result.now c.loop-byte.byte-index c.loop-byte.number c.loop-byte.invariant c.loop-byte-test.true (omega (arith, byte)) (omega (arith, short)) in
    omega (arith, fits)

pub overflow_add-number : goal.overflow_add-number
overflow_add-number c =
    let short = ap length c.name_field-byte-items.ensures ∙ length-take 16 (drop c.args.place (bytes_of c.args.image)) in
    let byte = c.type_inv.byte-items c.loop-byte.byte-index in
    let fits = number_fits c.name_field-byte-items.result.now c.loop-byte.byte-index c.loop-byte.number c.loop-byte.invariant c.loop-byte-test.true (omega (arith, byte)) (omega (arith, short)) in
    omega (arith, fits, c.from.ensures)

pub loop-byte-preserved : goal.loop-byte-preserved
loop-byte-preserved c =
    let byte = c.type_inv.byte-items c.loop-byte.byte-index in
    rw c.from.ensures (passed_more c.name_field-byte-items.result.now c.loop-byte.byte-index c.loop-byte.number c.loop-byte.invariant c.loop-byte-test.true (omega (arith, byte)) c.if-byte-eq0.false)

pub returns : goal.returns
returns c =
    passed_all c.name_field-byte-items.result.now c.loop-byte.byte-index c.loop-byte.number c.loop-byte.invariant (omega (arith, c.loop-byte-test.false, c.loop-byte.auto.byte-index-end))
    ∙ ap (λ bytes. number_of (before_first (λ b. b == 0) bytes)) c.name_field-byte-items.ensures
