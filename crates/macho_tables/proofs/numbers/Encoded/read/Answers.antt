use Rattle.std.proofs.Common.{◌≡◌, ◌+◌, ◌%◌, ◌∙◌, sym, take, drop, arith}
use Rattle.std.proofs.lemmas.Nat.{and_mask}
use Rattle.std.proofs.lemmas.Option.{slice_get_within}
use Rattle.macho_tables.proofs.Digits.{byte_there, byte_missing, cut, endless, ended, digits_next, reading_more, reading_fits, digit_fits}
use Rattle.macho_tables.proofs.numbers.Encoded.read.Goals as goal

pub returns-in_err-byte : goal.returns-in_err-byte
returns-in_err-byte c =
    let past = byte_missing _ c.args.place c.loop-index.index (sym c.in_err-byte.ensures) in
    rw c.from_residual.ensures (cut _ c.loop-index.index past c.loop-index.invariant.more)

pub overflow_mul-value : goal.overflow_mul-value
overflow_mul-value c =
    let low : c.from.result ≡ c.in_ok-byte.byte % 0x80 = c.from.ensures ∙ and_mask c.in_ok-byte.byte 7 in
    let fits = reading_fits _ _ _ _ c.loop-index.invariant c.loop-index-test.true in
    let digit = digit_fits c.in_ok-byte.byte c.loop-index.scale fits.1 in rw low (omega arith)

pub overflow_add-value : goal.overflow_add-value
overflow_add-value c =
    let low : c.from.result ≡ c.in_ok-byte.byte % 0x80 = c.from.ensures ∙ and_mask c.in_ok-byte.byte 7 in
    let fits = reading_fits _ _ _ _ c.loop-index.invariant c.loop-index-test.true in
    let digit = digit_fits c.in_ok-byte.byte c.loop-index.scale fits.1 in rw low (omega arith)

pub overflow_mul-scale : goal.overflow_mul-scale
overflow_mul-scale c =
    let fits = reading_fits _ _ _ _ c.loop-index.invariant c.loop-index-test.true in omega arith

pub overflow_add-next-then-byte-lt-CONTINUES : goal.overflow_add-next-then-byte-lt-CONTINUES
overflow_add-next-then-byte-lt-CONTINUES c =
    let inside = slice_get_within _ (c.args.place + c.loop-index.index) c.in_ok-byte.byte (sym c.in_ok-byte.ensures) in
    omega arith

pub returns-then-byte-lt-CONTINUES : goal.returns-then-byte-lt-CONTINUES
returns-then-byte-lt-CONTINUES c =
    let there = byte_there _ c.args.place c.loop-index.index c.in_ok-byte.byte (sym c.in_ok-byte.ensures) in
    let low : c.from.result ≡ c.in_ok-byte.byte % 0x80 = c.from.ensures ∙ and_mask c.in_ok-byte.byte 7 in
    let next = digits_next _ _ _ _ _ c.loop-index.invariant there.0 there.1 in (
      take (c.loop-index.index + 1) (drop c.args.place c.args.bytes.bytes.now),
      ended _ c.loop-index.index there.0 c.loop-index-test.true c.loop-index.invariant.more (rw there.1 c.if-byte-lt-CONTINUES.true),
      rw low next.0,
      rw next.2 next.1,
      rw next.2 (omega arith),
    )

pub loop-index-preserved : goal.loop-index-preserved
loop-index-preserved c =
    let there = byte_there _ c.args.place c.loop-index.index c.in_ok-byte.byte (sym c.in_ok-byte.ensures) in
    let low : c.from.result ≡ c.in_ok-byte.byte % 0x80 = c.from.ensures ∙ and_mask c.in_ok-byte.byte 7 in
    rw low (reading_more _ _ _ _ _ c.loop-index.invariant there.0 there.1 c.if-byte-lt-CONTINUES.false)

pub returns : goal.returns
returns c = endless _ (λ k below. c.loop-index.invariant.more k (omega arith))
