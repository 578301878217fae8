use Rattle.std.proofs.Common.{◌≡◌, ℕ, ◌+◌, ◌<◌, ◌≤◌, List, ◌++◌, Option, Some, None, Err, IsErrOf, length, take, refl, sym, ap, ◌∙◌, append-nil, arith, rules, subst}
use Rattle.std.proofs.KnownBytes.{Consumes-trans, Consumes-whole}
use Rattle.std.proofs.lemmas.Bool.{false≢true}
use Rattle.std.proofs.lemmas.List.{length-append, length-take, take-append-le}
use Rattle.std.specs.Io.KnownBytes.{Consumes, IsAtEnd}
use Rattle.std.specs.Prelude.{IfSome}
use Rattle.macho_text.specs.Stream.{TookAtMost}
use Rattle.macho_text.specs.declared.transfer.ReadFault.TheVariants.{Read, TooLong, Memory}
use Rattle.macho_text.proofs.Results.{at_fault, no_fault, same_fault}
use Rattle.macho_text.proofs.transfer.read_all.Goals as goal

-- a read makes the bytes longer by what it gave
grown : (bytes piece more new : List ℕ) (n : ℕ) → new ≡ bytes ++ take n (piece ++ more) → n ≤ length piece → length new ≡ length bytes + n
grown bytes piece more new n is within =
    omega (arith, ap length is, length-append bytes (take n (piece ++ more)), length-take n (piece ++ more), length-append piece more)

-- what was read before, and then a read
consumed_next : (all left rest : Option (List ℕ)) (bytes piece more new : List ℕ) (n : ℕ) → n ≤ length piece → new ≡ bytes ++ take n (piece ++ more)
    → Consumes all left bytes → Consumes left rest (take n piece) → Consumes all rest new
consumed_next all left rest bytes piece more new n within is first second =
    subst (Consumes all rest) (ap (λ l. bytes ++ l) (sym (take-append-le n piece more within)) ∙ sym is) (Consumes-trans all left rest bytes (take n piece) first second)

-- both together took no more bytes than there was room for
took_both : (all left rest : Option (List ℕ)) (bytes piece : List ℕ) (n limit : ℕ) → Consumes all left bytes → Consumes left rest (take n piece)
    → length bytes + n ≤ limit → TookAtMost limit all rest
took_both None left rest bytes piece n limit first second room = tt
took_both (Some x) None rest bytes piece n limit first second room = absurd first
took_both (Some x) (Some y) None bytes piece n limit first second room = absurd second
took_both (Some x) (Some y) (Some z) bytes piece n limit first second room =
    omega (arith, ap length first, ap length second, length-append bytes y, length-append (take n piece) z, length-take n piece)

-- bytes are left after as many as the limit
more_is_left : (all left : Option (List ℕ)) (bytes : List ℕ) (limit : ℕ) → Consumes all left bytes → limit ≤ length bytes
    → IfSome left (λ rest. 0 < length rest) → IfSome all (λ all. limit < length all)
more_is_left None left bytes limit taken full more = tt
more_is_left (Some x) None bytes limit taken full more = absurd taken
more_is_left (Some x) (Some y) bytes limit taken full more = omega (arith, ap length taken, length-append bytes y)

-- what was read before, and then a few bytes
took_more : (all left rest : Option (List ℕ)) (bytes : List ℕ) (limit n : ℕ) → Consumes all left bytes → length bytes ≤ limit
    → TookAtMost n left rest → TookAtMost (limit + n) all rest
took_more None left rest bytes limit n taken within few = tt
took_more (Some x) None rest bytes limit n taken within few = absurd taken
took_more (Some x) (Some y) None bytes limit n taken within few = tt
took_more (Some x) (Some y) (Some z) bytes limit n taken within few = omega (arith, ap length taken, length-append bytes y)

-- a read that gave nothing at the end leaves all that was read before
read_whole : (all left rest : Option (List ℕ)) (bytes piece : List ℕ) (n : ℕ) → Consumes all left bytes → Consumes left rest (take n piece) → n ≡ 0 → IsAtEnd rest
    → IfSome all (λ all. bytes ≡ all)
read_whole all left rest bytes piece n first second none end =
    Consumes-whole all rest (bytes ++ take n piece) (λ all. bytes ≡ all) (Consumes-trans all left rest bytes (take n piece) first second) end (rw none (sym (append-nil bytes)))

-- each fault is one only
read_not_long : {T : Type 0} → ¬ IsErrOf {T = T} (Err Read) TooLong
read_not_long is = cc

read_not_memory : {T : Type 0} → ¬ IsErrOf {T = T} (Err Read) Memory
read_not_memory is = cc

memory_not_long : {T : Type 0} → ¬ IsErrOf {T = T} (Err Memory) TooLong
memory_not_long is = cc

memory_not_read : {T : Type 0} → ¬ IsErrOf {T = T} (Err Memory) Read
memory_not_read is = cc

pub loop-piece-preserved : goal.loop-piece-preserved
loop-piece-preserved g c =
    let asked : length c.read.new.piece ≡ length (take c.min-wanted.result c.loop-piece.piece) = c.read.auto.piece in
    let longer : length c.extend_from_slice.new.self.items ≡ length c.loop-piece.bytes.items + c.in_ok-count.count =
    grown _ _ _ _ _ c.in_ok-extend_from_slice.ensures.items c.in_ok-count.ensures.count in record {
      within_limit = omega (arith, c.in_ok-count.ensures.count, length-take c.min-wanted.result c.loop-piece.piece);
      taken = consumed_next _ _ _ _ _ _ _ _ c.in_ok-count.ensures.count c.in_ok-extend_from_slice.ensures.items c.loop-piece.invariant.taken c.in_ok-count.ensures.bytes.taken;
      stays_failed = search rules;
      few_reads = omega (arith, c.in_ok-count.ensures.counted);
    }

pub returns-in_err-count : goal.returns-in_err-count
returns-in_err-count g c = rw (at_fault _ _ c.from_residual.ensures.1) record {
  within_limit = tt;
  all = tt;
  at_end = tt;
  too_long = λ e. absurd (read_not_long e);
  one_too_many = λ e. absurd (read_not_long e);
  memory = λ e. absurd (read_not_memory e);
  failed = (λ _. c.in_err-count.ensures.failed.0 refl, λ _. refl);
  stays_failed = λ _. refl;
  few_reads = omega (arith, c.in_err-count.ensures.counted);
}

pub returns-then-count-eq0 : goal.returns-then-count-eq0
returns-then-count-eq0 g c =
    let asked : length c.read.new.piece ≡ length (take c.min-wanted.result c.loop-piece.piece) = c.read.auto.piece in
    let end = c.in_ok-count.ensures.bytes.end c.if-count-eq0.true (omega (arith, length-take c.min-wanted.result c.loop-piece.piece)) in record {
      within_limit = c.loop-piece.invariant.within_limit;
      all = read_whole _ _ _ _ _ _ c.loop-piece.invariant.taken c.in_ok-count.ensures.bytes.taken c.if-count-eq0.true end;
      at_end = end;
      too_long = λ e. absurd (no_fault _ _ e);
      one_too_many = λ e. absurd (no_fault _ _ e);
      memory = λ e. absurd (no_fault _ _ e);
      failed = (λ e. absurd (no_fault _ _ e), λ f. absurd (false≢true (c.in_ok-count.ensures.failed.1 f)));
      stays_failed = λ f. absurd (false≢true (c.in_ok-count.ensures.stays_failed (c.loop-piece.invariant.stays_failed f)));
      few_reads = omega (arith, c.in_ok-count.ensures.counted);
    }

pub returns-in_err-extend_from_slice : goal.returns-in_err-extend_from_slice
returns-in_err-extend_from_slice g c =
    let asked : length c.read.new.piece ≡ length (take c.min-wanted.result c.loop-piece.piece) = c.read.auto.piece in
    let room : length c.loop-piece.bytes.items + c.in_ok-count.count ≤ c.args.limit = omega (arith, c.in_ok-count.ensures.count, length-take c.min-wanted.result c.loop-piece.piece) in
    rw (at_fault _ _ c.from_residual-in_err-extend_from_slice.ensures.1) record {
      within_limit = tt;
      all = tt;
      at_end = tt;
      too_long = λ e. absurd (memory_not_long e);
      one_too_many = λ e. absurd (memory_not_long e);
      memory = λ _. took_both _ _ _ _ _ _ _ c.loop-piece.invariant.taken c.in_ok-count.ensures.bytes.taken room;
      failed = (λ e. absurd (memory_not_read e), λ f. absurd (false≢true (c.in_ok-count.ensures.failed.1 f)));
      stays_failed = λ f. absurd (false≢true (c.in_ok-count.ensures.stays_failed (c.loop-piece.invariant.stays_failed f)));
      few_reads = omega (arith, c.in_ok-count.ensures.counted);
    }

pub returns-in_err-expect_end : goal.returns-in_err-expect_end
returns-in_err-expect_end g c = rw (at_fault _ _ c.from_residual-in_err-expect_end.ensures.1) record {
  within_limit = tt;
  all = tt;
  at_end = tt;
  too_long = λ e. more_is_left _ _ _ _ c.loop-piece.invariant.taken (omega arith) (c.in_err-expect_end.ensures.too_long (same_fault _ _ e));
  one_too_many = λ e. took_more _ _ _ _ _ _ c.loop-piece.invariant.taken (omega arith) (c.in_err-expect_end.ensures.one_byte (same_fault _ _ e));
  memory = λ e. absurd (c.in_err-expect_end.ensures.needs_no_memory (same_fault _ _ e));
  failed = (λ e. c.in_err-expect_end.ensures.failed.0 (same_fault _ _ e), λ f. same_fault _ _ (c.in_err-expect_end.ensures.failed.1 f));
  stays_failed = λ f. same_fault _ _ (c.in_err-expect_end.ensures.stays_failed (c.loop-piece.invariant.stays_failed f));
  few_reads = omega (arith, c.in_err-expect_end.ensures.one_read);
}

pub returns : goal.returns
returns g c = record {
  within_limit = c.loop-piece.invariant.within_limit;
  all = Consumes-whole _ _ _ (λ all. c.loop-piece.bytes.items ≡ all) c.loop-piece.invariant.taken c.in_ok-expect_end.ensures.at_end refl;
  at_end = c.in_ok-expect_end.ensures.still_at_end;
  too_long = λ e. absurd (no_fault _ _ e);
  one_too_many = λ e. absurd (no_fault _ _ e);
  memory = λ e. absurd (no_fault _ _ e);
  failed = (λ e. absurd (no_fault _ _ e), λ f. absurd (no_fault _ _ (c.in_ok-expect_end.ensures.failed.1 f)));
  stays_failed = λ f. absurd (no_fault _ _ (c.in_ok-expect_end.ensures.stays_failed (c.loop-piece.invariant.stays_failed f)));
  few_reads = omega (arith, c.in_ok-expect_end.ensures.one_read);
}
