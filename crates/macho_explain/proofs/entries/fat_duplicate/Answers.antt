use Rattle.std.proofs.Common.{◌≢◌, ◌∙◌, ◌+◌, ◌*◌, ◌^◌, ℕ, ap, arith, below_more, sym}
use Rattle.macho_fields.specs.Bytes.{bytes_of}
use Rattle.macho_explain.specs.Entries.{HasTable, HaveSameArch}
use Rattle.macho_explain.proofs.ListedEntries.{entry_is, has_arch, none_earlier, other_arch}
use Rattle.macho_explain.proofs.entries.fat_duplicate.Goals as goal

pub returns-in_err-slice : goal.returns-in_err-slice
returns-in_err-slice c =
    rw c.from_residual-in_err-slice.ensures (λ has.
    has_arch (bytes_of c.args.file) c.in_ok-at.index c.in_ok-at.slice has.0 (c.in_ok-at.ensures.entry has.0).0 c.in_ok-at.ensures.listed c.in_err-slice.was)

pub returns-in_err-other-2 : goal.returns-in_err-other-2
returns-in_err-other-2 c =
    rw c.from_residual-in_err-other-2.ensures (λ has.
    let less = (c.in_ok-at.ensures.entry has.0).0 in
    has_arch (bytes_of c.args.file) c.loop-earlier.earlier c.in_ok-other.other has.0 (omega (arith, less, c.loop-earlier-test.true)) c.in_ok-other.ensures.listed c.in_err-other-2.was)

pub loop-earlier-preserved : goal.loop-earlier-preserved
loop-earlier-preserved c =
    let file = bytes_of c.args.file in
    let index = c.in_ok-at.index in
    let earlier = c.loop-earlier.earlier in
    λ (has : HasTable file).
    let less = (c.in_ok-at.ensures.entry has).0 in
    let own = entry_is file index c.in_ok-at.slice has less c.in_ok-at.ensures.listed in
    let its = entry_is file earlier c.in_ok-other.other has (omega (arith, less, c.loop-earlier-test.true)) c.in_ok-other.ensures.listed in
    let differ : c.in_ok-other-2.field-0 ≢ c.in_ok-slice.field-0 = λ same.
    let number : ℕ × ℕ → ℕ = λ (pair : ℕ × ℕ). pair.0 * 2 ^ 32 + pair.1 in
    c.if-arch_number-arch.false (c.arch_number.ensures ∙ ap number same ∙ sym c.arch_number-arch.ensures) in
    let none = other_arch file earlier index c.in_ok-other.other c.in_ok-at.slice its own c.in_ok-other-2.field-0 c.in_ok-slice.field-0 c.in_ok-other-2.was c.in_ok-slice.was differ in
    below_more (λ k. ¬ HaveSameArch file k index) earlier (c.loop-earlier.invariant has) none

pub returns : goal.returns
returns c =
    let file = bytes_of c.args.file in
    none_earlier (HaveSameArch file) file c.args.place c.in_ok-at.index c.in_ok-at.ensures.entry
    (λ has k less. c.loop-earlier.invariant has k (omega (arith, less, c.loop-earlier-test.false)))
