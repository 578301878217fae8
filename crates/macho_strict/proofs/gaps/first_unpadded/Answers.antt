use Rattle.std.proofs.Common.{◌≡◌, ◌+◌, ◌-◌, ◌≤◌, ◌<◌, sym, ◌∙◌, subst, arith, inl, inr}
use Rattle.std.specs.Prelude.{IsSome, true}
use Rattle.std.proofs.lemmas.Bool.{cases_lt, cases_eq, false≢true}
use Rattle.macho_fields.specs.Bytes.{bytes_of}
use Rattle.macho_fields.specs.FirstPlace.{IsLeastPlace}
use Rattle.macho_fields.specs.NonZero.{HasNonZero}
use Rattle.macho_spans.specs.Span.{end_of, Holds}
use Rattle.macho_strict.specs.Gaps.{IsUnpadded}
use Rattle.macho_strict.specs.Nops.{is_nop}
use Rattle.macho_strict.proofs.Disjoints.{padded}
use Rattle.macho_strict.proofs.gaps.first_unpadded.Goals as goal

pub returns-in_err-place : goal.returns-in_err-place
returns-in_err-place c =
    let bytes = bytes_of c.args.bytes in
    let start = c.loop-start.start in
    let none : ¬ HasNonZero bytes start (start + (c.min-end.result - start)) = λ has. false≢true (subst IsSome c.in_err-place.was (c.first_nonzero.ensures.found.1 has)) in
    subst (IsLeastPlace (λ place. (c.args.span.start ≤ place) × (place < end_of c.args.span) × IsUnpadded c.args.cpu c.args.code.now bytes place)) (sym c.from_residual.ensures)
    (λ p (low, high, is). elim (cases_lt p start) [
      | inl before ↦ c.loop-start.invariant.none p low before is
      | inr from ↦ none (p, from, omega (arith, high, is.0.0, c.end.ensures, c.from.ensures, c.len.ensures.count, c.min-end.ensures), is.0)
    ])

pub loop-start-preserved : goal.loop-start-preserved
loop-start-preserved c = record {
  after = omega (arith, c.loop-start.invariant.after, c.in_ok-place.ensures.nonzero, c.nops_end-start.ensures.after);
  none = λ p low high is.
      let bytes = bytes_of c.args.bytes in
      let place = c.in_ok-place.place in
      let part = c.in-Some.part in
      elim (cases_lt p c.loop-start.start) [
        | inl before ↦ c.loop-start.invariant.none p low before is
        | inr from ↦
            elim (cases_lt p place) [
              | inl zero ↦ c.in_ok-place.ensures.first (p, from, zero, is.0)
              | inr past ↦
                  let held : Holds part p = (
                    omega (arith, past, c.in-Some.ensures.1),
                    omega (arith, high, c.nops_end-start.ensures.before, c.min-limit.ensures, c.end-in-loop-start.ensures, c.from-in-loop-start.ensures),
                  ) in
                  let nop : is_nop c.args.cpu bytes p ≡ true = elim (cases_eq p place) [
                    | inl same ↦ subst (λ k. is_nop c.args.cpu bytes k ≡ true) (sym same) (sym c.is_nop.ensures ∙ c.if-not-is_nop.false)
                    | inr other ↦ c.nops_end-start.ensures.nops p (omega arith) high
                  ] in
                  padded c.args.cpu c.args.code.now bytes p part c.in-Some.ensures.0 held nop is
            ]
      ];
}
