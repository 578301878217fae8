use Rattle.std.proofs.Common.{◌∙◌, arith, below_more, inl, inr, sym}
use Rattle.std.specs.Prelude.{IsSomeAnd, slice_get}
use Rattle.std.proofs.lemmas.Bool.{both_ways, cases_lt}
use Rattle.macho_fields.proofs.Options.{some_has, some_of}
use Rattle.macho_explain.specs.Alike.{symbols_in, IsOther}
use Rattle.macho_explain.proofs.EarlierNames.{nothing_past}
use Rattle.macho_explain.proofs.definition.other_definition.Goals as goal

pub returns-then-not-defines_name : goal.returns-then-not-defines_name
returns-then-not-defines_name c = λ (k, less, has).
    let (other, at, is) = some_of (IsOther c.args.image.now c.args.symbol) (slice_get (symbols_in c.args.image.now) k) has in
    both_ways c.defines_name.result c.if-not-defines_name.true (c.defines_name.ensures.1 is.1)

pub returns-in_err-other : goal.returns-in_err-other
returns-in_err-other c = rw c.from_residual.ensures (λ (k, less, has).
    elim (cases_lt k c.loop-earlier.earlier) [
      | inl below ↦ c.loop-earlier.invariant k below has
      | inr past ↦ nothing_past (symbols_in c.args.image.now) c.loop-earlier.earlier k (IsOther c.args.image.now c.args.symbol) (sym c.symbol.ensures ∙ c.in_err-other.was) past has
    ])

pub loop-earlier-preserved : goal.loop-earlier-preserved
loop-earlier-preserved c =
    let symbols = symbols_in c.args.image.now in
    let earlier = c.loop-earlier.earlier in
    below_more (λ k. ¬ IsSomeAnd (slice_get symbols k) (IsOther c.args.image.now c.args.symbol)) earlier c.loop-earlier.invariant (λ has.
    both_ways c.is_other.result c.if-is_other.false
    (c.is_other.ensures.1 (some_has (IsOther c.args.image.now c.args.symbol) (slice_get symbols earlier) c.in_ok-other.other (sym c.symbol.ensures ∙ c.in_ok-other.was) has)))

pub returns : goal.returns
returns c = λ (k, less, has). c.loop-earlier.invariant k (omega (arith, less, c.loop-earlier-test.false)) has
