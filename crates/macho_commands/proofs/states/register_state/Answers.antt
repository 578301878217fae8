use Rattle.std.proofs.Common.{◌∙◌, ℕ, Option, None, Some, refl, sym, subst, arith}
use Rattle.std.proofs.lemmas.Bool.{false≢true}
use Rattle.macho_fields.specs.Bytes.{bytes_of}
use Rattle.macho_commands.specs.States.{IsRegisterState}
use Rattle.macho_commands.proofs.Given.{none_given}
use Rattle.macho_commands.proofs.ThreadStates.{IsLeft, passed_state, found_state, second_state, no_state, ended_states, was_none, was_some}
use Rattle.macho_commands.proofs.states.register_state.Goals as goal

pub returns-in_err-next-clause-state : goal.returns-in_err-next-clause-state
returns-in_err-next-clause-state c =
    let bytes = bytes_of c.args.command in
    none_given (IsRegisterState c.args.cputype bytes) c.from_residual.result c.from_residual.ensures
    (λ state is. no_state c.args.cputype bytes c.loop-state.state c.loop-state.found state (omega (arith, c.loop-state-test.true, c.len.ensures.count))
    (λ within. false≢true (c.in_err-next.ensures.inside.1 within)) ((c.loop-state.invariant.left state).1 is))

pub returns-then-is_some-clause-state : goal.returns-then-is_some-clause-state
returns-then-is_some-clause-state c =
    let bytes = bytes_of c.args.command in
    let (other, was) = was_some c.loop-state.found (sym c.is_some.ensures ∙ c.if-is_some.true) in
    none_given (IsRegisterState c.args.cputype bytes) None refl
    (λ state is. second_state c.args.cputype bytes c.loop-state.state other state (omega (arith, c.loop-state-test.true, c.len.ensures.count)) (sym c.has_registers.ensures ∙ c.if-has_registers.true)
    (subst (λ (found : Option ℕ). IsLeft c.args.cputype bytes c.loop-state.state found state) was ((c.loop-state.invariant.left state).1 is)))

pub loop-state-preserved-else-is_some : goal.loop-state-preserved-else-is_some
loop-state-preserved-else-is_some c =
    let bytes = bytes_of c.args.command in
    let end = c.in_ok-next.ensures.end in
    let within = c.in_ok-next.ensures.inside.0 refl in
    let none = was_none c.loop-state.found (sym c.is_some.ensures ∙ c.if-is_some.false) in
    record {
      within = omega (arith, end, within);
      inside = within;
      left = λ state.
          let (to, from) = found_state c.args.cputype bytes c.loop-state.state state (omega (arith, c.loop-state-test.true, c.len.ensures.count)) within (sym c.has_registers.ensures ∙ c.if-has_registers.true) in
          let (back, on) = c.loop-state.invariant.left state in
          let there : ℕ → Type 0 = λ p. IsLeft c.args.cputype bytes p (Some c.loop-state.state) state in
          let then : Option ℕ → Type 0 = λ found. IsLeft c.args.cputype bytes c.loop-state.state found state in
          (λ left. back (subst then (sym none) (to (subst there end left))), λ is. subst there (sym end) (from (subst then none (on is))));
    }

pub loop-state-preserved : goal.loop-state-preserved
loop-state-preserved c =
    let bytes = bytes_of c.args.command in
    let end = c.in_ok-next.ensures.end in
    let within = c.in_ok-next.ensures.inside.0 refl in
    record {
      within = omega (arith, end, within);
      inside = c.loop-state.invariant.inside;
      left = λ state.
          let (to, from) = passed_state c.args.cputype bytes c.loop-state.state c.loop-state.found state (omega (arith, c.loop-state-test.true, c.len.ensures.count)) within (sym c.has_registers.ensures ∙ c.if-has_registers.false) in
          let (back, on) = c.loop-state.invariant.left state in
          let there : ℕ → Type 0 = λ p. IsLeft c.args.cputype bytes p c.loop-state.found state in
          (λ left. back (to (subst there end left)), λ is. subst there (sym end) (from (on is)));
    }

pub returns-clause-state : goal.returns-clause-state
returns-clause-state c = λ state.
    let ended = ended_states c.args.cputype (bytes_of c.args.command) c.loop-state.state c.loop-state.found state (omega (arith, c.loop-state-test.false, c.len.ensures.count, c.loop-state.invariant.within)) in
    let (back, on) = c.loop-state.invariant.left state in
    (λ is. back (ended.0 is), λ is. ended.1 (on is))
