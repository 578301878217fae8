use Rattle.std.proofs.Common.{◌∙◌, sym, subst}
use Rattle.macho_fields.specs.Bytes.{bytes_of}
use Rattle.macho_commands.specs.States.{HasThreadEntry, IsRegisterState, IsEntryOf}
use Rattle.macho_commands.proofs.Given.{none_given, gives_none, given_both, same_value}
use Rattle.macho_commands.proofs.states.thread_entry_of.Goals as goal

pub returns-in_err-state : goal.returns-in_err-state
returns-in_err-state c =
    let bytes = bytes_of c.args.command in
    none_given (HasThreadEntry c.args.cputype bytes) c.from_residual.result c.from_residual.ensures
    (λ entry (state, is, has). gives_none (IsRegisterState c.args.cputype bytes) c.register_state.result c.in_err-state.was c.register_state.ensures.state state is)

pub returns : goal.returns
returns c =
    let bytes = bytes_of c.args.command in
    let is = c.in_ok-state.was in
    given_both (IsEntryOf c.args.cputype bytes c.in_ok-state.state) (HasThreadEntry c.args.cputype bytes) c.entry_of.result c.entry_of.ensures
    (λ entry. (
      λ has. (c.in_ok-state.state, (c.register_state.ensures.state c.in_ok-state.state).0 is, has),
      λ (state, there, has).
          subst (λ s. IsEntryOf c.args.cputype bytes s entry) (sym (same_value c.in_ok-state.state state (sym is ∙ (c.register_state.ensures.state state).1 there))) has,
    ))
