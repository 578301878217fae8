use Rattle.std.proofs.Common.{◌↔◌, ℕ, ◌-◌, ◌≤◌, length}
use Rattle.std.specs.Prelude.{IfSome}
use Rattle.macho_fields.specs.Bytes.{bytes_of}
use Rattle.macho_commands.specs.States.{state_end, IsRegisterState}
use Rattle.macho_commands.proofs.ThreadStates.{IsLeft}
use Rattle.macho_commands.proofs.states.register_state.Given as goal

-- the states from here on, with the state that was found, belong to the thread
abbrev pub invariant-loop-state : goal.invariant-loop-state
invariant-loop-state l = record {
  within : l.state ≤ length (bytes_of l.command);
  inside : IfSome l.found (λ state. state_end (bytes_of l.command) state ≤ length (bytes_of l.command));
  left : (state : ℕ) → IsLeft l.cputype (bytes_of l.command) l.state l.found state ↔ IsRegisterState l.cputype (bytes_of l.command) state;
}

abbrev pub decreases-loop-state : goal.decreases-loop-state
decreases-loop-state l = length (bytes_of l.command) - l.state
