-- The states of a thread that have its registers, by the processor and the flavor.
-- (mach/i386/thread_status.h: x86_thread_state64_t, x86_thread_state_t with x86_state_hdr_t;
-- mach/arm/thread_status.h: arm_thread_state64_t)
use Rattle.std.specs.Prelude.{ℕ, ◌+◌, ◌*◌, ◌≤◌, ◌==◌, ◌&&◌, List, [], ◌∷◌, find, Option, None, Some}
use Rattle.std.specs.Option.{option_map}
use Rattle.macho_fields.specs.declared.header.machine.TheConstants as machine
use Rattle.macho_commands.specs.declared.registers.Registers.{Registers}
use Rattle.macho_commands.specs.declared.registers.StateHeader.{StateHeader}
use Rattle.macho_fields.specs.declared.header.thread_status.TheConstants as loader

pub record RegisterState : Type 0 where
  pub cputype : ℕ
  pub flavor : ℕ
  pub registers : Registers

-- a state whose words are the registers: how many words, and the offset of the entry in bytes
abbrev pub plain_state : ℕ → ℕ → ℕ → ℕ → RegisterState
plain_state cputype flavor count entry = record {
  cputype = cputype;
  flavor = flavor;
  registers = record { count = count; header = None; entry = entry };
}

-- one whose words begin with the flavor and the count of the registers that follow
abbrev pub headed_state : ℕ → ℕ → ℕ → ℕ → StateHeader → RegisterState
headed_state cputype flavor count entry header = record {
  cputype = cputype;
  flavor = flavor;
  registers = record { count = count; header = Some header; entry = entry };
}

-- rip is at 128 of x86_thread_state64_t, which x86_thread_state_t has after 8 bytes, and pc at 256 of
-- arm_thread_state64_t
abbrev pub register_states : List RegisterState
register_states =
    plain_state machine.CPU_TYPE_X86_64 loader.X86_THREAD_STATE64 42 128
    ∷ headed_state machine.CPU_TYPE_X86_64 loader.X86_THREAD_STATE 44 136
    (record { flavor = loader.X86_THREAD_STATE64; count = 42 })
    ∷ plain_state machine.CPU_TYPE_ARM64 loader.ARM_THREAD_STATE64 68 256
    ∷ []

-- what a state of the flavor has, if it has registers
abbrev pub registers_of : ℕ → ℕ → Option Registers
registers_of cputype flavor =
    option_map (λ state. state.registers)
    (find (λ state. (state.cputype == cputype) && (state.flavor == flavor)) register_states)

-- the entry and the header of registers lie in their words
pub record AreInside (registers : Registers) : Type 0 where
  pub entry : registers.entry + 8 ≤ 4 * registers.count
  pub header : 8 ≤ 4 * registers.count
