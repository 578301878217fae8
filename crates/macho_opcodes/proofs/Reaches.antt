-- How far some pointers reach, where the bytes between two of them are capped.
use Rattle.std.proofs.Common.{ℕ, ◌+◌, ◌-◌, ◌*◌, ◌^◌, ◌≤◌, ◌<◌, ◌↔◌, zero, suc, inl, inr, arith}
use Rattle.std.specs.Prelude.{min}
use Rattle.std.proofs.lemmas.Bool.{cases_lt}
use Rattle.std.proofs.Math.Nat.{min-eq_left, min-eq_right}
use Rattle.macho_opcodes.specs.Streams.{reach}

strides : (offset steps skip room : ℕ) → 2 ^ 64 - 9 ≤ skip → room < 2 ^ 64
    → (offset + steps * (8 + (2 ^ 64 - 9)) + 8 ≤ room) ↔ (offset + steps * (8 + skip) + 8 ≤ room)
strides offset zero skip room long small = (λ fits. omega arith, λ fits. omega arith)
strides offset (suc steps) skip room long small = (λ fits. absurd (omega arith), λ fits. absurd (omega arith))

-- no segment has room for two pointers with a stride of 2^64 - 1, so a longer one is taken for it
pub capped_reach : (offset count skip room : ℕ) → room < 2 ^ 64
    → (reach offset count (min skip (2 ^ 64 - 9)) ≤ room) ↔ (reach offset count skip ≤ room)
capped_reach offset count skip room small =
    elim (cases_lt skip (2 ^ 64 - 9)) [
      | inl short ↦ let less : skip ≤ 2 ^ 64 - 9 = omega arith in rw (min-eq_left less) (λ fits. fits, λ fits. fits)
      | inr long ↦ rw (min-eq_right long) (strides offset (count - 1) skip room long small)
    ]
