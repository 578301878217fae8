-- What holds of each opcode: what two streams say by it is alike, as it is where they have one kind of operands.
use Rattle.std.proofs.Common.{◌≡◌, ℕ, ◌*◌, ◌<◌, ◌==◌, Bool, true, false, List, Option, Some, None, refl, arith, inl, inr}
use Rattle.std.specs.Prelude.{cond, bit_and}
use Rattle.std.proofs.lemmas.Bool.{cases_Bool, eqb-true}
use Rattle.std.proofs.lemmas.Nat.{and_mask}
use Rattle.macho_opcodes.specs.Steps.{with_number, with_count_and_skip, with_addend, with_name, pointer_type, last_step, special_step, rebase_step, bind_step, IsLastOpcode, opcode_step}
use Rattle.macho_opcodes.specs.declared.step.Opcodes.{Opcodes}
use Rattle.macho_opcodes.specs.declared.step.Opcodes.TheVariants as opcodes
use Rattle.macho_opcodes.specs.declared.step.Step.{Step}
use Rattle.macho_opcodes.specs.declared.step.Step.TheVariants as step

-- the segment of the step, if it has one, is one of the first 16
abbrev pub IsNearStep : Step → Type 0
IsNearStep (step.SetSegment segment offset) = segment < 16
IsNearStep other = Unit {0}

imm_near : (byte : ℕ) → bit_and byte 0x0f < 16
imm_near byte = let low = and_mask byte 4 in omega (arith, low)

special_near : (imm : ℕ) → IsNearStep (special_step imm)
special_near imm = elim (cases_Bool (imm == 0)) [ inl t ↦ rw t tt | inr f ↦ rw f tt ]

module _ (Alike : Option (Step × ℕ) → Option (Step × ℕ) → Type 0) where
  case : (b : Bool) (x y v w : Option (Step × ℕ)) → (b ≡ true → Alike x v) → Alike y w → Alike (cond b x y) (cond b v w)
  case true x y v w first second = first refl
  case false x y v w first second = second

  -- of each kind of operands at a place
  pub record Operands (xs ys : List ℕ) (next : ℕ) : Type 0 where
    pub none : Alike None None
    pub plain : (s : Step) → IsNearStep s → Alike (Some (s, next)) (Some (s, next))
    pub number : (say : ℕ → Step) → ((n : ℕ) → IsNearStep (say n)) → Alike (with_number say xs next) (with_number say ys next)
    pub numbers : Alike (with_count_and_skip xs next) (with_count_and_skip ys next)
    pub addend : Alike (with_addend xs next) (with_addend ys next)
    pub name : (flags : ℕ) → Alike (with_name flags xs next) (with_name flags ys next)

  module _ (xs ys : List ℕ) (next : ℕ) (same : Operands xs ys next) (byte : ℕ) where
    pointer : (wanted imm : ℕ) → Alike (pointer_type wanted imm next) (pointer_type wanted imm next)
    pointer wanted imm = case (imm == wanted) _ _ _ _ (λ is. same.plain step.SetPointer tt) same.none

    rebase_alike : (bit_and byte 0xf0 == 0 ≡ true → Alike (last_step xs next) (last_step ys next)) → Alike (rebase_step xs byte next) (rebase_step ys byte next)
    unfolding rebase_step
    rebase_alike last =
        let is_code = λ (code : ℕ). bit_and byte 0xf0 == code in
        let imm = bit_and byte 0x0f in
        case (is_code 0x0) _ _ _ _ last
        (case (is_code 0x10) _ _ _ _ (λ is. pointer 1 imm)
        (case (is_code 0x20) _ _ _ _ (λ is. same.number (step.SetSegment imm) (λ n. imm_near byte))
        (case (is_code 0x30) _ _ _ _ (λ is. same.number step.AddOffset (λ n. tt))
        (case (is_code 0x40) _ _ _ _ (λ is. same.plain (step.AddOffset (imm * 8)) tt)
        (case (is_code 0x50) _ _ _ _ (λ is. same.plain (step.Write imm 0) tt)
        (case (is_code 0x60) _ _ _ _ (λ is. same.number (λ count. step.Write count 0) (λ n. tt))
        (case (is_code 0x70) _ _ _ _ (λ is. same.number (step.Write 1) (λ n. tt))
        (case (is_code 0x80) _ _ _ _ (λ is. same.numbers) same.none))))))))

    bind_alike : Alike (bind_step xs byte next) (bind_step ys byte next)
    unfolding bind_step
    bind_alike =
        let is_code = λ (code : ℕ). bit_and byte 0xf0 == code in
        let imm = bit_and byte 0x0f in
        case (is_code 0x10) _ _ _ _ (λ is. same.plain (step.SetLibrary imm) tt)
        (case (is_code 0x20) _ _ _ _ (λ is. same.number step.SetLibrary (λ n. tt))
        (case (is_code 0x30) _ _ _ _ (λ is. same.plain (special_step imm) (special_near imm))
        (case (is_code 0x40) _ _ _ _ (λ is. same.name imm)
        (case (is_code 0x50) _ _ _ _ (λ is. pointer 1 imm)
        (case (is_code 0x60) _ _ _ _ (λ is. same.addend)
        (case (is_code 0x70) _ _ _ _ (λ is. same.number (step.SetSegment imm) (λ n. imm_near byte))
        (case (is_code 0x80) _ _ _ _ (λ is. same.number step.AddOffset (λ n. tt))
        (case (is_code 0x90) _ _ _ _ (λ is. same.plain (step.Write 1 0) tt)
        (case (is_code 0xa0) _ _ _ _ (λ is. same.number (step.Write 1) (λ n. tt))
        (case (is_code 0xb0) _ _ _ _ (λ is. same.plain (step.Write 1 (imm * 8)) tt)
        (case (is_code 0xc0) _ _ _ _ (λ is. same.numbers) same.none)))))))))))

    pub opcode_alike : (of : Opcodes) → (IsLastOpcode of byte → Alike (last_step xs next) (last_step ys next)) → Alike (opcode_step of xs byte next) (opcode_step of ys byte next)
    opcode_alike opcodes.Rebase last = rebase_alike (λ is. last (eqb-true (bit_and byte 0xf0) 0 is))
    opcode_alike opcodes.Bind last = case (bit_and byte 0xf0 == 0) _ _ _ _ (λ is. last (eqb-true (bit_and byte 0xf0) 0 is)) bind_alike
    opcode_alike opcodes.LazyBind last = case (bit_and byte 0xf0 == 0) _ _ _ _ (λ is. same.plain step.Done tt) bind_alike
