-- What a rule answers that may want memory.
use Rattle.std.proofs.Common.{◌≡◌, ℕ, Result, Ok, Err, IsErrAnd, sym, subst}
use Rattle.macho_fields.specs.Layers.{IsLeast}
use Rattle.macho_fields.specs.declared.rule.Break.{Break}
use Rattle.macho_fields.specs.declared.rule.Rule.{Rule}
use Rattle.macho_rules.specs.Check.{ContinuesWithMemory}
use Rattle.macho_rules.specs.Verdict.{IsRefusalOf}
use Rattle.macho_rules.specs.declared.refusal.Refusal.{Refusal}
use Rattle.macho_rules.specs.declared.refusal.Refusal.TheVariants as refusal

-- an answer that memory ran out, or that the rule is broken first of all
pub without_memory : {T : Type 0} (breaks : Rule → ℕ → Type 0) (r : Rule) (CanRunOut : Type 0) → CanRunOut → (answer : Result T Refusal) → IsErrAnd answer (λ given. given ≡ refusal.Memory)
    → ContinuesWithMemory breaks r CanRunOut answer
without_memory breaks r CanRunOut can (Ok x) is = absurd is
without_memory breaks r CanRunOut can (Err given) is = subst (IsRefusalOf breaks CanRunOut) (sym is) can

pub refused : {T : Type 0} (breaks : Rule → ℕ → Type 0) (r : Rule) (CanRunOut : Type 0) (b : Break) → IsLeast breaks b → (answer : Result T Refusal) → IsErrAnd answer (λ given. given ≡ refusal.Broken b)
    → ContinuesWithMemory breaks r CanRunOut answer
refused breaks r CanRunOut b least (Ok x) is = absurd is
refused breaks r CanRunOut b least (Err given) is = subst (IsRefusalOf breaks CanRunOut) (sym is) least
