-- The fault of a rule is the fault of the file, whose bytes are the table's.
use Rattle.std.proofs.Common.{◌≡◌, ◌⊎◌, ℕ, List, Option, Some, None, Result, MatchResult, Ok, Err, IfErr, IsErrAnd, refl, sym, subst, inr}
use Rattle.std.proofs.lemmas.Bool.{false≢true}
use Rattle.macho_fields.specs.First.{rank}
use Rattle.macho_fields.specs.FirstPlace.{IsLeastPlace}
use Rattle.macho_fields.specs.Layers.{IsLeast, KeptBelow}
use Rattle.macho_fields.specs.Rules.{BreaksFile}
use Rattle.macho_fields.specs.Universal.{IsUniversal}
use Rattle.macho_fields.specs.declared.rule.Rule.{Rule}
use Rattle.macho_fields.specs.declared.rule.Rule.TheVariants as rule
use Rattle.macho_fields.specs.declared.rule.Break.{Break}
use Rattle.macho_fat.specs.declared.fault.FatFault.{FatFault}
use Rattle.macho_fat.specs.declared.fault.FatFault.TheVariants as fault
use Rattle.macho_fields.proofs.Layers.{kept_more, least_at}
use Rattle.macho_fat.specs.TableWalk.{IsRuleFault, ContinuesOrFaults, AnswersByFound}
use Rattle.macho_fat.specs.Slices.{IsFatFault, SortsEntries, slice_span, arch_span}

-- a fault of the table is passed on as one of the file
pub fault_passed : {T : Type 0} (table file : List ℕ) → table ≡ file → (answer : Result T FatFault) (found : FatFault) → IsErrAnd answer (λ given. given ≡ found)
    → IsFatFault table found → IfErr answer (IsFatFault file)
fault_passed table file same (Ok x) found is known = absurd is
fault_passed table file same (Err given) found is known = subst (IsFatFault file) (sym is) (subst (λ bytes. IsFatFault bytes found) same known)

-- so is a break
pub break_passed : {T : Type 0} (table file : List ℕ) → table ≡ file → (answer : Result T FatFault) (b : Break) → IsErrAnd answer (λ given. given ≡ fault.Broken b)
    → IsLeast (BreaksFile table) b → IfErr answer (IsFatFault file)
break_passed table file same answer b = fault_passed table file same answer (fault.Broken b)

-- and a fault of a rule for which memory may run out, since it sorts the entries
pub sorting_passed : {T : Type 0} {table file : List ℕ} {P : Type 0} (r : Rule) (answer : Result T FatFault) (found : FatFault) → table ≡ file → IsUniversal file
    → (KeptBelow (BreaksFile table) (rank r) × P → SortsEntries table rule.FatOverlap (slice_span table) ⊎ SortsEntries table rule.FatDuplicate (arch_span table))
    → IsErrAnd answer (λ given. given ≡ found) → IsRuleFault (BreaksFile table) r P found → IfErr answer (IsFatFault file)
sorting_passed {table = table} {file = file} {P = P} r answer found same universal sorts is known =
    fault_passed table file same answer found is (of_rule found known)
  where
    of_rule : (found : FatFault) → IsRuleFault (BreaksFile table) r P found → IsFatFault table found
    of_rule (fault.Broken b) least = least
    of_rule fault.Memory sorted = (subst IsUniversal (sym same) universal, inr (sorts sorted))

-- what is found of a rule is its answer, and so is want of memory where memory is asked for
pub found_judged : {T E : Type 0} (breaks : Rule → ℕ → Type 0) (r : Rule) (P : Type 0) (found : Result (Option ℕ) E) (answer : Result T FatFault) → KeptBelow breaks (rank r)
    → MatchResult found (IsLeastPlace (breaks r)) (λ _. P) → AnswersByFound r found answer → ContinuesOrFaults breaks r P answer
found_judged breaks r P (Ok None) (Ok x) kept none is = kept_more breaks r kept none
found_judged breaks r P (Ok None) (Err given) kept none is = absurd (false≢true is)
found_judged breaks r P (Ok (Some place)) (Ok x) kept first is = absurd is
found_judged breaks r P (Ok (Some place)) (Err given) kept (broken, least) is = subst (IsRuleFault breaks r P) (sym is) (least_at breaks r (record { rule = r; place = place }) kept (refl, broken, least))
found_judged breaks r P (Err e) (Ok x) kept asked is = absurd is
found_judged breaks r P (Err e) (Err given) kept asked is = subst (IsRuleFault breaks r P) (sym is) (kept, asked)
