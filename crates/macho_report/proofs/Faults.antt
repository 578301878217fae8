-- What is returned at a fault.
use Rattle.std.proofs.Common.{◌≡◌, ℕ, Bool, List, Ok, Err, IsErrOf, IsTrue, inl, inr, refl, subst}
use Rattle.macho_fields.specs.declared.rule.Break.{Break}
use Rattle.macho_rules.specs.declared.refusal.Refusal.{Refusal}
use Rattle.macho_rules.specs.declared.refusal.Refusal.TheVariants.{Broken}
use Rattle.macho_text.proofs.Results.{no_fault, same_fault}
use Rattle.macho_report.specs.Judge.{IsRefusalBy}
use Rattle.macho_report.specs.Run.{FailsRight}
use Rattle.macho_report.specs.declared.outcome.RunFault.{RunFault}
use Rattle.macho_report.specs.declared.outcome.RunFault.TheVariants as fault

-- the break of a refusal is one that the file is refused for
pub refused_for : (refuses : List ℕ → Break → Type 0) (file : List ℕ) (why : Refusal) (b : Break) → why ≡ Broken b → IsRefusalBy refuses file why → refuses file b
refused_for refuses file why b is refused = subst (IsRefusalBy refuses file) is refused

-- a fault of memory is not a fault of writing
no_write_fault : {T : Type 0} → ¬ IsErrOf {T = T} (Err fault.Memory) fault.Write
no_write_fault is = cc

module _ {T : Type 0} (failed : Bool) (in_part unwritten : Type 0) where
  pub fails_not : (x : T) → FailsRight (Ok x) failed in_part unwritten
  fails_not x = record {
    write = λ e. absurd (no_fault x fault.Write e);
    prefix = λ e. absurd (no_fault x fault.Write e);
    faults = tt;
  }

  pub fails_to_write : IsTrue failed → in_part → FailsRight {T = T} (Err fault.Write) failed in_part unwritten
  fails_to_write fails wrote = record { write = λ _. fails; prefix = λ _. wrote; faults = inl refl }

  pub lacks_memory : unwritten → FailsRight {T = T} (Err fault.Memory) failed in_part unwritten
  lacks_memory kept = record {
    write = λ e. absurd (no_write_fault e);
    prefix = λ e. absurd (no_write_fault e);
    faults = inr (refl, kept);
  }

  -- the fault of a call, which returns something else
  pub fails_as : {U : Type 0} (whole : Type 0) (e : RunFault) → (in_part → whole) → FailsRight {T = U} (Err e) failed in_part unwritten → FailsRight {T = T} (Err e) failed whole unwritten
  fails_as whole e of h = record {
    write = λ is. h.write (same_fault e fault.Write is);
    prefix = λ is. of (h.prefix (same_fault e fault.Write is));
    faults = h.faults;
  }
