-- What a run says of its input, from what it says of the bytes that it read.
use Rattle.std.proofs.Common.{◌≡◌, ℕ, ◌≤◌, List, Option, Some, None, Result, Ok, Err, IfOk, IsErrOf, length, inl, inr, refl, ap, arith, subst}
use Rattle.std.specs.Prelude.{◌⊎◌, ◌↔◌, ◌+◌, ◌<◌, IfErr, IfSome, IsTrue, OnOk}
use Rattle.std.specs.Io.KnownBytes.{IsAtEnd}
use Rattle.macho_text.specs.Stream.{TookAtMost}
use Rattle.macho_text.specs.declared.stream.Input as input
use Rattle.macho_text.specs.declared.transfer.ReadFault.{ReadFault}
use Rattle.macho_text.specs.declared.transfer.ReadFault.TheVariants.{Read, TooLong, Memory}
use Rattle.macho_report.specs.Run.{ReadsRight, run_fault_of}
use Rattle.macho_report.specs.declared.outcome.RunFault.{RunFault}
use Rattle.macho_report.specs.declared.outcome.RunFault.TheVariants as fault

-- what holds of the bytes that were read, at most `limit`, holds of the input
pub input_is : (input : Option (List ℕ)) (bytes : List ℕ) (limit : ℕ) (P : List ℕ → Type 0) → IfSome input (λ all. bytes ≡ all) → length bytes ≤ limit
    → P bytes → IfSome input (λ file. (length file ≤ limit) × P file)
input_is None bytes limit P is within h = tt
input_is (Some file) bytes limit P is within h = subst (λ all. (length all ≤ limit) × P all) is (within, h)

pub input_ok : {T E : Type 0} (input : Option (List ℕ)) (bytes : List ℕ) (limit : ℕ) (P : List ℕ → T → Type 0) (r : Result T E)
    → IfSome input (λ all. bytes ≡ all) → length bytes ≤ limit → IfOk r (P bytes) → IfOk r (λ found. IfSome input (λ file. (length file ≤ limit) × P file found))
input_ok input bytes limit P (Err fault) is within h = tt
input_ok input bytes limit P (Ok found) is within h = input_is input bytes limit (λ file. P file found) is within h

-- a fault of reading, which the run returns as its own
fault_passed : {T U : Type 0} (e f : ReadFault) → IsErrOf {T = T} (Err (run_fault_of e)) (run_fault_of f) → IsErrOf {T = U} (Err e) f
fault_passed Read Read is = refl
fault_passed Read TooLong is = absurd (cc)
fault_passed Read Memory is = absurd (cc)
fault_passed TooLong Read is = absurd (cc)
fault_passed TooLong TooLong is = refl
fault_passed TooLong Memory is = absurd (cc)
fault_passed Memory Read is = absurd (cc)
fault_passed Memory TooLong is = absurd (cc)
fault_passed Memory Memory is = refl

fault_passes : {T U : Type 0} (e f : ReadFault) → IsErrOf {T = T} (Err e) f → IsErrOf {T = U} (Err (run_fault_of e)) (run_fault_of f)
fault_passes e f is = let same : e ≡ f = cc in ap (λ x. Err (run_fault_of x)) same

pub reading_not_writing : {T : Type 0} (e : ReadFault) → ¬ IsErrOf {T = T} (Err (run_fault_of e)) fault.Write
reading_not_writing Read is = cc
reading_not_writing TooLong is = cc
reading_not_writing Memory is = cc

-- a fault after all was read: of writing, or of memory, where nothing was written
abbrev AfterReading : {T : Type 0} → Result T RunFault → Type 0 → Type 0
AfterReading r unwritten = IfErr r (λ e. (e ≡ fault.Write) ⊎ ((e ≡ fault.Memory) × unwritten))

not_reading : {T : Type 0} (r : Result T RunFault) (unwritten : Type 0) → AfterReading r unwritten → ¬ IsErrOf r fault.Read
not_reading (Ok x) unwritten h is = cc
not_reading (Err e) unwritten (inl write) is = cc
not_reading (Err e) unwritten (inr (memory, kept)) is = cc

not_too_long : {T : Type 0} (r : Result T RunFault) (unwritten : Type 0) → AfterReading r unwritten → ¬ IsErrOf r fault.TooLong
not_too_long (Ok x) unwritten h is = cc
not_too_long (Err e) unwritten (inl write) is = cc
not_too_long (Err e) unwritten (inr (memory, kept)) is = cc

pub write_or_unwritten : {T : Type 0} (r : Result T RunFault) (unwritten : Type 0) → AfterReading r unwritten → IfErr r (λ e. (e ≡ fault.Write) ⊎ unwritten)
write_or_unwritten (Ok x) unwritten h = tt
write_or_unwritten (Err e) unwritten (inl write) = inl write
write_or_unwritten (Err e) unwritten (inr (memory, kept)) = inr kept

-- what holds anyway holds at `Ok`
at_ok : {T E : Type 0} (r : Result T E) (P : Type 0) → P → OnOk r P
at_ok (Ok x) P h = h
at_ok (Err e) P h = tt

-- all of the input is within the limit
took_all : (old new : Option (List ℕ)) (bytes : List ℕ) (limit : ℕ) → IfSome old (λ all. bytes ≡ all) → length bytes ≤ limit → TookAtMost limit old new
took_all None new bytes limit is within = tt
took_all (Some x) None bytes limit is within = tt
took_all (Some x) (Some y) bytes limit is within = omega (arith, ap length is)

-- What a run says of its reading, by what is said of the bytes that it reads.
module _ {R T : Type 0} (i : input.Ghosts R) (limit : ℕ) (old new : R) where
  pub reading_fails : {U : Type 0} (e : ReadFault)
      → IsErrOf {T = U} (Err e) Read ↔ IsTrue (i.has_failed new)
      → (IsErrOf {T = U} (Err e) TooLong → IfSome (i.remaining old) (λ all. limit < length all))
      → (IsErrOf {T = U} (Err e) TooLong → TookAtMost (limit + 1) (i.remaining old) (i.remaining new))
      → (IsErrOf {T = U} (Err e) Memory → TookAtMost limit (i.remaining old) (i.remaining new))
      → i.reads new ≤ i.reads old + limit + 1 → ReadsRight {T = T} i limit old new (Err (run_fault_of e))
  reading_fails e read too_long one_too_many memory few = record {
    at_end = tt;
    read = ((λ is. read.0 (fault_passed e Read is)), (λ failed. fault_passes e Read (read.1 failed)));
    too_long = λ is. too_long (fault_passed e TooLong is);
    one_too_many = λ is. one_too_many (fault_passed e TooLong is);
    memory = λ is. memory (fault_passed e Memory is);
    few_reads = few;
  }

  pub reading_ends : (r : Result T RunFault) (unwritten : Type 0) (bytes : List ℕ) → AfterReading r unwritten
      → IfSome (i.remaining old) (λ all. bytes ≡ all) → length bytes ≤ limit
      → IsAtEnd (i.remaining new) → ¬ IsTrue (i.has_failed new) → i.reads new ≤ i.reads old + limit + 1 → ReadsRight i limit old new r
  reading_ends r unwritten bytes faults all within end working few = record {
    at_end = at_ok r (IsAtEnd (i.remaining new)) end;
    read = ((λ is. absurd (not_reading r unwritten faults is)), (λ failed. absurd (working failed)));
    too_long = λ is. absurd (not_too_long r unwritten faults is);
    one_too_many = λ is. absurd (not_too_long r unwritten faults is);
    memory = λ _. took_all (i.remaining old) (i.remaining new) bytes limit all within;
    few_reads = few;
  }
