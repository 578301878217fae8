-- What the words ask for, from what `clap` says of its matches.
use Rattle.std.proofs.Common.{◌≡◌, ◌⊎◌, ◌∙◌, ◌<◌, ◌==◌, Bool, true, false, map, length, List, [], ◌∷◌}
use Rattle.std.proofs.Common.{arith, refl, sym, ap, subst, inl, inr, codes, Option, Some, None, Result, Ok, Err, option_map}
use Rattle.std.specs.Prelude.{IsErrAnd}
use Rattle.std.proofs.lemmas.Option.{same_Some}
use Rattle.clap.specs.Words.{App, IsAmong, Kinds, Row, Text, fault_of, subcommand_of}
use Rattle.clap.specs.declared.error.kind.ErrorKind.{ErrorKind}
use Rattle.clap.specs.declared.error.kind.ErrorKind.TheVariants.{OutOfMemory}
use Rattle.macho_words.specs.Asked.{Answers, AnswersFault, Asked, asked_unless}
use Rattle.macho_words.specs.declared.task.Task.{Task}
use Rattle.macho_words.specs.declared.words.Request.{Request}
use Rattle.macho_words.specs.declared.words.WordFault.{WordFault}
use Rattle.macho_words.specs.declared.words.WordFault.TheVariants.{Usage, Memory}
use Rattle.macho_words.specs.Words.{AnswersRequest, asked_in, asked_of, asked_under, verdict, check_or_where, word_fault_of}

-- what holds of a simple command that was built holds of the command of a program that it is
pub of_known : (is_such : App → Bool) (P : App → Type 0) (app known : App) → app ≡ known → is_such known ≡ true → (is_such app ≡ true → P app) → P known
of_known is_such P app known is such holds = subst P is (holds (ap is_such is ∙ such))

pub some_words : {X : Type 0} (text : X → Text) (words : List X) (empty : Bool) → empty ≡ (length words == 0) → empty ≡ false → 0 < length (map text words)
some_words text [] empty is not = let bad : true ≡ false = sym is ∙ not in cc
some_words text (word ∷ words) empty is not = omega arith

-- no words ask for a check of standard input
no_words : {X : Type 0} (text : X → Text) (words : List X) (empty : Bool) → empty ≡ (length words == 0) → empty ≡ true → map text words ≡ []
no_words text [] empty is holds = refl
no_words text (word ∷ words) empty is holds = grind (arith, is, holds)

asked_of_none : (words : List Text) (name : Text) → words ≡ [] → name ≡ codes "-" → asked_of words ≡ Ok (verdict name)
asked_of_none words name none is = rw (none, is) refl

pub asked_where_empty : {X : Type 0} (text : X → Text) (words : List X) (empty : Bool) (name : Text) → empty ≡ (length words == 0) → empty ≡ true → name ≡ codes "-"
    → asked_of (map text words) ≡ Ok (verdict name)
asked_where_empty text words empty name is holds name_is = asked_of_none (map text words) name (no_words text words empty is holds) name_is

-- a subcommand, by its name and by its rows
pub subcommand_met : {X : Type 0} (o : Option X) (f : X → Text × List Row) (name : Text) (rows : List Row)
    → Some name ≡ option_map (λ x. (f x).0) o → Some rows ≡ option_map (λ p. p.1) (option_map f o) → option_map f o ≡ Some (name, rows)
subcommand_met None f name rows name_is rows_are = cc
subcommand_met (Some x) f name rows name_is rows_are =
    ap Some (rw (same_Some _ _ name_is, same_Some _ _ rows_are) refl)

pub no_subcommand : {X : Type 0} (given : Option X) (f : X → List Row) (o : Option (Text × List Row)) → given ≡ None → option_map f given ≡ option_map (λ p. p.1) o → o ≡ None
no_subcommand None f None is rows = refl
no_subcommand None f (Some x) is rows = absurd (cc)
no_subcommand (Some y) f o is rows = absurd (cc)

asked_of_some : (words : List Text) → 0 < length words
    → asked_unless (fault_of check_or_where words) (asked_under (subcommand_of check_or_where words)) ≡ asked_of words
asked_of_some [] some = absurd (omega arith)
asked_of_some (word ∷ words) some = refl

-- the answer of a subcommand that `clap` takes
taken : (faults : Kinds) (sub : Option (Text × List Row)) (name : Text) (rows : List Row) (r : Result Request WordFault)
    → faults ≡ [] → sub ≡ Some (name, rows) → AnswersRequest r (asked_in name rows) → AnswersRequest r (asked_unless faults (asked_under sub))
taken faults sub name rows r none met answers = rw (none, met) answers

pub asked_and_taken : (words : List Text) (name : Text) (rows : List Row) (r : Result Request WordFault) → 0 < length words
    → fault_of check_or_where words ≡ [] → subcommand_of check_or_where words ≡ Some (name, rows) → AnswersRequest r (asked_in name rows)
    → AnswersRequest r (asked_of words)
asked_and_taken words name rows r some none met answers = subst (AnswersRequest r) (asked_of_some words some) (taken _ _ name rows r none met answers)

-- `clap` takes the words, and no subcommand is among them
without_subcommand : (faults : Kinds) (sub : Option (Text × List Row)) → faults ≡ [] → sub ≡ None → asked_unless faults (asked_under sub) ≡ Err Usage
without_subcommand faults sub none is = rw (none, is) refl

pub asked_without_subcommand : (words : List Text) → 0 < length words → fault_of check_or_where words ≡ [] → subcommand_of check_or_where words ≡ None
    → asked_of words ≡ Err Usage
asked_without_subcommand words some none is = sym (asked_of_some words some) ∙ without_subcommand _ _ none is

-- a fault of `clap` is about the words, or about memory
usage_or_memory : (kind : ErrorKind) → (word_fault_of kind ≡ Usage) ⊎ (word_fault_of kind ≡ Memory)
usage_or_memory OutOfMemory = inr refl
usage_or_memory _ = inl refl

-- the fault of words that `clap` refuses
refusal : {J : Type 0} (faults : Kinds) (asked : Result (Asked J) WordFault) (kind : ErrorKind) (fault : WordFault) → (kind ≡ OutOfMemory) ⊎ IsAmong kind faults
    → fault ≡ word_fault_of kind → AnswersFault fault (asked_unless faults asked)
refusal faults asked kind fault (inl memory) is = let out : fault ≡ Memory = is ∙ ap word_fault_of memory in rw out tt
refusal [] asked kind fault (inr among) is = absurd among
refusal (k ∷ ks) asked kind fault (inr among) is = elim (usage_or_memory kind) [
  | inl usage ↦ let out : fault ≡ Usage = is ∙ usage in rw out refl
  | inr memory ↦ let out : fault ≡ Memory = is ∙ memory in rw out tt
]

-- the answer to such words
pub refused : {J : Type 0} (faults : Kinds) (asked : Result (Asked J) WordFault) (kind : ErrorKind) (r : Result (Task J) WordFault) → (kind ≡ OutOfMemory) ⊎ IsAmong kind faults
    → IsErrAnd r (λ fault. fault ≡ word_fault_of kind) → Answers r (asked_unless faults asked)
refused faults asked kind (Ok task) why is = absurd is
refused faults asked kind (Err fault) why is = refusal faults asked kind fault why is

pub asked_and_refused : (words : List Text) (kind : ErrorKind) (r : Result Request WordFault) → 0 < length words
    → (kind ≡ OutOfMemory) ⊎ IsAmong kind (fault_of check_or_where words) → IsErrAnd r (λ fault. fault ≡ word_fault_of kind) → AnswersRequest r (asked_of words)
asked_and_refused words kind (Ok request) some why is = absurd is
asked_and_refused words kind (Err fault) some why is = subst (AnswersRequest (Err fault)) (asked_of_some words some) (refusal _ _ kind fault why is)
