use Rattle.std.proofs.Common.{◌≡◌, ◌∙◌, ℕ, List, Bool, true, false, Option, Some, None, Result, Ok, Err, IfOk, IfSome, length, codes, refl, inl, inr, ap, sym, ◌<◌, ◌^◌, rules}
use Rattle.std.specs.Prelude.{⊤}
use Rattle.std.specs.Str.{bytes_eq}
use Rattle.std.proofs.lemmas.Slice.Eq.{bytes_eq-Decides}
use Rattle.macho_text.specs.declared.stream.Input as input
use Rattle.macho_text.specs.declared.stream.Output as output
use Rattle.macho_text.specs.declared.stream.Flush as flush
use Rattle.macho_report.specs.declared.judge.Judge as judge
use Rattle.macho_program.specs.Program.{EndsRight, ShowsRight, IsOfStandardInput, WroteFound, WroteFoundPrefix}
use Rattle.macho_words.specs.Asked.{Asked, asked_by, shows, asks}
use Rattle.macho_words.specs.declared.task.Question.TheVariants as question
use Rattle.macho_program.specs.declared.program.Found.{Found}
use Rattle.macho_program.specs.declared.program.Found.TheVariants as kind
use Rattle.macho_program.specs.declared.program.ProgramFault.{ProgramFault}
use Rattle.macho_program.proofs.program.find_asked.Goals as goal

-- a run over standard input, whose bytes are those asked about
in_standard : {R W : Type 0} {i : input.Ghosts R} {o : output.Ghosts W} {f : flush.Ghosts W} {J : Type 0} (j : judge.Ghosts J) (asked : Asked J) (words : Result (Asked J) ProgramFault)
    (bytes : Asked J → Option (List ℕ)) (standard standard' : R) (writer writer' : W) (end : Result Found ProgramFault)
    → words ≡ Ok asked → IsOfStandardInput asked → bytes asked ≡ i.remaining standard
    → EndsRight j i o f (Ok asked) (λ _. i.remaining standard) (λ _. ⊤) standard standard' writer writer' end
    → EndsRight j i o f words bytes IsOfStandardInput standard standard' writer writer' end
in_standard j asked words bytes standard standard' writer writer' end is named known h = rw is record {
  found = rw known h.found;
  at_end = λ _. h.at_end tt;
  flushed = h.flushed;
  no_image = h.no_image;
  faults = h.faults;
  read = λ _. h.read tt;
  memory = λ _. h.memory tt;
  one_too_many = λ _. h.one_too_many tt;
  few_reads = λ _. h.few_reads tt;
  too_long = λ e. rw known (h.too_long e);
  write = h.write;
  prefix = λ e. rw known (h.prefix e);
  unwritten = h.unwritten;
  unread = λ other. absurd (other named);
}

is_standard : (name file : List ℕ) (eq : Bool) → name ≡ file → eq ≡ bytes_eq name (codes "-") → eq ≡ true → bytes_eq file (codes "-") ≡ true
is_standard name file eq name_is eq_is holds = ap (λ (n : List ℕ). bytes_eq n (codes "-")) (sym name_is) ∙ (sym eq_is ∙ holds)

is_named : (name : List ℕ) → bytes_eq name (codes "-") ≡ true → name ≡ codes "-"
is_named name = (bytes_eq-Decides name (codes "-")).0

-- what is found of the bytes that a file gives, where the bytes of its name are known
found_in : {J : Type 0} (j : judge.Ghosts J) (asked : Asked J) (known given old new : Option (List ℕ)) (end : Result Found ProgramFault) → IfSome known (λ all. given ≡ Some all)
    → IfOk end (λ what. WroteFound j asked given what old new) → IfOk end (λ what. WroteFound j asked known what old new)
found_in j asked (Some all) given old new end is wrote = rw is at wrote
found_in j asked None given old new (Err fault) is wrote = tt
found_in j (shows text) None given old new (Ok kind.Shown) is wrote = wrote
found_in j (shows text) None given old new (Ok (kind.Check outcome)) is wrote = absurd wrote
found_in j (shows text) None given old new (Ok (kind.Where outcome)) is wrote = absurd wrote
found_in j (asks name (question.Verdict who)) None given old new (Ok (kind.Check outcome)) is wrote = tt
found_in j (asks name (question.Address slice address)) None given old new (Ok (kind.Where outcome)) is wrote = tt
found_in j (asks name (question.Verdict who)) None given old new (Ok (kind.Where outcome)) is wrote = absurd wrote
found_in j (asks name (question.Verdict who)) None given old new (Ok kind.Shown) is wrote = absurd wrote
found_in j (asks name (question.Address slice address)) None given old new (Ok (kind.Check outcome)) is wrote = absurd wrote
found_in j (asks name (question.Address slice address)) None given old new (Ok kind.Shown) is wrote = absurd wrote

prefix_in : {J : Type 0} (j : judge.Ghosts J) (asked : Asked J) (known given old new : Option (List ℕ)) → IfSome known (λ all. given ≡ Some all)
    → WroteFoundPrefix j asked given old new → WroteFoundPrefix j asked known old new
prefix_in j asked (Some all) given old new is wrote = rw is at wrote
prefix_in j (shows text) None given old new is wrote = wrote
prefix_in j (asks name (question.Verdict who)) None given old new is wrote = tt
prefix_in j (asks name (question.Address slice address)) None given old new is wrote = tt

long_in : (known given : Option (List ℕ)) → IfSome known (λ all. given ≡ Some all) → IfSome given (λ all. 2 ^ 32 < length all) → IfSome known (λ all. 2 ^ 32 < length all)
long_in (Some all) given is long = rw is at long
long_in None given is long = tt

-- a run over another input than standard input, which is not read
in_file : {R S W : Type 0} {i : input.Ghosts R} {k : input.Ghosts S} {o : output.Ghosts W} {f : flush.Ghosts W} {J : Type 0} (j : judge.Ghosts J) (asked : Asked J) (words : Result (Asked J) ProgramFault)
    (bytes : Asked J → Option (List ℕ)) (standard : R) (file file' : S) (writer writer' : W) (end : Result Found ProgramFault)
    → words ≡ Ok asked → ¬ IsOfStandardInput asked → IfSome (bytes asked) (λ all. k.remaining file ≡ Some all)
    → EndsRight j k o f (Ok asked) (λ _. k.remaining file) (λ _. ⊤) file file' writer writer' end
    → EndsRight j i o f words bytes IsOfStandardInput standard standard writer writer' end
in_file j asked words bytes standard file file' writer writer' end is other known h = rw is record {
  found = found_in j asked (bytes asked) _ _ _ end known h.found;
  at_end = λ is. absurd (other is);
  flushed = h.flushed;
  no_image = h.no_image;
  faults = h.faults;
  read = λ is. absurd (other is);
  memory = λ is. absurd (other is);
  one_too_many = λ is. absurd (other is);
  few_reads = λ is. absurd (other is);
  too_long = λ e. long_in (bytes asked) _ known (h.too_long e);
  write = h.write;
  prefix = λ e. prefix_in j asked (bytes asked) _ _ _ known (h.prefix e);
  unwritten = h.unwritten;
  unread = λ _. refl;
}

not_standard : (name file : List ℕ) (eq : Bool) → name ≡ file → eq ≡ bytes_eq name (codes "-") → eq ≡ false → bytes_eq file (codes "-") ≡ false
not_standard name file eq name_is eq_is fails = ap (λ (n : List ℕ). bytes_eq n (codes "-")) (sym name_is) ∙ (sym eq_is ∙ fails)

-- a text of the program's own is shown: no input is asked about
shown : {R W : Type 0} {i : input.Ghosts R} {o : output.Ghosts W} {f : flush.Ghosts W} {J : Type 0} (j : judge.Ghosts J) (text : List ℕ) (words : Result (Asked J) ProgramFault)
    (bytes : Asked J → Option (List ℕ)) (standard : R) (writer writer' : W) (end : Result Found ProgramFault)
    → words ≡ Ok (shows text) → ShowsRight o f text writer writer' end → EndsRight j i o f words bytes IsOfStandardInput standard standard writer writer' end
shown j text words bytes standard writer writer' (Ok what) is h = rw (is, h.found.0) record {
  found = h.found.1;
  at_end = λ reads. absurd reads;
  flushed = λ _. h.flushed;
  no_image = λ no. cc;
  faults = tt;
  read = λ reads. absurd reads;
  memory = λ reads. absurd reads;
  one_too_many = λ reads. absurd reads;
  few_reads = λ reads. absurd reads;
  too_long = λ no. cc;
  write = λ no. cc;
  prefix = λ no. cc;
  unwritten = tt;
  unread = λ _. refl;
}
shown j text words bytes standard writer writer' (Err fault) is h = rw (is, h.fault) record {
  found = tt;
  at_end = λ reads. absurd reads;
  flushed = tt;
  no_image = λ no. cc;
  faults = inr refl;
  read = λ reads. absurd reads;
  memory = λ reads. absurd reads;
  one_too_many = λ reads. absurd reads;
  few_reads = λ reads. absurd reads;
  too_long = λ no. cc;
  write = λ _. h.write refl;
  prefix = λ _. h.prefix refl;
  unwritten = inl refl;
  unread = λ _. refl;
}

pub returns-in-Ok : goal.returns-in-Ok
returns-in-Ok g c =
    let asked = c.in_ok-task.ensures ∙ ap (λ t. Ok (asked_by t)) c.in-Ask.is in
    let other = not_standard _ _ _ c.as_str.ensures.value c.eq.ensures c.if-eq.false in
    in_file _ _ _ _ _ _ _ _ _ _ asked (λ is. let bad : true ≡ false = ap (λ (n : List ℕ). bytes_eq n (codes "-")) (sym is) ∙ other in cc)
    (rw other (search rules)) (c.find_in-in-Ok.ensures _)

pub returns-then-eq : goal.returns-then-eq
returns-then-eq g c =
    let asked = c.in_ok-task.ensures ∙ ap (λ t. Ok (asked_by t)) c.in-Ask.is in
    let same = is_standard _ _ _ c.as_str.ensures.value c.eq.ensures c.if-eq.true in
    in_standard _ _ _ _ _ _ _ _ _ asked (is_named _ same) (rw same refl) (c.find_in.ensures _)
