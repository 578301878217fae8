-- Two known commands that differ by LC_REQ_DYLD alone are alike, so a known command is the same to all readers.
use Rattle.std.proofs.Common.{◌≡◌, ℕ, ◌==◌, ◌&&◌, ◌||◌, ◌⊎◌, List, [], ◌∷◌, ◌++◌, map, Contains, Bool, true, false, Option, None, Some, refl, sym, ap, ◌∙◌, arith, inl, inr}
use Rattle.std.specs.Prelude.{cond, find, not, is_some}
use Rattle.std.specs.List.{list_all}
use Rattle.std.specs.Option.{option_map, option_or}
use Rattle.std.proofs.lemmas.Bool.{and_parts, cases_Bool, eq-eqb, eqb-true, or_cases, true≢false}
use Rattle.std.proofs.lemmas.List.Elements.{All-contains, Contains-append_left, Contains-append_right}
use Rattle.std.proofs.lemmas.List.Sums.{AllPass-from_list_all}
use Rattle.macho_commands.specs.Commands.{is_thread}
use Rattle.macho_commands.specs.Content.{HeldCommand, content_of, held_commands}
use Rattle.macho_fields.proofs.Lists.{contains_later}
use Rattle.macho_fields.specs.Image.{command_cmd, commands_of}
use Rattle.macho_fields.specs.LoadCommands.{LoadCommand, load_command_of, structure_of, unique_commands, repeatable_commands}
use Rattle.macho_fields.specs.declared.header.loader.TheConstants as loader
use Rattle.macho_readers.specs.CommandModels.{Meaning, meaning_of, unmarked, IsMeaningOf, HasOneMeaning}
use Rattle.macho_readers.specs.Commands.{is_known, BreaksCommandKnown}

-- The known commands, in a list

abbrev judged_commands : List ℕ
judged_commands = map (λ (c : LoadCommand). c.cmd) unique_commands ++ map (λ (c : LoadCommand). c.cmd) repeatable_commands

abbrev threads : List ℕ
threads = loader.LC_THREAD ∷ loader.LC_UNIXTHREAD ∷ []

abbrev other_commands : List ℕ
other_commands = threads ++ map (λ (c : HeldCommand). c.cmd) held_commands

abbrev known_commands : List ℕ
known_commands = judged_commands ++ other_commands

module _ {X : Type 0} (cmd_of : X → ℕ) (cmd : ℕ) where
  found_step : (x : X) (xs : List X) (b : Bool) → cmd_of x == cmd ≡ b → is_some (cond b (Some x) (find (λ c. cmd_of c == cmd) xs)) ≡ true
      → (is_some (find (λ c. cmd_of c == cmd) xs) ≡ true → Contains (map cmd_of xs) cmd) → Contains (cmd_of x ∷ map cmd_of xs) cmd
  found_step x xs true is some rest = let same : cmd_of x ≡ cmd = eqb-true _ _ is in (0, omega arith, same)
  found_step x xs false is some rest = contains_later (cmd_of x) cmd (map cmd_of xs) (rest some)

  found_listed : (xs : List X) → is_some (find (λ c. cmd_of c == cmd) xs) ≡ true → Contains (map cmd_of xs) cmd
  found_listed [] some = absurd (true≢false (sym some))
  found_listed (x ∷ xs) some = found_step x xs (cmd_of x == cmd) refl some (found_listed xs)

some_mapped : {X Y : Type 0} (f : X → Y) (o : Option X) → is_some (option_map f o) ≡ true → is_some o ≡ true
some_mapped f None some = some
some_mapped f (Some x) some = refl

some_of_two : {X : Type 0} (a b : Option X) → is_some (option_or a b) ≡ true → (is_some a ≡ true) ⊎ (is_some b ≡ true)
some_of_two None b some = inr some
some_of_two (Some x) b some = inl refl

listed : (cmd : ℕ) → is_known cmd ≡ true → Contains known_commands cmd
listed cmd is = elim (or_cases (is_some (structure_of cmd)) (is_thread cmd || is_some (content_of cmd)) is) [
  | inl judged ↦ Contains-append_left judged_commands other_commands cmd (elim (some_of_two _ _ (some_mapped (λ (c : LoadCommand). c.structure) (load_command_of cmd) judged)) [
    | inl once ↦ Contains-append_left (map (λ (c : LoadCommand). c.cmd) unique_commands) (map (λ (c : LoadCommand). c.cmd) repeatable_commands) cmd (found_listed (λ (c : LoadCommand). c.cmd) cmd unique_commands once)
    | inr more ↦ Contains-append_right (map (λ (c : LoadCommand). c.cmd) unique_commands) (map (λ (c : LoadCommand). c.cmd) repeatable_commands) cmd (found_listed (λ (c : LoadCommand). c.cmd) cmd repeatable_commands more)
  ])
  | inr other ↦ Contains-append_right judged_commands other_commands cmd (elim (or_cases (is_thread cmd) (is_some (content_of cmd)) other) [
    | inl thread ↦ Contains-append_left threads (map (λ (c : HeldCommand). c.cmd) held_commands) cmd (elim (or_cases (cmd == loader.LC_THREAD) (cmd == loader.LC_UNIXTHREAD) thread) [
      | inl first ↦ (0, omega arith, sym (eqb-true _ _ first))
      | inr second ↦ (1, omega arith, sym (eqb-true _ _ second))
    ])
    | inr held ↦ Contains-append_right threads (map (λ (c : HeldCommand). c.cmd) held_commands) cmd
        (found_listed (λ (c : HeldCommand). c.cmd) cmd held_commands (some_mapped (λ (c : HeldCommand). c.content) (find (λ (c : HeldCommand). c.cmd == cmd) held_commands) held))
  ])
]

-- Two of them are the same, or differ by more than the bit, or are the two commands with a dyld_info_command

abbrev is_info : ℕ → Bool
is_info cmd = (cmd == loader.LC_DYLD_INFO) || (cmd == loader.LC_DYLD_INFO_ONLY)

abbrev are_alike : ℕ → ℕ → Bool
are_alike a b = not (unmarked a == unmarked b) || ((a == b) || (is_info a && is_info b))

all_alike : list_all (λ a. list_all (are_alike a) known_commands) known_commands ≡ true
all_alike = refl

alike : (a b : ℕ) → is_known a ≡ true → is_known b ≡ true → are_alike a b ≡ true
alike a b known_a known_b =
    let row = All-contains (λ c. list_all (are_alike c) known_commands ≡ true) known_commands a (AllPass-from_list_all (λ c. list_all (are_alike c) known_commands) known_commands all_alike) (listed a known_a) in
    All-contains (λ c. are_alike a c ≡ true) known_commands b (AllPass-from_list_all (are_alike a) known_commands row) (listed b known_b)

info_meaning : (cmd : ℕ) → is_info cmd ≡ true → meaning_of cmd ≡ meaning_of loader.LC_DYLD_INFO
info_meaning cmd is = elim (or_cases (cmd == loader.LC_DYLD_INFO) (cmd == loader.LC_DYLD_INFO_ONLY) is) [
  | inl info ↦ ap meaning_of (eqb-true _ _ info)
  | inr only ↦ ap meaning_of (eqb-true _ _ only)
]

same_meaning : (a b : ℕ) → is_known a ≡ true → is_known b ≡ true → unmarked a ≡ unmarked b → meaning_of a ≡ meaning_of b
same_meaning a b known_a known_b same = elim (or_cases (not (unmarked a == unmarked b)) ((a == b) || (is_info a && is_info b)) (alike a b known_a known_b)) [
  | inl apart ↦ absurd (true≢false (sym apart ∙ ap not (eq-eqb (unmarked a) (unmarked b) same)))
  | inr near ↦ elim (or_cases (a == b) (is_info a && is_info b) near) [
    | inl equal ↦ ap meaning_of (eqb-true a b equal)
    | inr infos ↦ (let (info_a, info_b) = and_parts (is_info a) (is_info b) infos in info_meaning a info_a ∙ sym (info_meaning b info_b))
  ]
]

module _ (image : List ℕ) (none : (place : ℕ) → ¬ BreaksCommandKnown image place) (command : ℕ) (has : Contains (commands_of image) command) where
  known : is_known (command_cmd image command) ≡ true
  known = elim (cases_Bool (is_known (command_cmd image command))) [ inl is ↦ is | inr other ↦ absurd (none command (has, other)) ]

  the_meaning : (answer : Meaning) → IsMeaningOf image command answer → answer ≡ meaning_of (command_cmd image command)
  the_meaning answer (inl is) = is
  the_meaning answer (inr (inl (cmd, listed_cmd, same, is))) = is ∙ same_meaning cmd (command_cmd image command) listed_cmd known same
  the_meaning answer (inr (inr new)) = absurd (none command (has, new))

pub one_meaning : (image : List ℕ) → ((place : ℕ) → ¬ BreaksCommandKnown image place) → HasOneMeaning image
one_meaning image none command has a b is_a is_b = the_meaning image none command has a is_a ∙ sym (the_meaning image none command has b is_b)
