-- The first command of each unique kind.
use Rattle.std.proofs.Common.{◌≡◌, ◌≢◌, ◌==◌, ◌&&◌, ℕ, suc, zero, ◌<◌, List, [], ◌∷◌, ◌++◌, Bool, true, false, not, cond}
use Rattle.std.proofs.Common.{map, length, set, get_or, Contains, find, Option, Some, None, refl, sym, ap, ap₂, ◌∙◌, subst, arith, inl, inr}
use Rattle.std.specs.Prelude.{⊤, unwrap_or}
use Rattle.std.specs.List.{list_any, position_or_len}
use Rattle.std.specs.Option.{option_map, option_or}
use Rattle.std.proofs.lemmas.List.Quantifiers.{position-Some}
use Rattle.std.proofs.lemmas.Bool.{cases_Bool, cases_lt, lt-ltb, false≢true, and_parts, not-true, eqb-true, eq-eqb, ne_eqb}
use Rattle.std.proofs.lemmas.List.{get_or-map, get_or_default}
use Rattle.std.proofs.lemmas.List.Elements.{Contains-append_cases}
use Rattle.std.proofs.lemmas.List.Folds.{Any-from_list_any, list_any-from_Any}
use Rattle.std.proofs.lemmas.List.Sums.{fails_before_first}
use Rattle.macho_fields.specs.Image.{command_cmd}
use Rattle.macho_fields.specs.LoadCommands.{structure_of, unique_commands, unique_cmds, unique_index, IsUnique}
use Rattle.macho_fields.specs.declared.load_command.Structure.{Structure}
use Rattle.macho_fields.specs.LoadCommands.{LoadCommand}
use Rattle.macho_fields.specs.declared.load_command.Structure.TheVariants.{SymtabCommand}
use Rattle.macho_fields.proofs.Lists.{none_by_test, none_in_nil, contains_first, contains_later, first_or_later}
use Rattle.macho_image.specs.Command.{first_with_cmd}
use Rattle.macho_image.specs.Walk.{AreFirst}
use Rattle.macho_image.specs.declared.unique.UniquePlaces.{UniquePlaces}

first_by : (image : List ℕ) (cmd x : ℕ) (xs : List ℕ) → first_with_cmd image cmd (x ∷ xs) ≡ cond (command_cmd image x == cmd) (Some x) (first_with_cmd image cmd xs)
first_by image cmd x xs = elim (cases_Bool (command_cmd image x == cmd)) [ inl of_it ↦ rw of_it refl | inr other ↦ rw other refl ]

-- with one command more
pub first_more : (image : List ℕ) (cmd p : ℕ) (xs : List ℕ) → first_with_cmd image cmd (xs ++ p ∷ []) ≡ option_or (first_with_cmd image cmd xs) (cond (command_cmd image p == cmd) (Some p) None)
first_more image cmd p [] = first_by image cmd p []
first_more image cmd p (x ∷ xs) = elim (cases_Bool (command_cmd image x == cmd)) [
  | inl of_it ↦ rw of_it refl
  | inr other ↦ rw other (first_more image cmd p xs)
]

-- a command of another kind changes nothing
first_other : (image : List ℕ) (cmd p : ℕ) (xs : List ℕ) → ¬ (command_cmd image p ≡ cmd) → first_with_cmd image cmd (xs ++ p ∷ []) ≡ first_with_cmd image cmd xs
first_other image cmd p xs other =
    first_more image cmd p xs ∙ (ap (λ b. option_or (first_with_cmd image cmd xs) (cond b (Some p) None)) (ne_eqb (command_cmd image p) cmd other) ∙ kept (first_with_cmd image cmd xs))
  where
    kept : (o : Option ℕ) → option_or o None ≡ o
    kept None = refl
    kept (Some x) = refl

-- the first of a kind is of the kind, and one of them
pub first_is : (image : List ℕ) (cmd p : ℕ) (xs : List ℕ) → first_with_cmd image cmd xs ≡ Some p → Contains xs p × (command_cmd image p ≡ cmd)
first_is image cmd p [] is = absurd (cc)
first_is image cmd p (x ∷ xs) is = elim (cases_Bool (command_cmd image x == cmd)) [
  | inl of_it ↦
      let same : Some x ≡ Some p = rw of_it at is in
      let e : x ≡ p = cc in
      (subst (λ q. Contains (x ∷ xs) q) e (contains_first x xs), subst (λ q. command_cmd image q ≡ cmd) e (eqb-true (command_cmd image x) cmd of_it))
  | inr other ↦
      let rest = first_is image cmd p xs (rw other at is) in
      (contains_later x p xs rest.0, rest.1)
]

-- without a first command with the cmd, no command has it
pub first_none : (image : List ℕ) (cmd p : ℕ) (xs : List ℕ) → first_with_cmd image cmd xs ≡ None → Contains xs p → ¬ (command_cmd image p ≡ cmd)
first_none image cmd p [] is has same = absurd (none_in_nil p has)
first_none image cmd p (x ∷ xs) is (zero, less, at) same =
    absurd (let found = rw (eq-eqb (command_cmd image x) cmd (ap (command_cmd image) at ∙ same)) at is in cc)
first_none image cmd p (x ∷ xs) is (suc k, less, at) same = elim (cases_Bool (command_cmd image x == cmd)) [
  | inl of_it ↦ absurd (let found = rw of_it at is in cc)
  | inr other ↦ first_none image cmd p xs (rw other at is) (k, omega arith, at) same
]

-- what a reader gives of the first command of a kind
pub first_given : {X : Type 0} (at : List ℕ → ℕ → X) (x : X) (read image : List ℕ) (place : ℕ) (first : Option ℕ) → x ≡ at read place → read ≡ image → Some place ≡ first
    → Some x ≡ option_map (at image) first
first_given at x read image place first is same found = ap Some (is ∙ ap (λ bytes. at bytes place) same) ∙ ap (option_map (at image)) found

-- A value for each item of a list

abbrev Distinct : List ℕ → Type 0
Distinct [] = ⊤
Distinct (k ∷ ks) = ¬ Contains ks k × Distinct ks

not_in : (k : ℕ) (ks : List ℕ) → list_any (λ j. j == k) ks ≡ false → ¬ Contains ks k
not_in k ks none (i, less, at) = none_by_test (λ j. j ≡ k) (λ j. j == k) ks (λ j e. eq-eqb j k e) none (i, k, less, at, refl)

abbrev is_distinct : List ℕ → Bool
is_distinct [] = true
is_distinct (k ∷ ks) = not (list_any (λ j. j == k) ks) && is_distinct ks

distinct_by_test : (ks : List ℕ) → is_distinct ks ≡ true → Distinct ks
distinct_by_test [] passes = tt
distinct_by_test (k ∷ ks) passes =
    let both = and_parts (not (list_any (λ j. j == k) ks)) (is_distinct ks) passes in
    (not_in k ks (not-true _ both.0), distinct_by_test ks both.1)

same_values : {X : Type 0} (f g : ℕ → X) (ks : List ℕ) → ((k : ℕ) → Contains ks k → g k ≡ f k) → map g ks ≡ map f ks
same_values f g [] same = refl
same_values f g (k ∷ ks) same = ap₂ (λ x xs. x ∷ xs) (same k (contains_first k ks)) (same_values f g ks (λ j has. same j (contains_later k j ks has)))

-- a change of the value of one of them
set_one : {X : Type 0} (f g : ℕ → X) (cmd i : ℕ) (v : X) (ks : List ℕ) → Distinct ks → i < length ks → get_or ks i cmd ≡ cmd → ((k : ℕ) → ¬ (k ≡ cmd) → g k ≡ f k) → g cmd ≡ v
    → set (map f ks) i v ≡ map g ks
set_one f g cmd i v [] distinct less at others is = absurd (omega arith)
set_one f g cmd zero v (k ∷ ks) distinct less at others is =
    ap₂ (λ x xs. x ∷ xs) (sym (ap g at ∙ is)) (sym (same_values f g ks (λ j has. others j (λ same. distinct.0 (subst (Contains ks) (same ∙ sym at) has)))))
set_one f g cmd (suc i) v (k ∷ ks) distinct less at others is =
    ap₂ (λ x xs. x ∷ xs) (sym (others k (λ same. distinct.0 (i, omega arith, subst (λ q. get_or ks i q ≡ q) (sym same) at)))) (set_one f g cmd i v ks distinct.1 (omega arith) at others is)

-- The places of the first commands

abbrev no_command : LoadCommand
no_command = record { cmd = 0; structure = SymtabCommand }

-- the kind at a position
cmd_at : (cmd i : ℕ) → unique_index cmd ≡ Some i → (i < length unique_cmds) × (get_or unique_cmds i cmd ≡ cmd)
cmd_at cmd i is =
    let (less, test, before) = position-Some (λ command. command.cmd == cmd) unique_commands i no_command is in
    (less, get_or-map (λ command. command.cmd) unique_commands i no_command cmd less ∙ eqb-true _ cmd test)

no_cmd_at : (cmd : ℕ) → unique_index cmd ≡ None → ¬ Contains unique_cmds cmd
no_cmd_at cmd none (i, less, at) = elim (cases_lt (position_or_len is unique_commands) (length unique_commands)) [
  | inl found ↦ absurd (let some : cond true (Some (position_or_len is unique_commands)) None ≡ None =
      subst (λ b. cond b (Some (position_or_len is unique_commands)) None ≡ None) (lt-ltb _ _ found) none in cc)
  | inr past ↦ false≢true (sym (fails_before_first is unique_commands i no_command (omega arith))
      ∙ eq-eqb _ cmd (sym (get_or-map (λ command. command.cmd) unique_commands i no_command cmd less) ∙ at))
]
  where
    is : LoadCommand → Bool
    is command = command.cmd == cmd

pub index_is_unique : (cmd i : ℕ) → unique_index cmd ≡ Some i → IsUnique cmd
index_is_unique cmd i is =
    let (less, test, before) = position-Some (λ command. command.cmd == cmd) unique_commands i no_command is in
    list_any-from_Any (λ command. command.cmd == cmd) unique_commands (i, get_or unique_commands i no_command, less, get_or_default unique_commands i _ no_command less, test)

pub no_index_is_unique : (cmd : ℕ) → unique_index cmd ≡ None → ¬ IsUnique cmd
no_index_is_unique cmd none unique =
    let (i, command, less, at, test) = Any-from_list_any (λ command. command.cmd == cmd) unique_commands unique in
    no_cmd_at cmd none (i, less, get_or-map (λ command. command.cmd) unique_commands i command cmd less ∙ (ap (λ (c : LoadCommand). c.cmd) at ∙ eqb-true command.cmd cmd test))

no_index : (cmd : ℕ) → ¬ IsUnique cmd → unique_index cmd ≡ None
no_index cmd other = by (unique_index cmd) refl
  where
    by : (o : Option ℕ) → unique_index cmd ≡ o → o ≡ None
    by None is = refl
    by (Some i) is = absurd (other (index_is_unique cmd i is))

-- no command of one more is at 0
none_at_zero : (commands : List ℕ) (p : ℕ) → ¬ Contains commands 0 → 0 < p → ¬ Contains (commands ++ p ∷ []) 0
none_at_zero commands p none after has = elim (Contains-append_cases commands (p ∷ []) 0 has) [
  | inl before ↦ none before
  | inr here ↦ elim (first_or_later p 0 [] here) [ inl same ↦ omega arith | inr later ↦ none_in_nil 0 later ]
]

-- what a place says of the first command, which is not at 0
by_place : (first : Option ℕ) (place : ℕ) → place ≡ unwrap_or first 0 → ¬ (first ≡ Some 0) → (place ≡ 0 → first ≡ None) × (¬ (place ≡ 0) → first ≡ Some place)
by_place None place is other = (λ none. refl, λ some. absurd (some is))
by_place (Some p) place is other = (λ none. absurd (other (ap Some (sym is ∙ none))), λ some. ap Some (sym is))

module _ (image commands : List ℕ) (unique : UniquePlaces) (first : AreFirst image commands unique) where
  -- a command of a kind that an image has at most once
  module _ (cmd i : ℕ) (is : unique_index cmd ≡ Some i) where
    place_at : get_or unique.places i 0 ≡ unwrap_or (first_with_cmd image cmd commands) 0
    place_at =
        let (less, at) = cmd_at cmd i is in
        ap (λ ps. get_or ps i 0) first.places
        ∙ (get_or-map (λ other. unwrap_or (first_with_cmd image other commands) 0) unique_cmds i cmd 0 less
        ∙ ap (λ other. unwrap_or (first_with_cmd image other commands) 0) at)

    by_index : (get_or unique.places i 0 ≡ 0 → first_with_cmd image cmd commands ≡ None) × (¬ (get_or unique.places i 0 ≡ 0) → first_with_cmd image cmd commands ≡ Some (get_or unique.places i 0))
    by_index = by_place (first_with_cmd image cmd commands) (get_or unique.places i 0) place_at (λ at. first.after_header ((first_is image cmd 0 commands at).0))

    pub none_at : get_or unique.places i 0 ≡ 0 → first_with_cmd image cmd commands ≡ None
    none_at = by_index.0

    pub some_at : ¬ (get_or unique.places i 0 ≡ 0) → first_with_cmd image cmd commands ≡ Some (get_or unique.places i 0)
    some_at = by_index.1

    -- one command more of the kind
    module _ (p : ℕ) (cmd_is : cmd ≡ command_cmd image p) (after : 0 < p) where
      others : (k : ℕ) → ¬ (k ≡ cmd) → first_with_cmd image k (commands ++ p ∷ []) ≡ first_with_cmd image k commands
      others k other = first_other image k p commands (λ same. other (sym (cmd_is ∙ same)))

      pub first_noted : get_or unique.places i 0 ≡ 0 → AreFirst image (commands ++ p ∷ []) (record { places = set unique.places i p })
      first_noted empty =
          let (less, at) = cmd_at cmd i is in record {
            places = ap (λ ps. set ps i p) first.places
                ∙ set_one (λ k. unwrap_or (first_with_cmd image k commands) 0) (λ k. unwrap_or (first_with_cmd image k (commands ++ p ∷ [])) 0) cmd i p unique_cmds
                (distinct_by_test unique_cmds refl) less at (λ k other. ap (λ found. unwrap_or found 0) (others k other)) (ap (λ found. unwrap_or found 0) found);
            after_header = none_at_zero commands p first.after_header after;
          }
        where
          found : first_with_cmd image cmd (commands ++ p ∷ []) ≡ Some p
          found = first_more image cmd p commands ∙ ap₂ (λ old new. option_or old (cond new (Some p) None)) (none_at empty) (eq-eqb (command_cmd image p) cmd (sym cmd_is))

      pub second_noted : ¬ (get_or unique.places i 0 ≡ 0) → AreFirst image (commands ++ p ∷ []) unique
      second_noted some = record {
        places = first.places ∙ sym (same_values (λ k. unwrap_or (first_with_cmd image k commands) 0) (λ k. unwrap_or (first_with_cmd image k (commands ++ p ∷ [])) 0) unique_cmds (λ k has. ap (λ found. unwrap_or found 0) (same k)));
        after_header = none_at_zero commands p first.after_header after;
      }
        where
          same : (k : ℕ) → first_with_cmd image k (commands ++ p ∷ []) ≡ first_with_cmd image k commands
          same k = elim (cases_Bool (k == cmd)) [
            | inl is_it ↦
                let it = some_at some in
                subst (λ n. first_with_cmd image n (commands ++ p ∷ []) ≡ first_with_cmd image n commands) (sym (eqb-true k cmd is_it))
                (first_more image cmd p commands ∙ (ap (λ old. option_or old (cond (command_cmd image p == cmd) (Some p) None)) it ∙ sym it))
            | inr other ↦ others k (λ e. false≢true (sym other ∙ eq-eqb k cmd e))
          ]

  -- a command of a kind that an image has any number of times changes no place
  pub first_kept : (cmd p : ℕ) → ¬ IsUnique cmd → cmd ≡ command_cmd image p → 0 < p → AreFirst image (commands ++ p ∷ []) unique
  first_kept cmd p other cmd_is after = record {
    places = first.places ∙ sym (same_values (λ k. unwrap_or (first_with_cmd image k commands) 0) (λ k. unwrap_or (first_with_cmd image k (commands ++ p ∷ [])) 0) unique_cmds
        (λ k has. ap (λ found. unwrap_or found 0) (first_other image k p commands (λ same. no_cmd_at cmd (no_index cmd other) (subst (Contains unique_cmds) (sym (cmd_is ∙ same)) has)))));
    after_header = none_at_zero commands p first.after_header after;
  }

none_found : {X : Type 0} (test : X → Bool) (xs : List X) → find test xs ≡ None → list_any test xs ≡ false
none_found test [] none = refl
none_found test (x ∷ xs) none = elim (cases_Bool (test x)) [
  | inl passes ↦ absurd (let some = rw passes at none in cc)
  | inr fails ↦ rw fails (none_found test xs (rw fails at none))
]

-- an unlisted command may come any number of times, and does not describe a segment
pub unlisted_is_not_unique : (cmd : ℕ) → structure_of cmd ≡ None → ¬ IsUnique cmd
unlisted_is_not_unique cmd none unique = false≢true (sym (none_found (λ command. command.cmd == cmd) unique_commands (first_is_none _ _ none)) ∙ unique)
  where
    first_is_none : (a b : Option LoadCommand) → option_map (λ command. command.structure) (option_or a b) ≡ None → a ≡ None
    first_is_none None b is = refl
    first_is_none (Some x) b is = absurd (cc)

pub unlisted_is_not : (known : ℕ) (s : Structure) → structure_of known ≡ Some s → (cmd : ℕ) → structure_of cmd ≡ None → cmd ≢ known
unlisted_is_not known s listed cmd none same = let missing : Some s ≡ None = sym listed ∙ sym (ap structure_of same) ∙ none in absurd (cc)
