-- The kinds of command that an opened image has once at most.
use Rattle.std.proofs.Common.{◌≡◌, ◌==◌, ℕ, ◌+◌, ◌≤◌, ◌<◌, Bool, List, [], ◌∷◌, filter, Contains, Option, None, Some, slice_get, refl, sym, ap, ◌∙◌, subst, arith, lit<, inl, inr}
use Rattle.std.specs.Prelude.{find}
use Rattle.std.specs.Option.{option_map, option_map_or}
use Rattle.std.proofs.lemmas.Bool.{cases_Bool, cases_order}
use Rattle.std.proofs.lemmas.Option.{none-some, same_Some}
use Rattle.macho_fields.proofs.Lists.{none_in_nil}
use Rattle.macho_fields.specs.LoadCommands.{IsUnique}
use Rattle.macho_fields.specs.Image.{command_cmd, commands_of, with_cmd}
use Rattle.macho_fields.specs.First.{rank}
use Rattle.macho_fields.specs.Layers.{IsLeast, KeptBelow}
use Rattle.macho_fields.specs.Rules.{BreaksCommands, BreaksImage}
use Rattle.macho_fields.specs.Symbol.{symbol_count, nsyms}
use Rattle.macho_fields.specs.declared.header.loader.TheConstants as loader
use Rattle.macho_fields.specs.declared.rule.Break.{Break}
use Rattle.macho_fields.specs.declared.rule.Rule.{Rule}
use Rattle.macho_fields.specs.declared.rule.Rule.TheVariants as rule
use Rattle.macho_fields.proofs.Parts.{with_cmd_is, with_cmd_among}
use Rattle.macho_image.specs.Command.{first_with_cmd}
use Rattle.macho_image.specs.Opened.{IsOpened}
use Rattle.macho_rules.specs.Check.{KeptBefore}
use Rattle.macho_rules.proofs.Judged.{opened_keeps, keeps_opened, opened_commands, judged_broken, judged_kept}

-- what an option has, where it is seen through a function
pub no_first : {X : Type 0} (at : ℕ → X) (first : Option ℕ) → None ≡ option_map at first → first ≡ None
no_first at None e = refl
no_first at (Some d) e = absurd (none-some (at d) e)

pub first_at : {X : Type 0} (at : ℕ → X) (first : Option ℕ) (x : X) → Some x ≡ option_map at first → (d : ℕ) × (first ≡ Some d) × (x ≡ at d)
first_at at None x e = absurd (none-some x (sym e))
first_at at (Some d) x e = (d, refl, same_Some x (at d) e)

module _ (image : List ℕ) (cmd : ℕ) where
  abbrev pub Has : ℕ → Type 0
  Has c = Contains (with_cmd image cmd (commands_of image)) c

  pub is_with_cmd : (c : ℕ) → first_with_cmd image cmd (commands_of image) ≡ Some c → Has c
  is_with_cmd c is = at_first (with_cmd image cmd (commands_of image)) is
    where
      at_first : (xs : List ℕ) → slice_get xs 0 ≡ Some c → Contains xs c
      at_first [] e = absurd (cc)
      at_first (x ∷ xs) e = (0, omega arith, cc)

  pub none_with_cmd : first_with_cmd image cmd (commands_of image) ≡ None → (c : ℕ) → ¬ Has c
  none_with_cmd none c has = empty (with_cmd image cmd (commands_of image)) none has
    where
      empty : (xs : List ℕ) → slice_get xs 0 ≡ None → ¬ Contains xs c
      empty [] e has_c = none_in_nil c has_c
      empty (x ∷ xs) e has_c = none-some x (sym e)

  module _ (opened : IsOpened image) (unique : IsUnique cmd) where
    -- no command repeats an earlier one
    never_repeated : (a b : ℕ) → Has a → Has b → ¬ (a < b)
    never_repeated a b has_a has_b less =
        let is_a : command_cmd image a ≡ cmd = with_cmd_is image (commands_of image) cmd a has_a in
        let is_b : command_cmd image b ≡ cmd = with_cmd_is image (commands_of image) cmd b has_b in
        let (k, inside, at) = with_cmd_among image (commands_of image) cmd a has_a in
        opened_keeps image opened rule.CommandRepeated b (lit< tt)
        (inr (
          commands_of image,
          opened_commands image opened,
          (with_cmd_among image (commands_of image) cmd b has_b, (subst IsUnique (sym is_b) unique, (k, a, inside, at, (less, is_a ∙ sym is_b)))),
        ))

    -- all of them are one
    pub one_with_cmd : (a b : ℕ) → Has a → Has b → a ≡ b
    one_with_cmd a b has_a has_b =
        elim (cases_order a b)
        [ inl same ↦ same | inr (inl less) ↦ absurd (never_repeated a b has_a has_b less) | inr (inr less) ↦ absurd (never_repeated b a has_b has_a less) ]

    -- which is the first
    pub first_is : (c : ℕ) → Has c → first_with_cmd image cmd (commands_of image) ≡ Some c
    first_is c has = at_first (with_cmd image cmd (commands_of image)) (λ x has_x. one_with_cmd x c has_x has) has
      where
        at_first : (xs : List ℕ) → ((x : ℕ) → Contains xs x → x ≡ c) → Contains xs c → slice_get xs 0 ≡ Some c
        at_first [] one (k, less, at) = absurd (omega arith)
        at_first (x ∷ xs) one has_c = ap Some (one x (0, omega arith, refl))

-- A rule that is broken at such a command or nowhere
module _ (image : List ℕ) (r : Rule) (late : rank rule.SegmentAddress ≤ rank r) (below : KeptBefore image r) (cmd : ℕ) (P : ℕ → Type 0)
    (from : (p : ℕ) → BreaksCommands image (commands_of image) r p → Has image cmd p × P p) where
  pub one_broken : IsUnique cmd → ((p : ℕ) → Has image cmd p × P p → BreaksCommands image (commands_of image) r p) → (d : ℕ)
      → first_with_cmd image cmd (commands_of image) ≡ Some d → P d → (b : Break) → b.rule ≡ r → b.place ≡ d → IsLeast (BreaksImage image None) b
  one_broken unique to d first here b named at =
      let has = is_with_cmd image cmd d first in
      judged_broken image r late below b d named at (to d (has, here))
      (λ p broken. let one = one_with_cmd image cmd (keeps_opened image r late below) unique p d (from p broken).0 has in omega (arith, one))

  pub one_kept : IsUnique cmd → (d : ℕ) → first_with_cmd image cmd (commands_of image) ≡ Some d → ¬ P d → KeptBelow (BreaksImage image None) (rank r + 1)
  one_kept unique d first kept =
      judged_kept image r late below
      (λ p broken.
      let (has, here) = from p broken in
      kept (subst P (one_with_cmd image cmd (keeps_opened image r late below) unique p d has (is_with_cmd image cmd d first)) here))

  pub none_kept : first_with_cmd image cmd (commands_of image) ≡ None → KeptBelow (BreaksImage image None) (rank r + 1)
  none_kept none = judged_kept image r late below (λ p broken. none_with_cmd image cmd none p (from p broken).0)

find_first : (test : ℕ → Bool) (xs : List ℕ) → find test xs ≡ slice_get (filter test xs) 0
find_first test [] = refl
find_first test (x ∷ xs) = elim (cases_Bool (test x)) [ inl t ↦ rw t refl | inr f ↦ let rest = find_first test xs in rw f rest ]

pub symbols_counted : (image commands : List ℕ) → symbol_count image commands ≡ option_map_or (nsyms image) (first_with_cmd image loader.LC_SYMTAB commands) 0
symbols_counted image commands = ap (λ o. option_map_or (nsyms image) o 0) (find_first (λ command. command_cmd image command == loader.LC_SYMTAB) commands)
