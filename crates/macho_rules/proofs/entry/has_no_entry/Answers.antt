use Rattle.std.proofs.Common.{◌≡◌, ◌↔◌, ℕ, ◌+◌, ◌^◌, ◌≤◌, Bool, List, true, false, not, Some, Option, IsSomeAnd, IsTrue, refl, sym, ap, ◌∙◌, subst, arith, lit<, lit≤, inr}
use Rattle.std.proofs.lemmas.Bool.{false≢true}
use Rattle.macho_fields.specs.Image.{commands_of}
use Rattle.macho_fields.specs.Segment.{base_of, entryoff, segments_of, IsExecutable, RunsAt, HasNoEntry}
use Rattle.macho_fields.specs.declared.rule.Rule.TheVariants as rule
use Rattle.macho_image.specs.declared.main_command.MainCommand.{MainCommand}
use Rattle.macho_rules.specs.Check.{KeptBefore}
use Rattle.macho_rules.proofs.Judged.{keeps_opened, opened_commands}
use Rattle.macho_rules.proofs.Searches.{one_of}
use Rattle.macho_rules.proofs.entry.has_no_entry.Goals as goal

not_exactly : (r : Bool) (P : Type 0) → (IsTrue r ↔ P) → (IsTrue (not r) ↔ (¬ P))
not_exactly true P same = (λ wrong p. false≢true wrong, λ none. absurd (none (same.0 refl)))
not_exactly false P same = (λ _ p. false≢true (same.1 p), λ _. refl)

module _ (image : List ℕ) where
  -- where there is a base, the entry has an address
  at_base : (base : ℕ) → Some base ≡ base_of image (commands_of image) → (main : ℕ) (test : Bool) → (IsTrue test ↔ (¬ IsExecutable image (commands_of image) (base + entryoff image main)))
      → (IsTrue test ↔ HasNoEntry image (commands_of image) main)
  at_base base is main test same = subst (λ (found : Option ℕ). IsTrue test ↔ (¬ IsSomeAnd found (λ first. IsExecutable image (commands_of image) (first + entryoff image main)))) is same

  -- no segment has an address past the last one
  none_past : KeptBefore image rule.Entry → (address : ℕ) → 2 ^ 64 ≤ address → ¬ IsExecutable image (commands_of image) address
  none_past kept address past any =
      let (segment, has, (supplied, _, _)) = one_of (RunsAt image address) (segments_of image (commands_of image)) any in
      kept rule.SegmentAddress segment (lit< tt) (inr (commands_of image, opened_commands image (keeps_opened image rule.Entry (lit≤ tt) kept), (has, omega (arith, past, supplied.1))))

pub returns-in_default-checked_add : goal.returns-in_default-checked_add
returns-in_default-checked_add c =
    let image = c.args.image.now in
    let off : c.args.main.entryoff ≡ entryoff image c.args.main.place = ap (λ (m : MainCommand). m.entryoff) c.requires.main in
    let past = c.in_default-checked_add.ensures in
    at_base image c.in-Some.base (sym c.in-Some.is ∙ c.requires.base) c.args.main.place true
    (λ _. none_past image c.requires.kept _ (omega (arith, off, past)), λ _. refl)

pub returns : goal.returns
returns c =
    let image = c.args.image.now in
    let off : c.args.main.entryoff ≡ entryoff image c.args.main.place = ap (λ (m : MainCommand). m.entryoff) c.requires.main in
    let address : c.in-Some-checked_add.address ≡ c.in-Some.base + entryoff image c.args.main.place = c.in-Some-checked_add.ensures.1 ∙ ap (λ n. c.in-Some.base + n) off in
    at_base image c.in-Some.base (sym c.in-Some.is ∙ c.requires.base) c.args.main.place (not c.is_executable.result)
    (not_exactly c.is_executable.result _ (subst (λ n. IsTrue c.is_executable.result ↔ IsExecutable image (commands_of image) n) address c.is_executable.ensures))
