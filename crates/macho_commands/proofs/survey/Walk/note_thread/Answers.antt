use Rattle.std.proofs.Common.{◌≡◌, ◌≤◌, ◌↔◌, ◌∙◌, ℕ, List, length, true, refl, sym, subst, inr}
use Rattle.std.specs.Prelude.{IsTrue}
use Rattle.macho_image.specs.Command.{command_of}
use Rattle.macho_commands.specs.Commands.{IsBadThread, is_thread}
use Rattle.macho_commands.proofs.CommandWalks.{has_head, noted_where}
use Rattle.macho_commands.proofs.survey.Walk.note_thread.Goals as goal

pub is_bad_thread-is_bad-requires : goal.is_bad_thread-is_bad-requires
is_bad_thread-is_bad-requires c =
    subst (λ (bytes : List ℕ). 8 ≤ length bytes) (sym c.new.ensures) (has_head c.args.image.now (command_of c.args.command.now) c.requires)

pub returns-clause-notes : goal.returns-clause-notes
returns-clause-notes c =
    let v = command_of c.args.command.now in
    let old = c.args.self.now in
    let is : is_thread v.cmd ≡ true = sym c.is_thread.ensures ∙ c.if-not-is_thread.false in
    let same : IsTrue c.is_bad_thread-is_bad.result ↔ IsBadThread c.args.image.now (IsTrue old.has_thread) v.bytes =
    subst (λ (bytes : List ℕ). IsTrue c.is_bad_thread-is_bad.result ↔ IsBadThread c.args.image.now (IsTrue old.has_thread) bytes) c.new.ensures c.is_bad_thread-is_bad.ensures in
    let bad : IsTrue c.is_bad_thread-is_bad.result ↔ ((is_thread v.cmd ≡ true) × IsBadThread c.args.image.now (IsTrue old.has_thread) v.bytes) =
    (λ broken. (is, same.0 broken), λ both. same.1 both.1) in
    record {
      has_thread = (λ _. inr is, λ _. refl);
      thread = noted_where bad v.place old.thread c.noted-self.result c.noted-self.ensures;
    }
