use Rattle.std.proofs.Common.{◌≡◌, ◌∙◌, ◌⊎◌, ◌↔◌, ℕ, List, true, inl, inr, sym, subst}
use Rattle.std.specs.Prelude.{IsTrue}
use Rattle.std.proofs.lemmas.Bool.{false≢true}
use Rattle.macho_image.specs.Command.{command_of}
use Rattle.macho_commands.specs.Commands.{IsBadCommand, is_routine}
use Rattle.macho_commands.proofs.CommandWalks.{noted_where}
use Rattle.macho_commands.proofs.survey.Walk.note_content.Goals as goal
use Rattle.macho_commands.proofs.survey.Walk.note_content.Goals.{then-self, else-self}

pub returns-clause-notes : goal.returns-clause-notes
returns-clause-notes c =
    let v = command_of c.args.command.now in
    let routine : IsTrue c.if-self.self ↔ (IsTrue c.args.self.now.has_routine ⊎ (is_routine v.cmd ≡ true)) = elim c.if-self.branch [
      | then-self w ↦ (λ _. inl w.if-self.true, λ _. w.self-is ∙ w.if-self.true)
      | else-self w ↦ (
        λ is. inr (sym w.is_routine-self.ensures ∙ (sym w.self-is ∙ is)),
        λ either. elim either [ inl before ↦ absurd (false≢true (sym w.if-self.false ∙ before)) | inr here ↦ w.self-is ∙ (w.is_routine-self.ensures ∙ here) ],
      )
    ] in
    let bad : IsTrue c.is_bad_command-is_bad.result ↔ IsBadCommand c.args.image.now (IsTrue c.args.self.now.has_routine) v.cmd v.bytes =
    subst (λ (bytes : List ℕ). IsTrue c.is_bad_command-is_bad.result ↔ IsBadCommand c.args.image.now (IsTrue c.args.self.now.has_routine) v.cmd bytes) c.new-bytes.ensures
    c.is_bad_command-is_bad.ensures in
    record {
      has_routine = routine;
      content = noted_where bad v.place c.args.self.now.content c.noted-self.result c.noted-self.ensures;
    }
