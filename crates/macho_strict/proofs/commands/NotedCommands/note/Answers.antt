use Rattle.std.proofs.Common.{◌⊎◌, ◌↔◌, ◌∙◌, inl, inr, sym, arith}
use Rattle.std.specs.Prelude.{IsTrue}
use Rattle.std.proofs.lemmas.Bool.{cases_Bool, false≢true}
use Rattle.macho_fields.specs.Bytes.{bytes_of}
use Rattle.macho_image.specs.Command.{command_of}
use Rattle.macho_strict.specs.Encrypted.{IsEncrypted}
use Rattle.macho_strict.proofs.CommandWalks.{ends_inside}
use Rattle.macho_strict.proofs.Encryptions.{found_has, none_has}
use Rattle.macho_strict.proofs.commands.NotedCommands.note.Goals as goal
use Rattle.macho_strict.proofs.commands.NotedCommands.note.Goals.{then-self, else-self}

pub overflow_add-self : goal.overflow_add-self
overflow_add-self c = let inside = ends_inside (bytes_of c.args.bytes) (command_of c.args.command.now) c.requires in omega (arith, inside, c.from.ensures, c.ranges.bytes)

pub returns : goal.returns
returns c =
    let image = bytes_of c.args.bytes in
    let v = command_of c.args.command.now in
    let encrypted : IsTrue c.if-self.self ↔ (IsTrue c.args.self.now.encrypted ⊎ IsEncrypted image v) = elim c.if-self.branch [
      | then-self w ↦ (λ _. inl w.if-self.true, λ _. w.self-is ∙ w.if-self.true)
      | else-self w ↦ (
        λ is. inr (found_has _ _ w.encrypted.result w.encrypted.ensures (sym w.is_some-self.ensures ∙ (sym w.self-is ∙ is))),
        λ either. elim (cases_Bool c.if-self.self) [
          | inl is ↦ is
          | inr not ↦
              elim either [
                | inl before ↦ absurd (false≢true (sym w.if-self.false ∙ before))
                | inr here ↦ absurd (none_has _ _ w.encrypted.result w.encrypted.ensures (sym w.is_some-self.ensures ∙ (sym w.self-is ∙ not)) here)
              ]
        ],
      )
    ] in
    record {
      end = omega (arith, c.from.ensures);
      slack = c.slack_with-self.ensures;
      encrypted = encrypted;
      elements = c.note_command.ensures;
    }
