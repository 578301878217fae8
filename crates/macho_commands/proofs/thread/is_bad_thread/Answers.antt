use Rattle.std.proofs.Common.{◌∙◌, sym, inl, inr}
use Rattle.std.proofs.lemmas.Bool.{false≢true}
use Rattle.macho_fields.specs.Bytes.{bytes_of}
use Rattle.macho_commands.specs.Commands.{NamesEntry}
use Rattle.macho_commands.proofs.Given.{none_is_bad}
use Rattle.macho_commands.proofs.thread.is_bad_thread.Goals as goal

pub returns-else-repeats : goal.returns-else-repeats
returns-else-repeats c =
    let (to, from) = none_is_bad (NamesEntry c.args.image.now (bytes_of c.args.command)) c.sound_entry.result c.sound_entry.ensures c.is_none.result c.is_none.ensures in (
      λ is. inr (to is),
      λ bad. elim bad [ inl repeats ↦ absurd (false≢true (sym c.if-repeats.false ∙ repeats)) | inr none ↦ from none ],
    )
