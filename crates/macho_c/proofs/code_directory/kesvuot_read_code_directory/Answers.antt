use Rattle.std.proofs.Common.{◌∙◌, ap₂, subst}
use Rattle.std.specs.Option.{option_map}
use Rattle.macho_signature.specs.CodeDirectories.{code_directory}
use Rattle.macho_c.specs.CodeDirectories.{directory_row, no_directory}
use Rattle.macho_c.specs.Status.{Answers}
use Rattle.macho_c.proofs.code_directory.kesvuot_read_code_directory.Goals as goal

pub returns : goal.returns
returns c =
    subst (Answers no_directory c.answer.result c.answer.new.written)
    (c.directory_of.ensures ∙ ap₂ (λ place bytes. option_map (directory_row place bytes) (code_directory bytes)) c.held_at-held.ensures.place c.held_at-held.ensures.bytes) c.answer.ensures
