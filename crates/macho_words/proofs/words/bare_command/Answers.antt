use Rattle.std.proofs.Common.{ap, true, ◌∙◌, ◌≡◌}
use Rattle.clap.specs.Words.{Shape, app_of, new_app}
use Rattle.clap.specs.Simple.{app_of_fields, on_top}
use Rattle.macho_words.proofs.words.bare_command.Goals as goal

-- the three settings of the command
abbrev unnamed : Shape → Shape
unnamed s = record s { no_binary_name = true }

abbrev flagless : Shape → Shape
flagless s = record s { disable_help_flag = true }

abbrev helpless : Shape → Shape
helpless s = record s { disable_help_subcommand = true }

pub returns : goal.returns
returns c =
    let unnamed_is : app_of c.no_binary_name.result ≡ on_top unnamed (new_app _) = ap app_of_fields c.no_binary_name.ensures ∙ ap (on_top unnamed) c.new.ensures.app in
    let flagless_is = ap app_of_fields c.disable_help_flag.ensures ∙ ap (on_top flagless) unnamed_is in
    ap app_of_fields c.disable_help_subcommand.ensures ∙ ap (on_top helpless) flagless_is
