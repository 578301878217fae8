use Rattle.std.proofs.Common.{[], sym, subst}
use Rattle.macho_fields.specs.Bytes.{bytes_of}
use Rattle.macho_fields.specs.Command.{IsShort}
use Rattle.macho_fields.specs.FirstPlace.{IsFirstOf}
use Rattle.macho_fields.proofs.FirstPlaces.{first_of_none}
use Rattle.macho_image.specs.Walk.{IsWholeAndMisnamed, Repeats}
use Rattle.macho_image.proofs.survey.CommandSurvey.new.Goals as goal

pub returns-clause-passed : goal.returns-clause-passed
returns-clause-passed c =
    let image = bytes_of c.args.candidate.bytes in record {
      landmarks = c.new.ensures image;
      short = subst (IsFirstOf (λ command. command) (IsShort image) []) (sym c.none.ensures) (first_of_none (λ command. command) (IsShort image));
      repeated = subst (IsFirstOf (λ command. command) (Repeats image 0) []) (sym c.none-2.ensures) (first_of_none (λ command. command) (Repeats image 0));
      name = subst (IsFirstOf (λ command. command) (IsWholeAndMisnamed image) []) (sym c.none-3.ensures) (first_of_none (λ command. command) (IsWholeAndMisnamed image));
    }
