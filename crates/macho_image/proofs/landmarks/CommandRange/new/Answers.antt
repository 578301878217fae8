use Rattle.macho_image.proofs.Noted.{no_range}
use Rattle.macho_image.proofs.landmarks.CommandRange.new.Goals as goal

pub returns : goal.returns
returns c = λ image test. no_range image test
