-- What is at an address, as an answer and in the words of the definitions.
use Rattle.macho_fields.specs.Segment.{Source, File, Zero}
use Rattle.macho_rules.specs.declared.mapping.Source as declared
use Rattle.macho_rules.specs.declared.mapping.Source.TheVariants as answer

abbrev pub source_of : declared.Source → Source
source_of (answer.File place) = File place
source_of answer.Zero = Zero
