-- What holds of an image once it is opened.
use Rattle.std.proofs.Common.{ℕ, List, None}
use Rattle.macho_fields.specs.Layers.{KeptBelow}
use Rattle.macho_fields.specs.Rules.{BreaksImage}
use Rattle.macho_fields.specs.First.{rank}
use Rattle.macho_fields.specs.declared.rule.Rule.TheVariants as rule
use Rattle.macho_fields.proofs.Opened.{OpenedFacts, keeps_rules}
use Rattle.macho_image.specs.Opened.{IsOpened}

-- bytes that break none of the rules of opening may be opened
pub may_open : (image : List ℕ) → KeptBelow (BreaksImage image None) (rank rule.SegmentAddress) → IsOpened image
unfolding IsOpened
may_open image below = below

pub opened_below : (image : List ℕ) → IsOpened image → KeptBelow (BreaksImage image None) (rank rule.SegmentAddress)
unfolding IsOpened
opened_below image opened = opened

pub opened_keeps : (image : List ℕ) → IsOpened image → OpenedFacts image
opened_keeps image opened = keeps_rules image None (opened_below image opened)
