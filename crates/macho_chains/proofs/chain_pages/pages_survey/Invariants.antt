use Rattle.macho_chains.specs.ChainPages.{AreLeastPlaces}
use Rattle.macho_chains.specs.ChainPointers.{BreaksPageSlot, BreaksPageBind}
use Rattle.macho_tables.specs.Items.{OfItem}
use Rattle.macho_chains.proofs.chain_pages.pages_survey.Given as goal

-- what was found of the pages before
abbrev pub invariant-loop-page : goal.invariant-loop-page
invariant-loop-page l =
    AreLeastPlaces (OfItem l.page (BreaksPageSlot l.segment.image l.chains.start l.chains.bytes.bytes.now l.segment.place l.starts))
    (OfItem l.page (BreaksPageBind l.limits.imports l.segment.image l.chains.bytes.bytes.now l.segment.place l.starts)) l.found
