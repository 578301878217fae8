use Rattle.macho_fields.specs.FirstPlace.{IsLeastPlace}
use Rattle.macho_seals.specs.Directories.{HaveOtherBelow}
use Rattle.macho_seals.proofs.pages.first_other_page.Given as goal

-- what is found is the least place of the pages of lesser sizes
abbrev pub invariant-loop-page_size : goal.invariant-loop-page_size
invariant-loop-page_size l = IsLeastPlace (HaveOtherBelow l.image.bytes.now l.directories l.page_size) l.least
