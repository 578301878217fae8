use Rattle.std.proofs.Common.{rules}
use Rattle.macho_seals.proofs.SharedPages.{all_sizes}
use Rattle.macho_seals.proofs.pages.first_other_page.Goals as goal

pub returns : goal.returns
returns c = search (rules, all_sizes)
