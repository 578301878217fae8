use Rattle.std.proofs.Common.{sym, subst}
use Rattle.macho_chains.proofs.ChainTables.{none_read}
use Rattle.macho_chains.proofs.PointerSurveys.{AreInPointers, pointers_unlisted}
use Rattle.macho_chains.proofs.chain_pages.PointerSurvey.of.Goals as goal

pub returns-in_default : goal.returns-in_default
returns-in_default c =
    let image = c.args.image.now in
    subst (AreInPointers image) (sym c.unbroken.ensures) (pointers_unlisted image (none_read image c.args.fixups.now c.requires.fixups c.in_default.is))
