use Rattle.std.proofs.Common.{sym, subst}
use Rattle.macho_fields.specs.Bytes.{bytes_of}
use Rattle.macho_chains.specs.ChainPages.{AreLeastPlaces, OfPages}
use Rattle.macho_chains.specs.ChainPointers.{BreaksPageSlot, BreaksPageBind}
use Rattle.macho_chains.proofs.PointerSurveys.{page_starts_inside, pages_none, pages_some}
use Rattle.macho_chains.proofs.chain_pages.segment_survey.Goals as goal

pub pages_survey-requires-clause-starts : goal.pages_survey-requires-clause-starts
pages_survey-requires-clause-starts c = page_starts_inside (bytes_of c.args.chains.bytes) c.args.chains.header c.args.index c.in-Some.starts (sym c.in-Some.ensures)

pub returns-in-Some : goal.returns-in-Some
returns-in-Some c =
    let chains = bytes_of c.args.chains.bytes in
    pages_some chains c.args.chains.header c.args.index (BreaksPageSlot c.args.segment.now.image c.args.chains.start chains c.args.segment.now.place)
    (BreaksPageBind c.args.chains.header.imports_count c.args.segment.now.image chains c.args.segment.now.place) c.in-Some.starts (sym c.in-Some.ensures) c.pages_survey.result c.pages_survey.ensures

pub returns-in-None : goal.returns-in-None
returns-in-None c =
    let chains = bytes_of c.args.chains.bytes in
    let Slot = BreaksPageSlot c.args.segment.now.image c.args.chains.start chains c.args.segment.now.place in
    let Bind = BreaksPageBind c.args.chains.header.imports_count c.args.segment.now.image chains c.args.segment.now.place in
    subst (AreLeastPlaces (OfPages chains c.args.chains.header c.args.index Slot) (OfPages chains c.args.chains.header c.args.index Bind)) (sym c.unbroken.ensures)
    (pages_none chains c.args.chains.header c.args.index Slot Bind (sym c.in-None.ensures))
