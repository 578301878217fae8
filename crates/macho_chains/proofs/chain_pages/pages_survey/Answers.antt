use Rattle.std.proofs.Common.{◌≡◌, ◌+◌, ℕ, sym, subst, arith}
use Rattle.macho_fields.specs.Bytes.{bytes_of}
use Rattle.macho_chains.specs.ChainPages.{AreLeastPlaces}
use Rattle.macho_chains.specs.ChainPointers.{BreaksPageSlot, BreaksPageBind}
use Rattle.macho_tables.specs.Items.{OfItem}
use Rattle.macho_chains.proofs.PointerSurveys.{survey_start, survey_more}
use Rattle.macho_chains.proofs.chain_pages.pages_survey.Goals as goal

pub loop-page-init : goal.loop-page-init
loop-page-init c =
    let chains = bytes_of c.args.chains.bytes in
    let Slot = BreaksPageSlot c.args.segment.now.image c.args.chains.start chains c.args.segment.now.place c.args.starts in
    let Bind = BreaksPageBind c.args.limits.imports c.args.segment.now.image chains c.args.segment.now.place c.args.starts in
    subst (AreLeastPlaces (OfItem 0 Slot) (OfItem 0 Bind)) (sym c.unbroken-found.ensures) (survey_start Slot Bind)

pub loop-page-preserved : goal.loop-page-preserved
loop-page-preserved c =
    let chains = bytes_of c.args.chains.bytes in
    let Slot = BreaksPageSlot c.args.segment.now.image c.args.chains.start chains c.args.segment.now.place c.args.starts in
    let Bind = BreaksPageBind c.args.limits.imports c.args.segment.now.image chains c.args.segment.now.place c.args.starts in
    subst (AreLeastPlaces (OfItem (c.loop-page.page + 1) Slot) (OfItem (c.loop-page.page + 1) Bind)) (sym c.joined-found.ensures)
    (survey_more Slot Bind c.loop-page.page c.loop-page.found c.page_survey-other.result c.loop-page.invariant c.page_survey-other.ensures)

pub returns : goal.returns
returns c =
    let chains = bytes_of c.args.chains.bytes in
    let Slot = BreaksPageSlot c.args.segment.now.image c.args.chains.start chains c.args.segment.now.place c.args.starts in
    let Bind = BreaksPageBind c.args.limits.imports c.args.segment.now.image chains c.args.segment.now.place c.args.starts in
    let all : c.loop-page.page ≡ c.args.starts.page_count = omega arith in
    subst (λ (n : ℕ). AreLeastPlaces (OfItem n Slot) (OfItem n Bind) c.loop-page.found) all c.loop-page.invariant
