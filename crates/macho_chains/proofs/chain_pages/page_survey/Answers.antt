use Rattle.std.proofs.Common.{◌+◌, ℕ, Some, sym, subst, arith}
use Rattle.macho_fields.specs.Bytes.{bytes_of}
use Rattle.macho_fields.specs.FirstPlace.{IsLeastPlace}
use Rattle.macho_chains.specs.ChainPages.{AtPointer}
use Rattle.macho_chains.specs.ChainPointers.{first_offset, Fits, HasBadNext, BindsNone, BreaksPageSlot}
use Rattle.macho_chains.proofs.ChainPages.{limit_fits, page_unchained, page_unstarted, page_slot, bind_unchained, bind_unstarted, page_bind}
use Rattle.macho_chains.proofs.chain_pages.page_survey.Goals as goal

pub returns-in_default : goal.returns-in_default
returns-in_default c =
    let image = c.args.segment.now.image in
    let segment = c.args.segment.now.place in
    let chains = bytes_of c.args.chains.bytes in
    rw c.unbroken.ensures (record {
      slot = page_unchained image segment c.args.starts c.args.page c.args.chains.start chains c.in_default.ensures.first;
      bind = bind_unchained image segment c.args.starts c.args.page c.args.limits.imports chains c.in_default.ensures.first;
    })

pub returns-then-first-page_limit : goal.returns-then-first-page_limit
returns-then-first-page_limit c =
    let image = c.args.segment.now.image in
    let segment = c.args.segment.now.place in
    let starts = c.args.starts in
    let page = c.args.page in
    let chains = bytes_of c.args.chains.bytes in
    let (has, at) = c.in-Some.ensures.first in
    let out : ¬ Fits image segment starts page (first_offset chains starts page) = λ fits.
    let low = (limit_fits image segment starts page c.args.limits.room c.page_limit.result c.requires.room c.page_limit.ensures (first_offset chains starts page)).1 fits in
    omega (arith, low, at, c.if-first-page_limit.true) in record {
      slot = subst (λ (n : ℕ). IsLeastPlace (BreaksPageSlot image c.args.chains.start chains segment starts page) (Some (c.args.chains.start + n))) (sym c.page_start_offset.ensures)
          (page_unstarted image segment starts page c.args.chains.start chains has out);
      bind = bind_unstarted image segment starts page c.args.limits.imports chains out;
    }

pub chain_survey-requires-clause-first : goal.chain_survey-requires-clause-first
chain_survey-requires-clause-first c =
    (limit_fits c.args.segment.now.image c.args.segment.now.place c.args.starts c.args.page c.args.limits.room c.page_limit.result c.requires.room c.page_limit.ensures _).0 c.if-first-page_limit.false

pub returns : goal.returns
returns c =
    let image = c.args.segment.now.image in
    let segment = c.args.segment.now.place in
    let starts = c.args.starts in
    let page = c.args.page in
    let chains = bytes_of c.args.chains.bytes in
    let (has, at) = c.in-Some.ensures.first in
    let fits = subst (Fits image segment starts page) at
    ((limit_fits image segment starts page c.args.limits.room c.page_limit.result c.requires.room c.page_limit.ensures c.in-Some.first).0 c.if-first-page_limit.false) in record {
      slot = page_slot image segment starts page c.args.chains.start chains has fits c.chain_survey.result.slot
          (subst (λ (n : ℕ). IsLeastPlace (AtPointer image segment starts page n (HasBadNext image segment starts page)) c.chain_survey.result.slot) at c.chain_survey.ensures.slot);
      bind = page_bind image segment starts page c.args.limits.imports chains has c.chain_survey.result.bind
          (subst (λ (n : ℕ). IsLeastPlace (AtPointer image segment starts page n (BindsNone image segment starts c.args.limits.imports)) c.chain_survey.result.bind) at c.chain_survey.ensures.bind);
    }
