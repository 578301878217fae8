use Rattle.std.proofs.Common.{◌≡◌, ◌+◌, ◌-◌, ◌*◌, ◌/◌, ℕ, sym, subst, arith, inl, inr}
use Rattle.std.proofs.lemmas.Bool.{cases_lt, false≢true}
use Rattle.std.proofs.lemmas.Bool.{ltb-true, lt-ltb}
use Rattle.macho_spans.specs.Overlap.{sorted_spans}
use Rattle.macho_readers.specs.Pages.{page_size, page_end}
use Rattle.macho_readers.proofs.SlicePages.{page_last, within_last, none_within, none_by}
use Rattle.macho_readers.proofs.slice_pages.shares_page.Goals as goal

pub returns-in-Some : goal.returns-in-Some
returns-in-Some c =
    let spans = sorted_spans c.args.slices.now in
    let start = c.args.slice.start in
    let page = c.page_size-page.result in
    let last = start + (c.args.slice.len - 1) in
    let place = last / page * page + (page - 1) in
    let end = page_end (page_size c.args.cputype) (start + c.args.slice.len - 1) in
    let same : last ≡ start + c.args.slice.len - 1 = omega (arith, c.requires.some) in
    let is : place + 1 ≡ end = subst (λ (x : ℕ). place + 1 ≡ page_end (page_size c.args.cputype) x) same (subst (λ (p : ℕ). last / p * p + (p - 1) + 1 ≡ page_end (page_size c.args.cputype) last) (sym c.page_size-page.ensures.size) (page_last c.args.cputype last)) in
    let next = c.in-Some.next in (
      λ past. within_last spans c.requires.rising place start end is next c.in-Some.ensures (ltb-true _ _ past),
      λ within. elim (cases_lt start next.start) [
        | inl less ↦ lt-ltb _ _ less
        | inr most ↦ absurd (none_within spans c.requires.rising place start end is next c.in-Some.ensures most within)
      ],
    )

pub returns-in-None : goal.returns-in-None
returns-in-None c =
    let spans = sorted_spans c.args.slices.now in
    let start = c.args.slice.start in
    let page = c.page_size-page.result in
    let last = start + (c.args.slice.len - 1) in
    let place = last / page * page + (page - 1) in
    let end = page_end (page_size c.args.cputype) (start + c.args.slice.len - 1) in
    let same : last ≡ start + c.args.slice.len - 1 = omega (arith, c.requires.some) in
    let is : place + 1 ≡ end = subst (λ (x : ℕ). place + 1 ≡ page_end (page_size c.args.cputype) x) same (subst (λ (p : ℕ). last / p * p + (p - 1) + 1 ≡ page_end (page_size c.args.cputype) last) (sym c.page_size-page.ensures.size) (page_last c.args.cputype last)) in
    (λ wrong. absurd (false≢true wrong), λ within. absurd (none_by spans c.requires.rising place start end is c.in-None.ensures within))
