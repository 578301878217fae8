use Rattle.std.proofs.Common.{◌≡◌, ◌∙◌, ◌^◌, ◌<◌, arith, subst, sym}
use Rattle.macho_readers.specs.Pages.{page_end, page_size}
use Rattle.macho_explain.proofs.EntryPages.{page_end_fits}
use Rattle.macho_explain.proofs.universal.pages_end.Goals as goal

pub overflow_mul-result : goal.overflow_mul-result
overflow_mul-result c =
    let last = c.saturating_sub-last.result in
    let less : last < 2 ^ 66 = grind arith in
    let page : c.from-page.result ≡ page_size c.args.cputype = c.from-page.ensures ∙ c.page_size.ensures.size in
    let fits : page_end c.from-page.result last < 2 ^ 128 = subst (λ p. page_end p last < 2 ^ 128) (sym page) (page_end_fits c.args.cputype last less) in
    grind arith
