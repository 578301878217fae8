use Rattle.macho_fields.specs.Bytes.{bytes_of}
use Rattle.macho_explain.proofs.EntryPages.{none_off_pages}
use Rattle.macho_explain.proofs.universal.fat_page.Goals as goal

pub returns-in_err-next : goal.returns-in_err-next
returns-in_err-next c =
    let file = bytes_of c.args.file in
    rw c.from_residual-in_err-next.ensures (none_off_pages file c.args.place c.in_ok-at.index c.in_ok-at.slice c.in_ok-at.ensures.entry c.in_ok-at.ensures.listed c.big_word-cputype.result c.big_word-cputype.ensures.inside
    c.page_size-page.result c.page_size-page.ensures.size c.if-start-page-ne0.false c.pages_end-end.result c.pages_end-end.ensures c.in_err-next.ensures)
