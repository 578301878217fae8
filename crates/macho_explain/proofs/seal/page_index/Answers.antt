use Rattle.std.proofs.Common.{◌≡◌, ◌∙◌, Some, ap, arith, sym}
use Rattle.macho_signature.specs.Signed.{page_of}
use Rattle.macho_explain.proofs.ShownSeals.{page_is, page_of_one, page_of_some}
use Rattle.macho_explain.proofs.seal.page_index.Goals.{then-directory-eq0, else-directory-eq0}
use Rattle.macho_explain.proofs.seal.page_index.Goals as goal

pub returns-then-index-from-clause-only : goal.returns-then-index-from-clause-only
returns-then-index-from-clause-only c = λ k less at.
    let directory = c.args.directory in
    let same : c.if-directory-eq0.index ≡ page_of directory.page_size c.args.place = elim c.if-directory-eq0.branch [
      | then-directory-eq0 w ↦ w.index-is ∙ sym (page_of_one directory.page_size c.args.place w.if-directory-eq0.true)
      | else-directory-eq0 w ↦ w.index-is ∙ sym (page_of_some directory.page_size c.args.place w.if-directory-eq0.false)
    ] in
    let is = page_is directory c.args.place k c.requires less at in
    let past = c.if-index-from.true in
    absurd (omega (arith, same, is, past, less))

pub returns-clause-only : goal.returns-clause-only
returns-clause-only c = λ k less at.
    let directory = c.args.directory in
    let same : c.if-directory-eq0.index ≡ page_of directory.page_size c.args.place = elim c.if-directory-eq0.branch [
      | then-directory-eq0 w ↦ w.index-is ∙ sym (page_of_one directory.page_size c.args.place w.if-directory-eq0.true)
      | else-directory-eq0 w ↦ w.index-is ∙ sym (page_of_some directory.page_size c.args.place w.if-directory-eq0.false)
    ] in
    ap Some (same ∙ page_is directory c.args.place k c.requires less at)
