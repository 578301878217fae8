use Rattle.std.proofs.Common.{◌≡◌, ◌+◌, ◌*◌, ◌/◌, ◌<◌, List, ℕ, Some, sym, ap, ◌∙◌, subst, arith}
use Rattle.macho_fields.specs.Bytes.{bytes_of}
use Rattle.macho_fields.specs.FirstPlace.{IsLeastPlace}
use Rattle.macho_seals.specs.Directories.{EachDirectory, AnyDirectory, HasPageOfSize, LacksPageOfSize, HaveOtherOfSize}
use Rattle.macho_seals.specs.Pages.{bytes_in, page_span}
use Rattle.macho_seals.specs.SideBySide.{AreDigestsFrom}
use Rattle.macho_seals.proofs.Firsts.{none_more}
use Rattle.macho_seals.proofs.SharedPages.{LackPage, is_shared, count_shared, page_shared, each_has_slot, none_lacks, first_lack, no_lack}
use Rattle.macho_signature.specs.CodeDirectories.{slots_of}
use Rattle.macho_spans.specs.declared.span.Span.{Span}
use Rattle.macho_seals.proofs.pages.first_other_of_size.Goals as goal

pub returns-then-not-have_page : goal.returns-then-not-have_page
returns-then-not-have_page c =
    let image = bytes_of c.args.image in
    let directories = c.args.directories.now in
    let size = c.args.page_size in
    let one = c.in_ok-one.one in
    let k = c.loop-index.index in
    let is = is_shared image directories size one c.requires c.in_ok-one.ensures in
    let page : c.page_at-page.result ≡ page_span size one.limit k = c.page_at-page.ensures.page ∙ page_shared image directories size one is k in
    let message : c.read_part.result.now ≡ bytes_in image (page_span size one.limit k) = c.read_part.ensures ∙ ap (bytes_in image) page in
    let less : k < slots_of size one.limit = subst (λ n. k < n) (count_shared image directories size one is) c.loop-index-test.true in
    let lack = subst (λ (these : List ℕ). AnyDirectory directories (LacksPageOfSize size k these)) message c.if-not-have_page.ensures in
    subst (λ n. IsLeastPlace (HaveOtherOfSize image directories size) (Some n)) (sym (ap (λ (s : Span). s.start) page))
    (first_lack image directories one.limit is.whole size k less lack c.loop-index.invariant.0)

pub have_page-requires-clause-slots : goal.have_page-requires-clause-slots
have_page-requires-clause-slots c =
    let image = bytes_of c.args.image in
    let directories = c.args.directories.now in
    let size = c.args.page_size in
    let one = c.in_ok-one.one in
    let k = c.loop-index.index in
    let is = is_shared image directories size one c.requires c.in_ok-one.ensures in
    each_has_slot image directories one.limit is.whole size k (subst (λ n. k < n) (count_shared image directories size one is) c.loop-index-test.true)

pub loop-index-preserved : goal.loop-index-preserved
loop-index-preserved c =
    let image = bytes_of c.args.image in
    let directories = c.args.directories.now in
    let size = c.args.page_size in
    let one = c.in_ok-one.one in
    let k = c.loop-index.index in
    let is = is_shared image directories size one c.requires c.in_ok-one.ensures in
    let page : c.page_at-page.result ≡ page_span size one.limit k = c.page_at-page.ensures.page ∙ page_shared image directories size one is k in
    let message : c.read_part.result.now ≡ bytes_in image (page_span size one.limit k) = c.read_part.ensures ∙ ap (bytes_in image) page in
    let each = subst (λ (these : List ℕ). EachDirectory directories (HasPageOfSize size k these)) message c.if-not-have_page.ensures in (
      none_more (LackPage image directories size one.limit) k c.loop-index.invariant.0 (none_lacks image directories one.limit is.whole size k each),
      λ rest.
          let group : k / 4 * 4 ≡ (k + 1) / 4 * 4 = omega (arith, rest) in
          subst (λ first. AreDigestsFrom image one first c.digests_of_group-digests.result) group c.digests_of_group-digests.ensures,
    )

pub returns : goal.returns
returns c =
    let image = bytes_of c.args.image in
    let directories = c.args.directories.now in
    let size = c.args.page_size in
    let one = c.in_ok-one.one in
    let is = is_shared image directories size one c.requires c.in_ok-one.ensures in
    let count = count_shared image directories size one is in
    no_lack image directories one.limit is.whole size (λ j less. c.loop-index.invariant.0 j (omega (arith, less, count, c.loop-index-test.false)))
