use Rattle.std.proofs.Common.{◌+◌, ◌/◌, ◌≤◌, ◌<◌, ◌∙◌, ℕ, sym, ap, ap₂, subst}
use Rattle.std.proofs.lemmas.Option.{none-some}
use Rattle.macho_fields.specs.Segment.{vmaddr}
use Rattle.macho_image.specs.Segment.{SegmentView}
use Rattle.macho_alike.proofs.SaidNames.{no_item, past_items, the_index}
use Rattle.macho_alike.proofs.indirects.entry_index.Goals as goal

pub returns-in_err-item : goal.returns-in_err-item
returns-in_err-item c =
    let section = c.args.section.now in
    let begins = c.from-3.ensures ∙ c.addr.ensures in
    let is = ap₂ (λ (a b : ℕ). a + b) (c.from.ensures ∙ (c.vmaddr.ensures ∙ ap (λ (s : SegmentView). vmaddr s.image s.place) c.segment-segment.ensures)) c.from-2.ensures in
    λ index. (
      λ pointer. absurd (no_item section.image (section.segment, section.place) c.args.bound.now _ _ begins is c.item_at.result c.item_at.ensures c.in_err-item.was index pointer),
      λ known. absurd (none-some index (sym c.from_residual.ensures ∙ known)),
    )

pub returns-then-item-from : goal.returns-then-item-from
returns-then-item-from c =
    let section = c.args.section.now in
    let begins = c.from-3.ensures ∙ c.addr.ensures in
    let is = ap₂ (λ (a b : ℕ). a + b) (c.from.ensures ∙ (c.vmaddr.ensures ∙ ap (λ (s : SegmentView). vmaddr s.image s.place) c.segment-segment.ensures)) c.from-2.ensures in
    let past = subst (λ (n : ℕ). n ≤ c.in_ok-item.item) (c.from-4.ensures ∙ ap (λ (n : ℕ). n / 8) c.size.ensures) c.if-item-from.true in
    λ index. (
      λ pointer. absurd (past_items section.image (section.segment, section.place) c.args.bound.now _ _ begins is c.item_at.result c.item_at.ensures c.in_ok-item.item c.in_ok-item.was past index pointer),
      λ known. absurd (none-some index known),
    )

pub returns : goal.returns
returns c =
    let section = c.args.section.now in
    let begins = c.from-3.ensures ∙ c.addr.ensures in
    let is = ap₂ (λ (a b : ℕ). a + b) (c.from.ensures ∙ (c.vmaddr.ensures ∙ ap (λ (s : SegmentView). vmaddr s.image s.place) c.segment-segment.ensures)) c.from-2.ensures in
    let less = subst (λ (n : ℕ). c.in_ok-item.item < n) (c.from-4.ensures ∙ ap (λ (n : ℕ). n / 8) c.size.ensures) c.if-item-from.false in
    let its = c.if-bound-place.false ∙ (c.place.ensures ∙ ap (λ (s : SegmentView). s.place) c.segment-segment.ensures) in
    the_index section.image (section.segment, section.place) c.args.bound.now _ _ begins is c.item_at.result c.item_at.ensures c.in_ok-item.item c.in_ok-item.was
    (c.has_pointers.ensures.0 c.if-not-has_pointers.false) its less _ (ap (λ (n : ℕ). n + c.in_ok-item.item) (c.from-5.ensures ∙ c.reserved1.ensures.number)) c.index_of.result c.index_of.ensures
