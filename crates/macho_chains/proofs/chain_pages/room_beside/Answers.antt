use Rattle.std.proofs.Common.{◌≡◌, ℕ, List, inl, inr, sym, ap, ◌∙◌, subst}
use Rattle.std.proofs.lemmas.Bool.{false≢true}
use Rattle.macho_fields.specs.Segment.{fileoff, filesize}
use Rattle.macho_spans.specs.declared.span.Span.{Span}
use Rattle.macho_chains.specs.ChainPages.{IsClear}
use Rattle.macho_tables.specs.Homes.{bytes_of_segment}
use Rattle.macho_chains.proofs.ChainPages.{room_none, room_whole}
use Rattle.macho_chains.proofs.chain_pages.room_beside.Goals as goal
use Rattle.macho_chains.proofs.chain_pages.room_beside.Goals.{else-not-is_protected-via-then-not-is_protected+else-is_clear, else-not-is_protected-via-else-not-is_protected}

-- what is encrypted of the bytes of a segment
clear_part : (image : List ℕ) (segment : ℕ) (part : Span) (other : List ℕ) → part.start ≡ fileoff image segment → part.len ≡ filesize image segment → image ≡ other
    → IsClear part other ≡ IsClear (bytes_of_segment image segment) image
clear_part image segment part other start len same =
    ap (λ (n : ℕ). IsClear (record { start = n; len = part.len }) other) start
    ∙ (ap (λ (n : ℕ). IsClear (record { start = fileoff image segment; len = n }) other) len
    ∙ ap (λ (i : List ℕ). IsClear (bytes_of_segment image segment) i) (sym same))

pub returns-then-is_clear : goal.returns-then-is_clear
returns-then-is_clear c =
    let image = c.args.segment.now.image in
    let segment = c.args.segment.now.place in
    rw c.room.ensures
    (room_whole image segment (sym c.is_protected.ensures ∙ c.if-not-is_protected.true)
    (subst (λ (X : Type 0). X) (clear_part image segment c.file_part.result c.args.image.now c.file_part.ensures.start c.file_part.ensures.len c.requires.image) (c.is_clear.ensures.0 c.if-is_clear.true)))

pub returns-else-not-is_protected : goal.returns-else-not-is_protected
returns-else-not-is_protected c =
    let image = c.args.segment.now.image in
    let segment = c.args.segment.now.place in
    elim c.else-not-is_protected.branch [
      | else-not-is_protected-via-then-not-is_protected+else-is_clear w ↦
          room_none image segment
          (inr (λ clear. false≢true (sym w.if-is_clear.false ∙ w.is_clear.ensures.1 (subst (λ (X : Type 0). X)
          (sym (clear_part image segment w.file_part.result c.args.image.now w.file_part.ensures.start w.file_part.ensures.len c.requires.image)) clear))))
      | else-not-is_protected-via-else-not-is_protected w ↦ room_none image segment (inl (λ plain. false≢true (sym (c.is_protected.ensures ∙ plain) ∙ w.if-not-is_protected.false)))
    ]
