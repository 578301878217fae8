-- What is said of a place of a table of linked data, where the table was found.
use Rattle.std.proofs.Common.{◌≡◌, ◌∙◌, ℕ, ◌+◌, ◌≤◌, ◌<◌, List, length, Option, None, Some, ap, sym, subst, arith}
use Rattle.std.proofs.lemmas.Option.{none-some, same_Some}
use Rattle.macho_fields.specs.Field.{part}
use Rattle.macho_image.proofs.ReadParts.{length-part}
use Rattle.macho_spans.specs.Span.{end_of}
use Rattle.macho_spans.specs.declared.span.Span.{Span}
use Rattle.macho_image.specs.Opened.{IsOpened}
use Rattle.macho_rows.specs.Rows.{HasUnbrokenHeaders}
use Rattle.macho_rows.proofs.AllCommands.{has_opened}
use Rattle.macho_explain.specs.Wholes.{IsWhole, InWhole, Opens}
use Rattle.macho_explain.specs.declared.table.Bounded.{Bounded}

-- an image that was opened
pub opened_of : (image bytes : List ℕ) → HasUnbrokenHeaders bytes None → image ≡ bytes → IsOpened image
opened_of image bytes kept same = has_opened image (subst (λ b. HasUnbrokenHeaders b None) (sym same) kept)

-- what was read of a table that is named
pub whole_read : (image : List ℕ) (named : Option Span) (asked table : Bounded) (bytes : List ℕ) → named ≡ Some asked.span
    → (table ≡ asked) × (end_of asked.span ≤ length image) × (bytes ≡ part asked.span.start asked.span.len image) → IsWhole image named table.span bytes
whole_read image named asked table bytes is (same, inside, read) =
    let equal : asked.span ≡ table.span = ap (λ (t : Bounded). t.span) (sym same) in
    record {
      named = is ∙ ap Some equal;
      inside = subst (λ (s : Span). end_of s ≤ length image) equal inside;
      bytes = subst (λ (s : Span). bytes ≡ part s.start s.len image) equal read;
    }

-- all bytes of the table are there
pub whole_size : (image : List ℕ) (named : Option Span) (table : Span) (bytes : List ℕ) → IsWhole image named table bytes → length bytes ≡ table.len
whole_size image named table bytes is = ap length is.bytes ∙ length-part table.start table.len image is.inside

module _ (image : List ℕ) (named : Option Span) (table : Span) (bytes : List ℕ) (is : IsWhole image named table bytes) where
  -- nothing else can be
  pub same_table : (other : Span) (read : List ℕ) → IsWhole image named other read → other ≡ table
  same_table other read also = same_Some other table (sym also.named ∙ is.named)

  pub same_bytes : (other : Span) (read : List ℕ) → IsWhole image named other read → read ≡ bytes
  same_bytes other read also = also.bytes ∙ (ap (λ (t : Span). part t.start t.len image) (same_table other read also) ∙ sym is.bytes)

module _ (image : List ℕ) (named : Option Span) (table : Span) (bytes : List ℕ) (is : IsWhole image named table bytes) (P : ℕ → List ℕ → ℕ → Type 0) (place : ℕ) where
  -- it is said of that table
  pub of_whole : InWhole image named P place → (offset : ℕ) × (place ≡ table.start + offset) × P table.start bytes offset
  of_whole (other, read, also, offset, at, has) =
      let one : other ≡ table = same_table image named table bytes is other read also in
      let same : read ≡ bytes = same_bytes image named table bytes is other read also in (
        offset,
        subst (λ (t : Span). place ≡ t.start + offset) one at,
        subst (λ (b : List ℕ). P table.start b offset) same (subst (λ (t : Span). P t.start read offset) one has),
      )

  -- at the offset of the place
  pub at_offset : (offset : ℕ) → place ≡ table.start + offset → InWhole image named P place → P table.start bytes offset
  at_offset offset at has =
      let (other, there, here) = of_whole has in
      let same : other ≡ offset = omega (arith, at, there) in subst (λ n. P table.start bytes n) same here

  -- which is not before the table
  pub not_before : place < table.start → ¬ InWhole image named P place
  not_before less has = let (offset, there, here) = of_whole has in omega (arith, less, there)

module _ (image : List ℕ) (named : Option Span) where
  -- the table is missing, or does not lie in the image
  pub none_named : named ≡ None → (table : Span) (bytes : List ℕ) → ¬ IsWhole image named table bytes
  none_named none table bytes is = none-some table (sym none ∙ is.named)

  pub none_inside : (found : Span) → named ≡ Some found → length image < end_of found → (table : Span) (bytes : List ℕ) → ¬ IsWhole image named table bytes
  none_inside found is past table bytes whole =
      let same : table ≡ found = same_Some table found (sym whole.named ∙ is) in
      let inside : end_of found ≤ length image = subst (λ (t : Span). end_of t ≤ length image) same whole.inside in
      omega (arith, inside, past)

  module _ (P : ℕ → List ℕ → ℕ → Type 0) (place : ℕ) where
    -- so nothing is in it
    pub lacks : (Opens image → (table : Span) (bytes : List ℕ) → ¬ IsWhole image named table bytes) → ¬ (Opens image × InWhole image named P place)
    lacks none (opens, (table, bytes, is, offset, at, has)) = none opens table bytes is

    -- a place of the table is one of the image
    pub in_image : ((start offset : ℕ) (bytes : List ℕ) → P start bytes offset → offset < length bytes) → InWhole image named P place → place < length image
    in_image within (table, bytes, is, offset, at, has) =
        let size = whole_size image named table bytes is in
        let less = within table.start offset bytes has in
        let inside = is.inside in omega (arith, at, size, less, inside)
