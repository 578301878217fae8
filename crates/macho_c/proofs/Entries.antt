-- The entries of data in code: the next one, and all.
use Rattle.std.proofs.Common.{◌≡◌, ◌∙◌, ℕ, ◌+◌, ◌-◌, ◌*◌, ◌/◌, ◌==◌, ◌≤◌, ◌<◌, List, [], ◌∷◌, length, map, false, Option, Some, None, inl, inr, refl, sym, ap, ap₂, subst, arith}
use Rattle.std.specs.Prelude.{nat_le, MatchOption, if◌then◌else◌}
use Rattle.std.specs.Option.{option_map_or}
use Rattle.std.proofs.lemmas.Bool.{cases_Bool, le-leb, leb-true, ne_eqb}
use Rattle.std.proofs.lemmas.List.{length-map}
use Rattle.macho_fields.specs.declared.header.loader.TheConstants as loader
use Rattle.macho_image.specs.Symbol.{items_inside, items_from}
use Rattle.macho_image.proofs.Ranges.{inside_all, items-step}
use Rattle.macho_rows.specs.Cursor.{start, begun}
use Rattle.macho_c.specs.DataInCode.{entry_row, first_entry, entries_at, entries_left, HasAllEntries}
use Rattle.macho_rows.specs.Image.{ShowsUnbroken, image_in, only}
use Rattle.macho_rows.specs.Linkedit.{dataoff, datasize}
use Rattle.macho_rows.specs.declared.cursor.KesvuotCursor.{KesvuotCursor}
use Rattle.macho_c.specs.declared.data_in_code.KesvuotDataInCode.{KesvuotDataInCode}
use Rattle.macho_rows.specs.declared.image.KesvuotImage.{KesvuotImage}
use Rattle.macho_rows.proofs.AllSymbols.{unbroken, no_items, items_counted}
use Rattle.macho_c.proofs.NamedData.{named, data_inside, cases_fits}

-- none remain
pub none_left : (place : ℕ) (image : List ℕ) (before at : KesvuotCursor) → at ≡ begun (first_entry image) before → at.items ≡ 0
    → entries_left place image before ≡ []
none_left place image before at begins none =
    ap (entries_at place image) (sym begins) ∙ (ap (λ n. map (entry_row place image) (items_inside image at.place 8 n)) none ∙ ap (map (entry_row place image)) (no_items image at.place 8))

-- the next entry, and the cursor past it
pub next_left : (place : ℕ) (image : List ℕ) (before at after : KesvuotCursor) → at ≡ begun (first_entry image) before → 0 < at.items → at.place + at.items * 8 ≤ length image
    → after.place ≡ at.place + 8 → after.items ≡ at.items - 1
    → entries_left place image before ≡ entry_row place image at.place ∷ entries_left place image after
next_left place image before at after begins some fits to few =
    let on : after.place == 0 ≡ false = ne_eqb after.place 0 (λ zero. omega (arith, zero, to)) in
    let rest : entries_left place image after ≡ entries_at place image after = rw on refl in
    let here = sym (inside_all image at.place 8 at.items fits) ∙ items-step 8 at.place at.items some in
    let later : items_from 8 (at.place + 8) (at.items - 1) ≡ items_inside image after.place 8 after.items =
    inside_all image (at.place + 8) 8 (at.items - 1) (omega (arith, fits, some)) ∙ ap₂ (λ p n. items_inside image p 8 n) (sym to) (sym few) in
    ap (entries_at place image) (sym begins)
    ∙ (ap (map (entry_row place image)) (here ∙ ap (λ places. at.place ∷ places) later)
    ∙ ap (λ rows. entry_row place image at.place ∷ rows) (sym rest))

-- All entries of an image that breaks no rule
module _ (file : List ℕ) (row : KesvuotImage) (shows : ShowsUnbroken file row) where
  abbrev image : List ℕ
  image = image_in file row

  abbrev place : ℕ
  place = row.slice.offset

  abbrev data_read : ℕ → ℕ × ℕ
  data_read c = if nat_le (dataoff image c + datasize image c) (length image) then (dataoff image c, datasize image c) else (0, 0)

  abbrev entries_found : ℕ × ℕ → List KesvuotDataInCode
  entries_found found = map (entry_row place image) (items_inside image found.0 8 (found.1 / 8))

  abbrev HasAll : Option ℕ → List KesvuotDataInCode → Type 0
  HasAll first rows =
      MatchOption first (rows ≡ []) (λ command.
      (rows ≡ map (entry_row place image) (items_inside image (dataoff image command) 8 (datasize image command / 8)))
      × (length rows ≡ datasize image command / 8))

  none_found : entries_found (0, 0) ≡ []
  none_found = ap (map (entry_row place image)) (no_items image 0 8)

  of_first : (first : Option ℕ) → only image loader.LC_DATA_IN_CODE ≡ first → HasAll first (entries_found (option_map_or data_read first (0, 0)))
  of_first None at = none_found
  of_first (Some c) at = elim (cases_Bool (nat_le (dataoff image c + datasize image c) (length image))) [
    | inl fits ↦ rw fits (
      refl,
      length-map (items_inside image (dataoff image c) 8 (datasize image c / 8)) (entry_row place image)
          ∙ items_counted image (dataoff image c) 8 (datasize image c / 8) (λ outside. let most = leb-true _ _ fits in omega (arith, most, outside.0, outside.1)),
    )
    | inr past ↦ rw past (none_of (empty past))
  ]
    where
      empty : nat_le (dataoff image c + datasize image c) (length image) ≡ false → datasize image c ≡ 0
      empty past = elim (cases_fits image c (data_inside image (unbroken file row shows) loader.LC_DATA_IN_CODE refl c at)) [
        | inl fits ↦ absurd (let is = le-leb _ _ fits in cc)
        | inr none ↦ none
      ]

      none_of : datasize image c ≡ 0 → HasAll (Some c) (entries_found (0, 0))
      none_of none = rw none (ap (map (entry_row place image)) (no_items image 0 8 ∙ sym (no_items image (dataoff image c) 8)), ap length none_found)

  pub has_entries : HasAllEntries place image (entries_left place image start)
  has_entries =
      subst (HasAll (only image loader.LC_DATA_IN_CODE)) (sym (ap entries_found (named image (unbroken file row shows) loader.LC_DATA_IN_CODE refl)))
      (of_first (only image loader.LC_DATA_IN_CODE) refl)
