use Rattle.std.proofs.Common.{◌≡◌, ◌≤◌, ◌+◌, ℕ, List, length, drop, Option, None, Some, slice_get, inl, inr, refl, sym, subst, ap, ap₂, ◌∙◌, arith, rules, length-take, length-drop}
use Rattle.macho_fields.specs.Bytes.{bytes_of}
use Rattle.macho_fields.specs.First.{IsUnbroken}
use Rattle.macho_fields.specs.Layers.{NothingBreaks}
use Rattle.macho_fields.specs.Rules.{BreaksImage}
use Rattle.macho_fields.specs.Universal.{FileSlice, slices_of, slice_bytes}
use Rattle.macho_fat.specs.Slices.{slice_of}
use Rattle.macho_rules.proofs.Verdicts.{file_keeps}
use Rattle.macho_rows.specs.Image.{IsSliceImage, HasTable, HasNoTable, Shows, ShowsNothing, ShowsUnbroken, image_in}
use Rattle.macho_rows.specs.Spans.{part_or_none}
use Rattle.std.proofs.lemmas.Bool.{le-leb}
use Rattle.macho_rows.specs.declared.image.KesvuotImage.{KesvuotImage}
use Rattle.macho_rows.specs.declared.image.SliceImage.{SliceImage}
use Rattle.macho_rows.specs.declared.image.SliceImage.TheVariants.{Read, Unread}
use Rattle.macho_c.specs.Images.{IsAnswer}
use Rattle.macho_c.specs.Status.{KESVUOT_OK, KESVUOT_REFUSED, KESVUOT_UNREAD}
use Rattle.macho_c.proofs.BadSlices.{broken_file, bad}
use Rattle.macho_c.proofs.image.kesvuot_read_image.Goals as goal

-- the answer by the image of a slice
abbrev IsSliceAnswer : List ℕ → ℕ → Option SliceImage → Type 0
IsSliceAnswer file k (Some (Read row)) = IsAnswer file k KESVUOT_OK row
IsSliceAnswer file k (Some (Unread row)) = IsAnswer file k KESVUOT_UNREAD row
IsSliceAnswer file k None = (row : KesvuotImage) → ShowsNothing row → IsAnswer file k KESVUOT_REFUSED row

answered : (file bytes : List ℕ) (k : ℕ) (slice : FileSlice) (found : Option SliceImage) → bytes ≡ file → HasTable bytes → Some slice ≡ slice_get (slices_of bytes) k → IsSliceImage bytes slice found
    → IsSliceAnswer file k found
answered file bytes k slice found same table at is =
    subst (λ f. IsSliceAnswer f k found) same (by found is)
  where
    by : (o : Option SliceImage) → IsSliceImage bytes slice o → IsSliceAnswer bytes k o
    by (Some (Read row)) read = inl (refl, table, slice, sym at, read)
    by (Some (Unread row)) outside = inr (inl (refl, table, slice, sym at, outside))
    by None is_bad = λ row nothing. inr (inr (inr (refl, (bad bytes k slice (sym at) is_bad, inr (slice, sym at, is_bad)), nothing)))

-- the bytes of a slice that lies in the file, by its struct
held : (file : List ℕ) (slice : FileSlice) (row : KesvuotImage) → slice.start + slice.size ≤ length file → Shows (slice_bytes file slice) slice.start row → image_in file row ≡ slice_bytes file slice
held file slice row inside shows =
    let size : row.slice.size ≡ slice.size = omega (arith, shows.size, length-take slice.size (drop slice.start file), length-drop slice.start file) in
    ap₂ (λ start len. part_or_none start len file) shows.offset size ∙ rw (le-leb _ _ inside) refl

-- what is shown of an accepted file breaks no rule
shown : (file : List ℕ) (index status : ℕ) (row : KesvuotImage) → IsAnswer file index status row → IsUnbroken file → status ≡ KESVUOT_OK → ShowsUnbroken file row
shown file index status row answer unbroken ok = elim answer [
  | inl (same, table, slice, at, read) ↦
      let (inside, image, kept, shows) = read in
      let bytes = held file slice row inside shows in
      let there : Shows (image_in file row) slice.start row = subst (λ b. Shows b slice.start row) (sym bytes) shows in
      let here : Shows (image_in file row) row.slice.offset row = subst (λ place. Shows (image_in file row) place row) (sym shows.offset) there in
      (here, None, subst (λ b. NothingBreaks (BreaksImage b None)) (sym bytes) (file_keeps file unbroken index slice (sym at) image))
  | inr (inl (unread, table, slice, at, outside)) ↦ absurd (omega (arith, unread, ok))
  | inr (inr (inl (none, table, missing, nothing))) ↦ absurd (omega (arith, none, ok))
  | inr (inr (inr (refused, broken, nothing))) ↦ absurd (omega (arith, refused, ok))
]

pub returns-in-Some-Read-clause-answer : goal.returns-in-Some-Read-clause-answer
returns-in-Some-Read-clause-answer c =
    answered c.args.file.now (bytes_of c.new-bytes.result) c.args.slice (slice_of c.in-Ok-Some.slice) (Some (Read c.in-Some-Read.shown)) c.new-bytes.ensures c.in-Ok-Some.ensures.decides
    (rw c.in-Ok-Some.field-0-is at c.in-Ok-Some.ensures.slice) (rw c.in-Some-Read.field-0-is at c.in-Some-Read.ensures)

pub returns-in-Some-Read-clause-unbroken : goal.returns-in-Some-Read-clause-unbroken
returns-in-Some-Read-clause-unbroken c = shown c.args.file.now c.args.slice KESVUOT_OK c.in-Some-Read.shown (returns-in-Some-Read-clause-answer c)

pub returns-in-Some-Unread-clause-answer : goal.returns-in-Some-Unread-clause-answer
returns-in-Some-Unread-clause-answer c =
    answered c.args.file.now (bytes_of c.new-bytes.result) c.args.slice (slice_of c.in-Ok-Some.slice) (Some (Unread c.in-Some-Unread.shown)) c.new-bytes.ensures c.in-Ok-Some.ensures.decides
    (rw c.in-Ok-Some.field-0-is at c.in-Ok-Some.ensures.slice) (rw c.in-Some-Unread.field-0-is at c.in-Some-Unread.ensures)

pub returns-in-None-clause-answer : goal.returns-in-None-clause-answer
returns-in-None-clause-answer c =
    answered c.args.file.now (bytes_of c.new-bytes.result) c.args.slice (slice_of c.in-Ok-Some.slice) None c.new-bytes.ensures c.in-Ok-Some.ensures.decides
    (rw c.in-Ok-Some.field-0-is at c.in-Ok-Some.ensures.slice) c.in-None.ensures c.no_image.result c.no_image.ensures

pub returns-in-Err-clause-answer : goal.returns-in-Err-clause-answer
returns-in-Err-clause-answer c =
    let least = rw c.in-Err.is at c.slice_at.ensures.decides in
    let broken : ¬ IsUnbroken c.args.file.now = subst (λ bytes. ¬ IsUnbroken bytes) c.new-bytes.ensures (broken_file (bytes_of c.new-bytes.result) c.in-Err.field-0 least) in
    let most = rw c.in-Err.is at c.slice_at.ensures.stops in
    let no_table : HasNoTable c.args.file.now = subst HasNoTable c.new-bytes.ensures (c.in-Err.field-0.rule, c.in-Err.field-0.place, most, least.0) in
    inr (inr (inr (refl, (broken, inl no_table), c.no_image.ensures)))

pub returns-in-Ok-None-clause-answer : goal.returns-in-Ok-None-clause-answer
returns-in-Ok-None-clause-answer c = search rules

pub returns-in-Ok-None-clause-unbroken : goal.returns-in-Ok-None-clause-unbroken
returns-in-Ok-None-clause-unbroken c = search rules
