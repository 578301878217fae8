use Rattle.std.proofs.lemmas.Bool.{cases_lt, false≢true}
use Rattle.std.proofs.Common.{◌≡◌, ◌∙◌, sym, subst, inl, inr, ◌≤◌, ◌<◌, length, arith}
use Rattle.macho_fields.specs.Bytes.{bytes_of}
use Rattle.macho_fields.specs.Universal.{slices_of}
use Rattle.macho_readers.specs.Files.{IsOffPages}
use Rattle.macho_readers.proofs.FatEntries.{entry_computed, least_entry, no_entry}
use Rattle.macho_readers.proofs.slice_pages.fat_page.Goals as goal

pub overflow_mul-place : goal.overflow_mul-place
overflow_mul-place c =
    let file = c.args.verified.now in
    let less : c.loop-index.index < length (slices_of file) = omega (arith, c.loop-index-test.true, c.loop-index.auto.index-end, c.slice_count-index-end.ensures) in
    let (universal, at, inside, within) = entry_computed file (bytes_of c.bytes.result) c.in-Some.size c.loop-index.index c.bytes.ensures.bytes c.bytes.ensures.unbroken c.in-Some.ensures less in
    omega (arith, inside, c.bytes.ensures.fits)

pub overflow_add-place : goal.overflow_add-place
overflow_add-place c =
    let file = c.args.verified.now in
    let less : c.loop-index.index < length (slices_of file) = omega (arith, c.loop-index-test.true, c.loop-index.auto.index-end, c.slice_count-index-end.ensures) in
    let (universal, at, inside, within) = entry_computed file (bytes_of c.bytes.result) c.in-Some.size c.loop-index.index c.bytes.ensures.bytes c.bytes.ensures.unbroken c.in-Some.ensures less in
    omega (arith, inside, c.bytes.ensures.fits)

pub is_off_pages-requires-clause-inside : goal.is_off_pages-requires-clause-inside
is_off_pages-requires-clause-inside c =
    let file = c.args.verified.now in
    let less : c.loop-index.index < length (slices_of file) = omega (arith, c.loop-index-test.true, c.loop-index.auto.index-end, c.slice_count-index-end.ensures) in
    let (universal, at, inside, within) = entry_computed file (bytes_of c.bytes.result) c.in-Some.size c.loop-index.index c.bytes.ensures.bytes c.bytes.ensures.unbroken c.in-Some.ensures less in
    omega (arith, inside)

pub returns-then-is_off_pages : goal.returns-then-is_off_pages
returns-then-is_off_pages c =
    let file = c.args.verified.now in
    let less : c.loop-index.index < length (slices_of file) = omega (arith, c.loop-index-test.true, c.loop-index.auto.index-end, c.slice_count-index-end.ensures) in
    let (universal, at, inside, within) = entry_computed file (bytes_of c.bytes.result) c.in-Some.size c.loop-index.index c.bytes.ensures.bytes c.bytes.ensures.unbroken c.in-Some.ensures less in
    record { least = least_entry file (IsOffPages file) c.loop-index.index _ universal within c.loop-index.invariant (c.is_off_pages.ensures.0 c.if-is_off_pages.true) at; memory = tt }

pub returns : goal.returns
returns c =
    let file = c.args.verified.now in
    let all : length (slices_of file) ≤ c.loop-index.index = omega (arith, c.loop-index-test.false, c.loop-index.auto.index-end, c.slice_count-index-end.ensures) in
    record { least = no_entry file (bytes_of c.bytes.result) (IsOffPages file) c.loop-index.index c.bytes.ensures.bytes c.in-Some.ensures.0 all c.loop-index.invariant; memory = tt }

pub loop-index-preserved : goal.loop-index-preserved
loop-index-preserved c = λ i within here. elim (cases_lt i c.loop-index.index) [
  | inl before ↦ c.loop-index.invariant i before here
  | inr most ↦ (let same : i ≡ c.loop-index.index = omega (arith, within, most) in
      absurd (false≢true (sym c.if-is_off_pages.false ∙ c.is_off_pages.ensures.1 (subst (IsOffPages c.args.verified.now) same here))))
]
