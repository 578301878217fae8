-- The pages of the slice of an entry.
use Rattle.std.proofs.Common.{◌≡◌, ◌∙◌, ℕ, ◌+◌, ◌-◌, ◌*◌, ◌%◌, ◌^◌, ◌≤◌, ◌<◌, ◌==◌, List, Some, ap, ap₂, arith, inl, inr, length, subst, sym}
use Rattle.std.specs.Prelude.{slice_get}
use Rattle.std.proofs.lemmas.Bool.{cases_Bool}
use Rattle.macho_fields.specs.Field.{number}
use Rattle.macho_fields.specs.Universal.{FileSlice, entry_count, entry_place, entry_slice, has_wide_entries, slices_of}
use Rattle.macho_fields.specs.declared.bytes.Order.TheVariants.{Big}
use Rattle.macho_fields.specs.declared.header.machine.TheConstants as machine
use Rattle.macho_fat.specs.Slices.{slice_of}
use Rattle.macho_fat.specs.declared.slice.Slice.{Slice}
use Rattle.macho_readers.specs.Files.{entry_cputype, pages_end}
use Rattle.macho_readers.specs.Pages.{page_end, page_size}
use Rattle.macho_explain.specs.Entries.{HasEntryWith, HasTable}
use Rattle.macho_explain.specs.Readers.{HasNoneWithin, IsOffItsPages}
use Rattle.macho_explain.proofs.ListedEntries.{entry_is, same_entry}

-- the slice of entry k begins after the start and before the end
abbrev pub BeginsWithin : List ℕ → ℕ → ℕ → ℕ → Type 0
BeginsWithin file start end k = (start < (entry_slice file k).start) × ((entry_slice file k).start < end)

-- where the pages end
pub page_end_fits : (cputype last : ℕ) → last < 2 ^ 66 → page_end (page_size cputype) last < 2 ^ 128
page_end_fits cputype last less = elim (cases_Bool (cputype == machine.CPU_TYPE_X86_64)) [ inl t ↦ rw t (omega (arith, less)) | inr f ↦ rw f (omega (arith, less)) ]

-- an entry lies in the file
entry_inside : (file : List ℕ) (place index : ℕ) → HasTable file → index < entry_count file → place ≡ entry_place file index → place + 4 ≤ length file
entry_inside file place index has less is = elim (cases_Bool (has_wide_entries file)) [
  | inl wide ↦
      let here : place ≡ 8 + index * 32 = rw wide at is in
      let whole : 8 + entry_count file * 32 ≤ length file = rw wide at has.whole in omega (arith, here, whole, less)
  | inr narrow ↦
      let here : place ≡ 8 + index * 20 = rw narrow at is in
      let whole : 8 + entry_count file * 20 ≤ length file = rw narrow at has.whole in omega (arith, here, whole, less)
]

-- an entry whose slice begins at a page, and in whose pages no slice begins
pub none_off_pages : (file : List ℕ) (place index : ℕ) (slice : Slice) → (HasTable file → (index < entry_count file) × (place ≡ entry_place file index))
    → slice_get (slices_of file) index ≡ Some (slice_of slice) → (cputype : ℕ) → (place + 4 ≤ length file → cputype ≡ number Big 4 file place)
    → (page : ℕ) → page ≡ page_size cputype → slice.span.start % page ≡ 0 → (end : ℕ) → end ≡ page_end (page_size cputype) (slice.span.start + slice.span.len - 1)
    → HasNoneWithin file slice.span.start end → ¬ HasEntryWith IsOffItsPages file place
none_off_pages file place index slice at listed cputype word page sized even end ends none (has, (k, less, there, off)) =
    let same : k ≡ index = same_entry file k index (sym there ∙ (at has).1) in
    let own = entry_is file index slice has (at has).0 listed in
    let start : slice.span.start ≡ (entry_slice file index).start = ap (λ (s : FileSlice). s.start) own in
    let size : slice.span.len ≡ (entry_slice file index).size = ap (λ (s : FileSlice). s.size) own in
    let type : cputype ≡ entry_cputype file index = word (entry_inside file place index has (at has).0 (at has).1) ∙ ap (number Big 4 file) (at has).1 in
    let its : page ≡ page_size (entry_cputype file index) = sized ∙ ap page_size type in
    let to : end ≡ pages_end file index = ends ∙ ap₂ (λ p l. page_end p l) (ap page_size type) (ap₂ (λ a b. a + b - 1) start size) in
    elim (subst (IsOffItsPages file) same off) [
      | inl uneven ↦ uneven (ap₂ (λ a b. a % b) (sym start) (sym its) ∙ even)
      | inr (j, few, after, before) ↦
          none has j few (subst (λ n. n < (entry_slice file j).start) (sym start) after, subst (λ n. (entry_slice file j).start < n) (sym to) before)
    ]
