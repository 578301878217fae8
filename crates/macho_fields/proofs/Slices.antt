-- The slices of a file: one for each entry, or the whole of a file with no table.
use Rattle.std.proofs.Common.{◌≡◌, ℕ, ◌<◌, List, length, map, Any, All, Some, slice_get, refl, sym, ap, ◌∙◌, subst, arith}
use Rattle.std.specs.List.{range_with_len}
use Rattle.std.proofs.lemmas.List.FromFn.{length-map-range_with_len, get_or-map-range_with_len}
use Rattle.std.proofs.lemmas.Option.{slice_get-get_or}
use Rattle.macho_fields.specs.Universal.{FileSlice, IsUniversal, entry_count, entry_slice, slices_of}

-- the slices of the first k entries
abbrev pub first_slices : List ℕ → ℕ → List FileSlice
first_slices file k = map (entry_slice file) (range_with_len 0 k)

pub universal_slices : (file : List ℕ) → IsUniversal file → slices_of file ≡ first_slices file (entry_count file)
universal_slices file universal = let e = universal.1 in rw e refl

pub slice_count : (file : List ℕ) → IsUniversal file → length (slices_of file) ≡ entry_count file
slice_count file universal =
    ap length (universal_slices file universal) ∙ length-map-range_with_len (entry_slice file) 0 (entry_count file)

-- what holds of some slice holds of the slice of some entry
pub some_entry : (file : List ℕ) (P : FileSlice → Type 0) → IsUniversal file → Any P (slices_of file) → (k : ℕ) × (k < entry_count file) × P (entry_slice file k)
some_entry file P universal any = among (subst (Any P) (universal_slices file universal) any)
  where
    among : Any P (first_slices file (entry_count file)) → (k : ℕ) × (k < entry_count file) × P (entry_slice file k)
    among (k, slice, less, at, here) =
        let inside : k < entry_count file = omega (arith, less, length-map-range_with_len (entry_slice file) 0 (entry_count file)) in
        let same = get_or-map-range_with_len (entry_slice file) 0 (entry_count file) k k slice inside (omega arith) in
        (k, inside, subst P (sym at ∙ same) here)

pub some_slice : (file : List ℕ) (P : FileSlice → Type 0) (k : ℕ) → IsUniversal file → k < entry_count file → P (entry_slice file k) → Any P (slices_of file)
some_slice file P k universal less here = subst (Any P) (sym (universal_slices file universal)) among
  where
    among : Any P (first_slices file (entry_count file))
    among = (
      k,
      entry_slice file k,
      omega (arith, less, length-map-range_with_len (entry_slice file) 0 (entry_count file)),
      get_or-map-range_with_len (entry_slice file) 0
          (entry_count file) k k (entry_slice file k) less (omega arith),
      here,
    )

-- what holds of all slices holds of the slice of each entry
pub each_entry : (file : List ℕ) (P : FileSlice → Type 0) → IsUniversal file → All P (slices_of file) → (k : ℕ) → k < entry_count file → P (entry_slice file k)
each_entry file P universal all k less =
    let among = subst (All P) (universal_slices file universal) all in
    let here = among k (entry_slice file k) (omega (arith, less, length-map-range_with_len (entry_slice file) 0 (entry_count file))) in
    subst P (get_or-map-range_with_len (entry_slice file) 0 (entry_count file) k k (entry_slice file k) less (omega arith)) here

pub each_slice : (file : List ℕ) (P : FileSlice → Type 0) → IsUniversal file → ((k : ℕ) → k < entry_count file → P (entry_slice file k)) → All P (slices_of file)
each_slice file P universal each = subst (All P) (sym (universal_slices file universal)) among
  where
    among : All P (first_slices file (entry_count file))
    among k other less =
        let inside : k < entry_count file = omega (arith, less, length-map-range_with_len (entry_slice file) 0 (entry_count file)) in
        subst P (sym (get_or-map-range_with_len (entry_slice file) 0 (entry_count file) k k other inside (omega arith))) (each k inside)

-- the slice at an index is the entry's
pub slice_of_entry : (file : List ℕ) (k : ℕ) → IsUniversal file → k < entry_count file → slice_get (slices_of file) k ≡ Some (entry_slice file k)
slice_of_entry file k universal less =
    let among : slice_get (first_slices file (entry_count file)) k ≡ Some (entry_slice file k) =
    slice_get-get_or (first_slices file (entry_count file)) k (entry_slice file k) (omega (arith, less, length-map-range_with_len (entry_slice file) 0 (entry_count file)))
    ∙ ap Some (get_or-map-range_with_len (entry_slice file) 0 (entry_count file) k k (entry_slice file k) less (omega arith)) in
    ap (λ slices. slice_get slices k) (universal_slices file universal) ∙ among
