-- The symbol that is listed at an index, and where it is.
use Rattle.std.proofs.Common.{◌≡◌, ◌∙◌, ℕ, ◌+◌, ◌*◌, ◌≤◌, ◌<◌, ◌⊎◌, List, [], map, Option, true, inl, inr, refl, sym, ap, subst, arith}
use Rattle.std.specs.Prelude.{nat_le, slice_get, length, None, Some, IsSomeAnd, if◌then◌else◌}
use Rattle.std.specs.List.{range_with_len}
use Rattle.std.specs.Option.{option_map, option_map_or}
use Rattle.std.proofs.Math.Nat.{mul_comm}
use Rattle.std.proofs.lemmas.Bool.{cases_Bool, cases_lt, le-leb}
use Rattle.std.proofs.lemmas.List.{length-map}
use Rattle.std.proofs.lemmas.List.FromFn.{length-map-range_with_len, length-range_with_len, get_or-range_with_len}
use Rattle.std.proofs.lemmas.Option.{none-some, same_Some, slice_get-map, slice_get-get_or, slice_get_past}
use Rattle.macho_fields.specs.Image.{commands_of}
use Rattle.macho_fields.specs.Symbol.{indirectsymoff, nindirectsyms, nsyms, symoff, IsOutside}
use Rattle.macho_fields.specs.declared.header.loader.TheConstants as loader
use Rattle.macho_image.specs.Command.{first_with_cmd}
use Rattle.macho_image.specs.Symbol.{dysymtab_at, indirect_at, indirects_of, items_inside, symbol_at}
use Rattle.macho_image.specs.declared.indirect.Indirect.{Indirect}
use Rattle.macho_image.specs.declared.symbol.Symbol.{Symbol}
use Rattle.macho_explain.specs.Alike.{IsIndirectAt}
use Rattle.macho_explain.specs.Explain.{IsSymbolAt}
use Rattle.macho_explain.proofs.Walked.{mapped}

pub symbol_is : (image : List ℕ) (places : List ℕ) (k : ℕ) (symbol : Symbol) (place : ℕ) → slice_get (map (symbol_at image) places) k ≡ Some symbol → symbol.place ≡ place
    → symbol ≡ symbol_at image place
symbol_is image places k symbol place is at =
    let (x, same) = mapped (symbol_at image) places k symbol is in
    let there : x ≡ place = ap (λ (s : Symbol). s.place) same ∙ at in
    sym same ∙ ap (symbol_at image) there

-- the number at an index of a range
ranged : (n k : ℕ) → (slice_get (range_with_len 0 n) k ≡ Some k) ⊎ (slice_get (range_with_len 0 n) k ≡ None)
ranged n k =
    let size = length-range_with_len 0 n in
    elim (cases_lt k n) [
      | inl less ↦ inl (slice_get-get_or (range_with_len 0 n) k 0 (omega (arith, less, size)) ∙ ap Some (let at = get_or-range_with_len 0 n k 0 less in omega (arith, at)))
      | inr past ↦ inr (slice_get_past (range_with_len 0 n) k (omega (arith, past, size)))
    ]

-- what f reads of the item at an index of a table
pub item_got : {X : Type 0} (f : ℕ → X) (image : List ℕ) (start each n k : ℕ) (x : X) → slice_get (map f (items_inside image start each n)) k ≡ Some x → x ≡ f (start + each * k)
item_got {X = X} f image start each n k x is = elim (cases_Bool (nat_le (start + each * n) (length image))) [
  | inl t ↦ inside (subst (λ b. slice_get (map f (if b then map at (range_with_len 0 n) else [])) k ≡ Some x) t is)
  | inr none ↦ absurd (none-some x (subst (λ b. slice_get (map f (if b then map at (range_with_len 0 n) else [])) k ≡ Some x) none is))
]
  where
    at : ℕ → ℕ
    at j = start + each * j

    inside : slice_get (map f (map at (range_with_len 0 n))) k ≡ Some x → x ≡ f (start + each * k)
    inside got =
        let read : slice_get (map f (map at (range_with_len 0 n))) k ≡ option_map f (option_map at (slice_get (range_with_len 0 n) k)) =
        slice_get-map f (map at (range_with_len 0 n)) k ∙ ap (option_map f) (slice_get-map at (range_with_len 0 n) k) in
        elim (ranged n k) [
          | inl here ↦ same_Some x (f (at k)) (sym got ∙ (read ∙ ap (λ o. option_map f (option_map at o)) here))
          | inr past ↦ absurd (none-some x (sym (ap (λ o. option_map f (option_map at o)) past) ∙ (sym read ∙ got)))
        ]

-- the item at an index of a table that lies in the image is listed there
pub item_listed : {X : Type 0} (f : ℕ → X) (image : List ℕ) (start each n k : ℕ) → ¬ IsOutside image (start, n, each) → k < n → slice_get (map f (items_inside image start each n)) k ≡ Some (f (start + each * k))
item_listed f image start each n k inside less = rw fits (read ∙ ap (λ o. option_map f (option_map at o)) there)
  where
    at : ℕ → ℕ
    at j = start + each * j

    whole : (size : ℕ) → size ≡ each * n → start + size ≤ length image
    whole size is = elim (cases_lt (length image) (start + size)) [
      | inl past ↦ absurd (inside (omega (arith, less), subst (λ (m : ℕ). length image < start + m) (is ∙ mul_comm each n) past))
      | inr most ↦ most
    ]

    fits : nat_le (start + each * n) (length image) ≡ true
    fits = le-leb (start + each * n) (length image) (whole (each * n) refl)

    there : slice_get (range_with_len 0 n) k ≡ Some k
    there =
        let size = length-range_with_len 0 n in
        slice_get-get_or (range_with_len 0 n) k 0 (omega (arith, less, size)) ∙ ap Some (let here = get_or-range_with_len 0 n k 0 less in omega (arith, here))

    read : slice_get (map f (map at (range_with_len 0 n))) k ≡ option_map f (option_map at (slice_get (range_with_len 0 n) k))
    read = slice_get-map f (map at (range_with_len 0 n)) k ∙ ap (option_map f) (slice_get-map at (range_with_len 0 n) k)

-- where it is in the symbol table
module _ (image : List ℕ) (k place : ℕ) (is : IsSymbolAt image k place) where
  in_table : (first : Option ℕ) → slice_get (map (symbol_at image) (option_map_or (λ c. items_inside image (symoff image c) 16 (nsyms image c)) first [])) k ≡ Some is.0
      → (c : ℕ) × (first ≡ Some c) × (place ≡ symoff image c + 16 * k)
  in_table None listed = absurd (none-some is.0 listed)
  in_table (Some c) listed =
      (c, refl, sym is.2 ∙ ap (λ (s : Symbol). s.place) (item_got (symbol_at image) image (symoff image c) 16 (nsyms image c) k is.0 listed))

  pub symbol_place : (c : ℕ) × (first_with_cmd image loader.LC_SYMTAB (commands_of image) ≡ Some c) × (place ≡ symoff image c + 16 * k)
  symbol_place = in_table (first_with_cmd image loader.LC_SYMTAB (commands_of image)) is.1

-- The indirect entry that is listed at an index

-- an index of a listed item is one of the table
item_bound : {X : Type 0} (f : ℕ → X) (image : List ℕ) (start each n k : ℕ) (x : X) → slice_get (map f (items_inside image start each n)) k ≡ Some x → k < n
item_bound {X = X} f image start each n k x is = elim (cases_Bool (nat_le (start + each * n) (length image))) [
  | inl t ↦ inside (subst (λ b. slice_get (map f (if b then map at (range_with_len 0 n) else [])) k ≡ Some x) t is)
  | inr none ↦ absurd (none-some x (subst (λ b. slice_get (map f (if b then map at (range_with_len 0 n) else [])) k ≡ Some x) none is))
]
  where
    at : ℕ → ℕ
    at j = start + each * j

    inside : slice_get (map f (map at (range_with_len 0 n))) k ≡ Some x → k < n
    inside got = elim (cases_lt k n) [
      | inl less ↦ less
      | inr past ↦ (
          let size = length-map (map at (range_with_len 0 n)) f ∙ length-map-range_with_len at 0 n in
          absurd (none-some x (sym (slice_get_past (map f (map at (range_with_len 0 n))) k (omega (arith, past, size))) ∙ got))
          )
    ]

pub entry_there : (image : List ℕ) (k : ℕ) (entry : Indirect) → slice_get (map (indirect_at image) (indirects_of image (commands_of image))) k ≡ Some entry → IsIndirectAt image k entry.place
entry_there image k entry listed = in_table (first_with_cmd image loader.LC_DYSYMTAB (commands_of image)) listed
  where
    in_table : (first : Option ℕ) → slice_get (map (indirect_at image) (option_map_or (λ c. items_inside image (indirectsymoff image c) 4 (nindirectsyms image c)) first [])) k ≡ Some entry
        → IsSomeAnd (option_map (dysymtab_at image) first) (λ d. (k < d.nindirectsyms) × (entry.place ≡ d.indirectsymoff + 4 * k))
    in_table None at = absurd (none-some entry at)
    in_table (Some c) at = (
      item_bound (indirect_at image) image (indirectsymoff image c) 4 (nindirectsyms image c) k entry at,
      ap (λ (i : Indirect). i.place) (item_got (indirect_at image) image (indirectsymoff image c) 4 (nindirectsyms image c) k entry at),
    )
