-- The symbols that have an address, gone over one after another.
use Rattle.std.proofs.Common.{◌≡◌, ◌∙◌, ℕ, suc, ◌+◌, ◌≤◌, ◌<◌, List, [], ◌∷◌, ◌++◌, length, take, drop, filter, cond, Bool, true, false, Some, slice_get, inl, inr, refl, sym, ap, ap₂, subst, arith, append_assoc, length-append, length-take}
use Rattle.std.specs.List.{range_with_len}
use Rattle.std.proofs.lemmas.Bool.{cases_Bool}
use Rattle.std.proofs.Math.Seq.{take-append_seam}
use Rattle.std.proofs.lemmas.List.{append-nil, take_all}
use Rattle.std.proofs.lemmas.List.Sorted.{length_permutation}
use Rattle.std.proofs.lemmas.Slice.{drop-append-drop}
use Rattle.macho_image.specs.declared.symbol.Symbol.{Symbol}
use Rattle.macho_rows.specs.SymbolIndex.{is_address, has_address, addresses, IsIndex, IsIndexed}

abbrev pub has : Symbol → Bool
has symbol = is_address symbol.kind

-- the indices of the symbols that have an address, where the first symbol has this index
abbrev pub numbers_from : ℕ → List Symbol → List ℕ
numbers_from number [] = []
numbers_from number (s ∷ rest) =
    cond (has s) (number ∷ numbers_from (number + 1) rest) (numbers_from (number + 1) rest)

at_seam : {X : Type 0} (passed : List X) (x : X) (rest : List X) → slice_get (passed ++ x ∷ rest) (length passed) ≡ Some x
at_seam [] x rest = refl
at_seam (y ∷ passed) x rest = at_seam passed x rest

-- the first one, where the others are as they should be
numbered_one : (passed : List Symbol) (s : Symbol) (rest : List Symbol)
    → numbers_from (length passed + 1) rest ≡ filter (has_address (passed ++ s ∷ rest)) (range_with_len (length passed + 1) (length rest))
    → numbers_from (length passed) (s ∷ rest) ≡ filter (has_address (passed ++ s ∷ rest)) (range_with_len (length passed) (length (s ∷ rest)))
numbered_one passed s rest later = by (has s) refl
  where
    here : has_address (passed ++ s ∷ rest) (length passed) ≡ has s
    here = rw (at_seam passed s rest) refl

    by : (b : Bool) → has s ≡ b → numbers_from (length passed) (s ∷ rest) ≡ filter (has_address (passed ++ s ∷ rest)) (range_with_len (length passed) (length (s ∷ rest)))
    by true is = rw is (rw (here ∙ is) (ap (λ numbers. length passed ∷ numbers) later))
    by false is = rw is (rw (here ∙ is) later)

numbered : (passed left : List Symbol) → numbers_from (length passed) left ≡ filter (has_address (passed ++ left)) (range_with_len (length passed) (length left))
numbered passed [] = refl
numbered passed (s ∷ rest) =
    let count : length (passed ++ s ∷ []) ≡ length passed + 1 = length-append passed (s ∷ []) in
    let next = numbered (passed ++ s ∷ []) rest in
    numbered_one passed s rest (ap (λ n. numbers_from n rest) (sym count)
    ∙ (next ∙ ap₂ (λ symbols n. filter (has_address symbols) (range_with_len n (length rest))) (append_assoc passed (s ∷ []) rest) count))

pub all_numbers : (symbols : List Symbol) → numbers_from 0 symbols ≡ addresses symbols
all_numbers symbols = numbered [] symbols

numbers_counted : (number : ℕ) (symbols : List Symbol) → length (numbers_from number symbols) ≡ length (filter has symbols)
numbers_counted number [] = refl
numbers_counted number (s ∷ rest) =
    let later = numbers_counted (number + 1) rest in
    elim (cases_Bool (has s)) [ inl is ↦ rw is (ap suc later) | inr is ↦ rw is later ]

pub addresses_counted : (symbols : List Symbol) → length (filter has symbols) ≡ length (addresses symbols)
addresses_counted symbols = sym (numbers_counted 0 symbols) ∙ ap length (all_numbers symbols)

-- after the last symbol
pub all_written : (index all : List ℕ) (written : ℕ) → take written index ++ [] ≡ all → length index ≡ length all → index ≡ all
all_written index all written is count =
    let front : take written index ≡ all = sym (append-nil (take written index)) ∙ is in
    let most : length index ≤ written = omega (arith, ap length front, count, length-take written index) in
    sym (take_all written index most) ∙ front

-- where there was room for the index, and where there was none
pub indexed : (symbols : List Symbol) (count : ℕ) (old part : List ℕ) → count ≡ length (addresses symbols) → count ≤ length old → IsIndex symbols part → IsIndexed symbols count old (part ++ drop count old)
indexed symbols count old part counted fits is =
    let size : length part ≡ count = length_permutation (addresses symbols) part is.0 ∙ sym counted in
    record {
      counted = counted;
      index = λ room. subst (IsIndex symbols) (sym (ap (λ n. take n (part ++ drop count old)) (sym size) ∙ take-append_seam part (drop count old))) is;
      rest = drop-append-drop count old part count (omega arith) size;
      unwritten = λ less. absurd (omega (arith, less, fits));
    }

pub unindexed : (symbols : List Symbol) (count : ℕ) (old : List ℕ) → count ≡ length (addresses symbols) → length old < count → IsIndexed symbols count old old
unindexed symbols count old counted less = record {
  counted = counted;
  index = λ fits. absurd (omega (arith, less, fits));
  rest = refl;
  unwritten = λ none. refl;
}
