-- The nearest of the symbols that were passed, and the first section that was found.
use Rattle.std.proofs.Common.{◌≡◌, ◌∙◌, ℕ, ◌+◌, ◌≤◌, ◌<◌, List, [], ◌∷◌, ◌++◌, All, Option, None, Some, length, take, drop, MatchOption, refl, sym, ap, subst, append_assoc, le_refl, arith}
use Rattle.std.proofs.lemmas.List.{take-append-drop, drop_more, get_or-take, length-take-le}
use Rattle.std.proofs.lemmas.List.Elements.{All-nil, All-cons, All-append, All-push, All-weaker, All-from_all_within}
use Rattle.std.specs.List.{AllWithin, HoldsAt}
use Rattle.macho_image.specs.Segment.{SectionView}
use Rattle.macho_verified.specs.Image.{SymbolView}
use Rattle.symbolize.specs.Find.{value_of, IsAtOrBefore, IsNearest, HasAddress, IsFirstAt}

-- of the symbols that were passed, none is at or before the address, or this one is nearest to it
abbrev pub IsNearestSoFar : ℕ → List SymbolView → Option SymbolView → ℕ → Type 0
IsNearestSoFar address passed None start = (start ≡ 0) × All (λ symbol. ¬ IsAtOrBefore address symbol) passed
IsNearestSoFar address passed (Some nearest) start = (value_of nearest ≡ start) × IsNearest address passed nearest

-- no symbol at or before the address has a greater value than the nearest one
none_greater : (address : ℕ) (symbols : List SymbolView) (nearest : SymbolView) → IsNearest address symbols nearest
    → All (λ other. IsAtOrBefore address other → value_of other ≤ value_of nearest) symbols
none_greater address symbols nearest near =
    let P : SymbolView → Type 0 = λ other. IsAtOrBefore address other → value_of other ≤ value_of nearest in
    let Q : SymbolView → Type 0 = λ other. IsAtOrBefore address other → value_of other < value_of nearest in
    let weaker : (other : SymbolView) → Q other → P other = λ other less reaches. let fact = less reaches in omega arith in
    subst (All P) (sym near.among)
    (All-append P near.before (nearest ∷ near.after) near.none_nearer (All-cons P nearest near.after (λ _. le_refl (value_of nearest)) (All-weaker Q P weaker near.after near.none_later)))

-- a symbol at or before the address, from start on, is the nearest one then
pub taken : (address : ℕ) (passed : List SymbolView) (nearest : Option SymbolView) (start : ℕ) (symbol : SymbolView) → IsNearestSoFar address passed nearest start
    → IsAtOrBefore address symbol → start ≤ value_of symbol
    → IsNearest address (passed ++ symbol ∷ []) symbol
taken address passed nearest start symbol so_far reaches above =
    record { before = passed; after = []; among = refl; reaches = reaches; none_nearer = below nearest so_far; none_later = All-nil _ }
  where
    below : (nearest : Option SymbolView) → IsNearestSoFar address passed nearest start → All (λ other. IsAtOrBefore address other → value_of other ≤ value_of symbol) passed
    below None (is, none) =
        All-weaker (λ other. ¬ IsAtOrBefore address other) (λ other. IsAtOrBefore address other → value_of other ≤ value_of symbol) (λ other no yes. absurd (no yes)) passed none
    below (Some near) (is, here) =
        All-weaker (λ other. IsAtOrBefore address other → value_of other ≤ value_of near) (λ other. IsAtOrBefore address other → value_of other ≤ value_of symbol)
        (λ other most yes. let fact = most yes in omega arith) passed (none_greater address passed near here)

-- any other symbol changes nothing
pub passed_over : (address : ℕ) (passed : List SymbolView) (nearest : Option SymbolView) (start : ℕ) (symbol : SymbolView) → IsNearestSoFar address passed nearest start
    → (IsAtOrBefore address symbol → value_of symbol < start)
    → IsNearestSoFar address (passed ++ symbol ∷ []) nearest start
passed_over address passed None start symbol (is, none) below =
    (is, All-push (λ other. ¬ IsAtOrBefore address other) passed symbol none (λ yes. let fact = below yes in omega arith))
passed_over address passed (Some nearest) start symbol (is, near) below = (
  is,
  record {
    before = near.before;
    after = near.after ++ symbol ∷ [];
    among = ap (λ symbols. symbols ++ symbol ∷ []) near.among ∙ append_assoc near.before (nearest ∷ near.after) (symbol ∷ []);
    reaches = near.reaches;
    none_nearer = near.none_nearer;
    none_later =
        All-push (λ other. IsAtOrBefore address other → value_of other < value_of nearest) near.after symbol near.none_later (λ yes. let fact = below yes in omega arith);
  },
)

-- after the last symbol
pub nearest_of_all : (address : ℕ) (all passed : List SymbolView) (nearest : Option SymbolView) (start : ℕ) → passed ≡ all → IsNearestSoFar address passed nearest start
    → MatchOption nearest (All (λ symbol. ¬ IsAtOrBefore address symbol) all) (IsNearest address all)
nearest_of_all address all passed None start is (zero, none) = subst (All (λ symbol. ¬ IsAtOrBefore address symbol)) is none
nearest_of_all address all passed (Some nearest) start is (value, near) = subst (λ symbols. IsNearest address symbols nearest) is near

-- what stands before an index
all_before : (P : SectionView → Type 0) (all : List SectionView) (i : ℕ) → i < length all → AllWithin P all 0 i → All P (take i all)
all_before P all i less holds k d few =
    let below : k < i = omega (arith, few, length-take-le i all (omega (arith, less))) in
    subst P (sym (get_or-take i all k d below)) (holds k d (omega arith) below)

-- the first section, by its index
pub first_with : (address : ℕ) (all : List SectionView) (found : Option SectionView)
    → MatchOption found (AllWithin (λ section. ¬ HasAddress address section) all 0 (length all))
    (λ x. HasAddress address x × (i : ℕ) × (i < length all) × HoldsAt (λ y. y ≡ x) all i × AllWithin (λ section. ¬ HasAddress address section) all 0 i)
    → MatchOption found (All (λ section. ¬ HasAddress address section) all) (IsFirstAt address all)
first_with address all None none = All-from_all_within (λ section. ¬ HasAddress address section) all none
first_with address all (Some x) (has, i, less, at, none) = record {
  before = take i all;
  after = drop (i + 1) all;
  among = sym (take-append-drop i all) ∙ ap (λ rest. take i all ++ rest) (drop_more all i x less ∙ ap (λ y. y ∷ drop (i + 1) all) (at x));
  has = has;
  none_before = all_before (λ section. ¬ HasAddress address section) all i less none;
}
