-- The order of external symbols by the bytes of their names: those with the same name stand next to each other.
use Rattle.std.proofs.Common.{◌≡◌, ◌∙◌, ◌↔◌, ℕ, ◌+◌, ◌<◌, ◌≤◌, List, [], ◌∷◌, length, get_or, true, false, Option, None, Some, IfSome, IsSome, Contains, Bor, refl, sym, ap, ap₂, arith, inl, inr}
use Rattle.std.specs.Prelude.{nat_le}
use Rattle.std.specs.Cmp.{IsTotalOrder}
use Rattle.std.specs.Cmp.Lexicographic.{slice_cmp, options_total}
use Rattle.std.specs.List.Sorted.{IsSortedBy}
use Rattle.std.specs.Option.{option_cmp, option_map}
use Rattle.std.specs.Ordering.{nat_cmp, ordering_then, ordering_reverse, is_lt, is_gt}
use Rattle.std.specs.declared.cmp.Ordering.{Ordering}
use Rattle.std.specs.declared.cmp.Ordering.TheVariants.{Less, Equal, Greater}
use Rattle.std.proofs.lemmas.Bool.{cases_Bool, cases_lt, le-leb, true≢false, lt-ltb}
use Rattle.std.proofs.lemmas.Cmp.{nat_cmp_total, nat_list_cmp_total, on_total, then_total, tied_itself}
use Rattle.std.proofs.lemmas.List.Elements.{Contains-get_or}
use Rattle.std.proofs.lemmas.List.MinMax.{ranks_by}
use Rattle.std.proofs.lemmas.List.Sorted.{sorted_far}
use Rattle.macho_spans.specs.Span.{end_of}
use Rattle.macho_alike.specs.Names.{text_of, by_name, AreByName, text_in, by_text}
use Rattle.macho_alike.specs.declared.names.Named.{Named}

abbrev pub by_bytes : List ℕ → List ℕ → Ordering
by_bytes = slice_cmp nat_cmp

-- Bytes that tie are the same

then_tied : (p q : Ordering) → ordering_then p q ≡ Equal → (p ≡ Equal) × (q ≡ Equal)
then_tied Less q wrong = absurd (true≢false (ap is_lt wrong))
then_tied Equal q tied = (refl, tied)
then_tied Greater q wrong = absurd (true≢false (ap is_gt wrong))

less_cmp : (m n : ℕ) → m < n → nat_cmp m n ≡ Less
less_cmp m n less = rw (lt-ltb m n less) refl

tied_number : (m n : ℕ) → nat_cmp m n ≡ Equal → m ≡ n
tied_number m n tied = elim (cases_lt m n) [
  | inl less ↦ absurd (true≢false (ap is_lt (sym (less_cmp m n less) ∙ tied)))
  | inr most ↦ elim (cases_lt n m) [
    | inl more ↦ absurd (true≢false (ap is_lt (sym (less_cmp n m more) ∙ (nat_cmp_total.antisymm n m ∙ ap ordering_reverse tied))))
    | inr least ↦ omega (arith, most, least)
  ]
]

pub tied_bytes : (xs ys : List ℕ) → by_bytes xs ys ≡ Equal → xs ≡ ys
tied_bytes [] [] tied = refl
tied_bytes [] (y ∷ ys) tied = absurd (true≢false (ap is_lt tied))
tied_bytes (x ∷ xs) [] tied = absurd (true≢false (ap is_gt tied))
tied_bytes (x ∷ xs) (y ∷ ys) tied =
    let (first, rest) = then_tied (nat_cmp x y) (by_bytes xs ys) tied in
    ap₂ (λ (n : ℕ) (ns : List ℕ). n ∷ ns) (tied_number x y first) (tied_bytes xs ys rest)

-- neither comes before the other
not_before : (xs ys : List ℕ) → is_lt (by_bytes xs ys) ≡ false → is_lt (by_bytes ys xs) ≡ false → xs ≡ ys
not_before xs ys up down = tied_bytes xs ys (neither (by_bytes xs ys) (by_bytes ys xs) (nat_list_cmp_total.antisymm xs ys) up down)
  where
    neither : (p q : Ordering) → p ≡ ordering_reverse q → is_lt p ≡ false → is_lt q ≡ false → p ≡ Equal
    neither Less q is up down = absurd (true≢false up)
    neither Equal q is up down = refl
    neither Greater Less is up down = absurd (true≢false down)
    neither Greater Equal is up down = absurd (true≢false (ap is_gt is))
    neither Greater Greater is up down = absurd (true≢false (ap is_gt is))

not_less_first : (p q : Ordering) → is_lt (ordering_then p q) ≡ false → is_lt p ≡ false
not_less_first Less q is = is
not_less_first Equal q is = refl
not_less_first Greater q is = refl

not_less_number : (m n : ℕ) → is_lt (nat_cmp m n) ≡ false → n ≤ m
not_less_number m n is = elim (cases_lt m n) [ inl less ↦ absurd (true≢false (sym (ap is_lt (less_cmp m n less)) ∙ is)) | inr most ↦ most ]

-- Sorted lists

module _ (image : List ℕ) where
  by_name_total : IsTotalOrder (by_name image)
  by_name_total = then_total (on_total (text_of image) nat_list_cmp_total) (on_total (λ (one : Named). one.place) nat_cmp_total)

  pub by_text_total : IsTotalOrder (by_text image)
  by_text_total = then_total (on_total (text_in image) (options_total nat_list_cmp_total)) (on_total (λ (one : Named). one.place) nat_cmp_total)

  module _ (names : List Named) (sorted : AreByName image names) (i j : ℕ) (d : Named) (low : i ≤ j) (high : j < length names) where
    -- a later one is not before an earlier one
    later : is_lt (by_name image (get_or names j d) (get_or names i d)) ≡ false
    later = sorted_far (λ a b. is_lt (by_name image a b)) (ranks_by by_name_total (λ n. n)) names sorted i j d low high

    pub name_rises : is_lt (by_bytes (text_of image (get_or names j d)) (text_of image (get_or names i d))) ≡ false
    name_rises = not_less_first _ _ later

    -- those with the same name are by their places
    pub place_rises : text_of image (get_or names i d) ≡ text_of image (get_or names j d) → (get_or names i d).place ≤ (get_or names j d).place
    place_rises same =
        let tie : by_bytes (text_of image (get_or names j d)) (text_of image (get_or names i d)) ≡ Equal =
        ap (by_bytes (text_of image (get_or names j d))) same ∙ tied_itself nat_list_cmp_total (text_of image (get_or names j d)) in
        not_less_number (get_or names j d).place (get_or names i d).place
        (sym (ap (λ o. is_lt (ordering_then o (nat_cmp (get_or names j d).place (get_or names i d).place))) tie) ∙ later)

  -- between two with the same name all have it
  pub name_between : (names : List Named) → AreByName image names → (i j k : ℕ) (d : Named) → i ≤ j → j ≤ k → k < length names
      → text_of image (get_or names i d) ≡ text_of image (get_or names k d) → text_of image (get_or names j d) ≡ text_of image (get_or names i d)
  name_between names sorted i j k d low high less same =
      not_before (text_of image (get_or names j d)) (text_of image (get_or names i d)) (name_rises names sorted i j d low (omega (arith, high, less)))
      (ap (λ t. is_lt (by_bytes t (text_of image (get_or names j d)))) same ∙ name_rises names sorted j k d high less)

  -- What the sort compares

  pub text_inside : (one : Named) → end_of one.name ≤ length image → text_in image one ≡ Some (text_of image one)
  text_inside one fits = rw (le-leb (end_of one.name) (length image) fits) refl

  text_past : (one : Named) → length image < end_of one.name → text_in image one ≡ None
  text_past one past = elim (cases_Bool (nat_le (end_of one.name) (length image))) [
    | inl t ↦ absurd (let fits = leb_true (end_of one.name) (length image) t in omega (arith, fits, past))
    | inr f ↦ rw f refl
  ]
    where
      leb_true : (m n : ℕ) → nat_le m n ≡ true → m ≤ n
      leb_true m n t = grind arith

  -- what is read of a name, if it lies in the image
  pub text_read : (one : Named) (got : Option (Bor (List ℕ))) → IsSome got ↔ (end_of one.name ≤ length image) → IfSome got (λ bytes. bytes.now ≡ text_of image one)
      → option_map (λ (bytes : Bor (List ℕ)). bytes.now) got ≡ text_in image one
  text_read one None inside is = elim (cases_lt (length image) (end_of one.name)) [
    | inl past ↦ sym (text_past one past)
    | inr fits ↦ absurd (true≢false (sym (inside.1 fits)))
  ]
  text_read one (Some bytes) inside is = ap Some is ∙ sym (text_inside one (inside.0 refl))

  pub compared : (a b : Option (Bor (List ℕ))) → option_cmp (λ (x y : Bor (List ℕ)). by_bytes x.now y.now) a b
      ≡ option_cmp by_bytes (option_map (λ (bytes : Bor (List ℕ)). bytes.now) a) (option_map (λ (bytes : Bor (List ℕ)). bytes.now) b)
  compared None None = refl
  compared None (Some y) = refl
  compared (Some x) None = refl
  compared (Some x) (Some y) = refl

  -- names that lie in the image are sorted by their bytes
  pub sorted_by_name : (names : List Named) → ((one : Named) → Contains names one → end_of one.name ≤ length image) → IsSortedBy (λ a b. is_lt (by_text image a b)) names → AreByName image names
  sorted_by_name names inside sorted k d low high =
      let one : Named = get_or names k d in
      let next : Named = get_or names (k + 1) d in
      let is_one = text_inside one (inside one (Contains-get_or names k d (omega (arith, high)))) in
      let is_next = text_inside next (inside next (Contains-get_or names (k + 1) d high)) in
      sym (ap₂ (λ (s t : Option (List ℕ)). is_lt (ordering_then (option_cmp by_bytes s t) (nat_cmp next.place one.place))) is_next is_one) ∙ sorted k d low high
