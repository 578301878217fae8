-- The order of names by their bytes, by what follows a common beginning.
use Rattle.std.proofs.Common.{◌≡◌, ◌∙◌, ◌⊎◌, ℕ, zero, suc, ◌+◌, ◌-◌, ◌≤◌, ◌<◌, List, [], ◌∷◌, ◌++◌, length, take, drop, Bool, true, false, refl, sym, ap, subst, arith, inl, inr}
use Rattle.std.specs.Cmp.Lexicographic.{slice_cmp, texts_ties, same_text}
use Rattle.std.specs.declared.cmp.Ordering.{Ordering}
use Rattle.std.specs.declared.cmp.Ordering.TheVariants.{Less, Equal, Greater}
use Rattle.std.specs.Ordering.{nat_cmp, is_gt, is_eq, ordering_then}
use Rattle.std.specs.Prelude.{min}
use Rattle.std.proofs.lemmas.Bool.{cases_lt, true≢false}
use Rattle.std.proofs.lemmas.List.{take-take, take_all, drop-take, drop-drop, length-take}
use Rattle.std.proofs.lemmas.Cmp.{nat_list_cmp_total, nat_cmp_total, tied_itself, upto}
use Rattle.macho_fields.specs.Field.{part}
use Rattle.macho_alike.specs.TrieWalks.{IsUpTo, is_before, IsPart}

abbrev order : List ℕ → List ℕ → Ordering
order = slice_cmp nat_cmp

-- the first bytes keep the order
pub upto_take : (n : ℕ) (xs ys : List ℕ) → IsUpTo xs ys → IsUpTo (take n xs) (take n ys)
upto_take zero xs ys is = refl
upto_take (suc n) [] [] is = refl
upto_take (suc n) [] (y ∷ ys) is = refl
upto_take (suc n) (x ∷ xs) [] is = absurd (true≢false is)
upto_take (suc n) (x ∷ xs) (y ∷ ys) is = by_first (nat_cmp x y) (order xs ys) (order (take n xs) (take n ys)) is (upto_take n xs ys)
  where
    by_first : (first rest cut : Ordering) → is_gt (ordering_then first rest) ≡ false → (is_gt rest ≡ false → is_gt cut ≡ false) → is_gt (ordering_then first cut) ≡ false
    by_first Less rest cut is then = refl
    by_first Equal rest cut is then = then is
    by_first Greater rest cut is then = is

-- and so does what follows the same bytes
pub upto_drop : (n : ℕ) (xs ys : List ℕ) → n ≤ length xs → n ≤ length ys → take n xs ≡ take n ys → IsUpTo xs ys → IsUpTo (drop n xs) (drop n ys)
upto_drop zero xs ys long other same is = is
upto_drop (suc n) [] ys long other same is = absurd (omega (arith, long))
upto_drop (suc n) (x ∷ xs) [] long other same is = absurd (omega (arith, other))
upto_drop (suc n) (x ∷ xs) (y ∷ ys) long other same is =
    upto_drop n xs ys (omega (arith, long)) (omega (arith, other)) (ap tail same) (subst (λ (o : Ordering). is_gt (ordering_then o (order xs ys)) ≡ false) (ap (nat_cmp x) (sym first) ∙ tied_itself nat_cmp_total x) is)
  where
    tail : List ℕ → List ℕ
    tail [] = []
    tail (z ∷ zs) = zs

    head : List ℕ → ℕ
    head [] = x
    head (z ∷ zs) = z

    first : x ≡ y
    first = ap head same

-- what comes before a label, if something that is no less does
pub before_less : (over : Bool) (xs ys label : List ℕ) → IsUpTo xs ys → is_before over (order ys label) ≡ true → is_before over (order xs label) ≡ true
before_less over xs ys label is before = by_orders (order xs ys) (order ys label) refl refl is before
  where
    at : (o : Ordering) → order xs label ≡ o → is_before over o ≡ true → is_before over (order xs label) ≡ true
    at o same so = ap (is_before over) same ∙ so

    upward : (o : Ordering) → is_gt o ≡ false → is_before true o ≡ true
    upward Less is = refl
    upward Equal is = refl
    upward Greater is = absurd (true≢false is)

    by_orders : (one other : Ordering) → order xs ys ≡ one → order ys label ≡ other → is_gt one ≡ false → is_before over other ≡ true → is_before over (order xs label) ≡ true
    by_orders Greater other is_one is_other up so = absurd (true≢false up)
    by_orders one Greater is_one is_other up so = absurd (true≢false (sym so))
    by_orders Less Less is_one is_other up so = at Less (nat_list_cmp_total.trans xs ys label is_one is_other) refl
    by_orders Less Equal is_one is_other up so =
        subst (λ (b : Bool). is_before b (order xs label) ≡ true) (sym so) (upward (order xs label) (upto nat_list_cmp_total xs ys label (ap is_gt is_one) (ap is_gt is_other)))
    by_orders Equal other is_one is_other up so = at other (nat_list_cmp_total.congr xs ys label is_one ∙ is_other) so

-- what comes before no label but is not after it is the label
pub between : (xs label : List ℕ) → is_before false (order xs label) ≡ false → is_before true (order xs label) ≡ true → xs ≡ label
between xs label not over = by_order (order xs label) refl not over
  where
    by_order : (o : Ordering) → order xs label ≡ o → is_before false o ≡ false → is_before true o ≡ true → xs ≡ label
    by_order Less is not over = absurd (true≢false not)
    by_order Equal is not over = same_text xs label (sym (texts_ties xs label ∙ ap is_eq is))
    by_order Greater is not over = absurd (true≢false (sym over))

-- a label is between
pub before_itself : (over : Bool) (xs label : List ℕ) → xs ≡ label → is_before over (order xs label) ≡ over
before_itself over xs label same = ap (λ (l : List ℕ). is_before over (order l label)) same ∙ ap (is_before over) (tied_itself nat_list_cmp_total label)

-- what does not come after nothing is nothing
pub upto_empty : (xs : List ℕ) → IsUpTo xs [] → xs ≡ []
upto_empty [] is = refl
upto_empty (x ∷ xs) is = absurd (true≢false is)

-- Parts of lists

pub part_skip : (xs ys : List ℕ) (y : ℕ) → IsPart xs ys → IsPart xs (ys ++ y ∷ [])
part_skip [] ys y is = tt
part_skip (x ∷ xs) [] y is = absurd is
part_skip (x ∷ xs) (z ∷ ys) y (inl (same, is)) = inl (same, part_skip xs ys y is)
part_skip (x ∷ xs) (z ∷ ys) y (inr is) = inr (part_skip (x ∷ xs) ys y is)

pub part_push : (xs ys : List ℕ) (y : ℕ) → IsPart xs ys → IsPart (xs ++ y ∷ []) (ys ++ y ∷ [])
part_push [] [] y is = inl (refl, tt)
part_push [] (z ∷ ys) y is = inr (part_push [] ys y tt)
part_push (x ∷ xs) [] y is = absurd is
part_push (x ∷ xs) (z ∷ ys) y (inl (same, is)) = inl (same, part_push xs ys y is)
part_push (x ∷ xs) (z ∷ ys) y (inr is) = inr (part_push (x ∷ xs) ys y is)

pub part_itself : (xs : List ℕ) → IsPart xs xs
part_itself [] = tt
part_itself (x ∷ xs) = inl (refl, part_itself xs)

pub part_later : (xs ys zs : List ℕ) → IsPart xs zs → IsPart xs (ys ++ zs)
part_later xs [] zs is = is
part_later [] (y ∷ ys) zs is = tt
part_later (x ∷ xs) (y ∷ ys) zs is = inr (part_later (x ∷ xs) ys zs is)

pub part_before : (xs ys zs : List ℕ) → IsPart xs ys → IsPart (xs ++ zs) (ys ++ zs)
part_before [] ys zs is = part_later zs ys zs (part_itself zs)
part_before (x ∷ xs) [] zs is = absurd is
part_before (x ∷ xs) (y ∷ ys) zs (inl (same, is)) = inl (same, part_before xs ys zs is)
part_before (x ∷ xs) (y ∷ ys) zs (inr is) = inr (part_before (x ∷ xs) ys zs is)

pub part_after : (zs xs ys : List ℕ) → IsPart xs ys → IsPart (zs ++ xs) (zs ++ ys)
part_after [] xs ys is = is
part_after (z ∷ zs) xs ys is = inl (refl, part_after zs xs ys is)

-- Bytes of a name

-- the bytes that follow the first `depth` of a part, and at most so many
pub following : (start len depth most : ℕ) (image : List ℕ) → depth ≤ len
    → part (start + depth) (min (len - depth) most) image ≡ take most (drop depth (part start len image))
following start len depth most image deep = sym (ap (take most) rest ∙ cut (drop (start + depth) image) (cases_lt most (len - depth)))
  where
    whole : depth + (len - depth) ≡ len
    whole = omega (arith, deep)

    rest : drop depth (take len (drop start image)) ≡ take (len - depth) (drop (start + depth) image)
    rest =
        ap (λ (n : ℕ). drop depth (take n (drop start image))) (sym whole)
        ∙ (drop-take depth (len - depth) (drop start image) ∙ ap (take (len - depth)) (drop-drop depth start image))

    cut : (xs : List ℕ) → (most < len - depth) ⊎ (len - depth ≤ most) → take most (take (len - depth) xs) ≡ take (min (len - depth) most) xs
    cut xs (inl less) =
        let is : min (len - depth) most ≡ most = omega (arith, less) in
        take-take most (len - depth) xs (omega (arith, less)) ∙ ap (λ (n : ℕ). take n xs) (sym is)
    cut xs (inr upto) =
        let is : min (len - depth) most ≡ len - depth = omega (arith, upto) in
        let few = length-take (len - depth) xs in
        take_all most (take (len - depth) xs) (omega (arith, few, upto)) ∙ ap (λ (n : ℕ). take n xs) (sym is)
