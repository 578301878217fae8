-- Texts that are put into an array one after the other.
use Rattle.std.proofs.Common.{◌≡◌, List, ℕ, [], ◌∷◌, ◌++◌, ◌+◌, ◌<◌, ◌≤◌, codes, length, map, take, drop, get_or, arith, refl, sym, subst, ap, ◌∙◌, append_assoc, append-nil}
use Rattle.std.proofs.lemmas.Grind.{common_steps}
use Rattle.std.proofs.lemmas.List.{drop_more, drop_all, take_all, take-append-le}
use Rattle.std.proofs.Math.Seq.{take-append-add}
use borrow.Rule.Slice.PartMut.{put_mid, post_of}
use Rattle.macho_text.specs.Stream.{joined}

pub joined_append : (first rest : List (List ℕ)) → joined (first ++ rest) ≡ joined first ++ joined rest
unfolding joined
joined_append [] rest = refl
joined_append (text ∷ texts) rest = ap (λ l. text ++ l) (joined_append texts rest) ∙ sym (append_assoc text (joined texts) (joined rest))

-- a line that began with no bytes
pub from_start : (start after : List ℕ) (texts : List (List ℕ)) → start ≡ [] → after ≡ start ++ joined texts → after ≡ joined texts
from_start start after texts none is = is ∙ ap (λ l. l ++ joined texts) none

-- texts whose first was put first
pub put_next : (before middle after text : List ℕ) (texts : List (List ℕ)) → middle ≡ before ++ text → after ≡ middle ++ joined texts
    → after ≡ before ++ joined (text ∷ texts)
unfolding joined
put_next before middle after text texts first rest = rest ∙ ap (λ l. l ++ joined texts) first ∙ append_assoc before text (joined texts)

-- texts whose first two were put first
pub put_two : (before middle after text second : List ℕ) (texts : List (List ℕ)) → middle ≡ (before ++ text) ++ second → after ≡ middle ++ joined texts
    → after ≡ before ++ joined (text ∷ second ∷ texts)
put_two before middle after text second texts first rest =
    put_next before (before ++ text) after text (second ∷ texts) refl (put_next (before ++ text) middle after second texts first rest)

-- texts whose first ones were put first
pub put_many : (before middle after : List ℕ) (first rest : List (List ℕ)) → middle ≡ before ++ joined first → after ≡ middle ++ joined rest
    → after ≡ before ++ joined (first ++ rest)
put_many before middle after first rest a b = b ∙ ap (λ l. l ++ joined rest) a ∙ append_assoc before (joined first) (joined rest) ∙ ap (λ l. before ++ l) (sym (joined_append first rest))

-- no text is left
pub put_last : (after : List ℕ) → after ≡ after ++ joined []
unfolding joined
put_last after = sym (append-nil after)

-- What a loop has put of the texts of some items, and those that are left.
module _ (f : ℕ → List ℕ) (whole before : List ℕ) (items : List ℕ) (i : ℕ) where
  pub put_item : (after text : List ℕ) → i < length items → text ≡ f (get_or items i 0)
      → before ++ joined (map f (drop i items)) ≡ whole → after ≡ before ++ text → after ++ joined (map f (drop (i + 1) items)) ≡ whole
  unfolding joined
  put_item after text h is left put =
      ap (λ l. l ++ joined (map f (drop (i + 1) items))) (put ∙ ap (λ l. before ++ l) is)
      ∙ append_assoc before (f (get_or items i 0)) (joined (map f (drop (i + 1) items)))
      ∙ ap (λ xs. before ++ joined (map f xs)) (sym (drop_more items i 0 h)) ∙ left

  pub put_items_end : length items ≤ i → before ++ joined (map f (drop i items)) ≡ whole → before ≡ whole
  unfolding joined
  put_items_end h left = sym (append-nil before) ∙ ap (λ xs. before ++ joined (map f xs)) (sym (drop_all i items h)) ∙ left

-- bytes that were put over those after a place
pub over_put : (n count size : ℕ) (places bytes put : List ℕ) → n + count ≤ length places → count ≡ length bytes → put ≡ bytes
    → take (n + count) (put_mid n size places put) ≡ take n places ++ bytes
over_put n count size places bytes put room all is =
    let front : length (take n places) ≡ n = grind (arith, common_steps) in
    rw is (subst (λ m. take (m + count) (put_mid n size places bytes) ≡ take n places ++ bytes) front
    (take-append-add (take n places) (bytes ++ post_of n size places) count
    ∙ ap (λ l. take n places ++ l) (take-append-le count bytes (post_of n size places) (omega arith) ∙ take_all count bytes (omega arith))))

-- the line feed is all that is left
pub ended : (line : List ℕ) → line ++ codes "\n" ≡ line ++ joined (codes "\n" ∷ [])
ended line = put_next line (line ++ codes "\n") (line ++ codes "\n") (codes "\n") [] refl (put_last (line ++ codes "\n"))
