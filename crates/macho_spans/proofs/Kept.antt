-- Which pairs are kept of one more.
use Rattle.std.proofs.Common.{ℕ, List, [], ◌∷◌, ◌++◌, Any, ap, subst, inl, inr}
use Rattle.std.specs.Prelude.{IsPermutation}
use Rattle.std.proofs.lemmas.List.Sorted.{Contains-permutation, IsPermutation-sym, IsPermutation-trans, IsPermutation-cons, IsPermutation-to_front}
use Rattle.macho_spans.specs.Spans.{SharesWithOne, KeepsInTurn, AreKept}
use Rattle.macho_spans.specs.declared.span.Span.{Span}

any_permutation : {X : Type 0} (P : X → Type 0) (xs ys : List X) → IsPermutation xs ys → Any P xs → Any P ys
any_permutation P xs ys moved (k, x, less, at, holds) = let (j, within, here) = Contains-permutation xs ys x moved (k, less, at) in (j, x, within, here, holds)

module _ (pair : Span × ℕ) where
  -- the last pair is not kept where it shares a place with what is kept, and is kept otherwise
  keeps_shared : (before pairs kept : List (Span × ℕ)) → KeepsInTurn before pairs kept → SharesWithOne kept pair.0 → KeepsInTurn before (pairs ++ pair ∷ []) kept
  keeps_shared before [] kept same shares = inl (subst (λ held. SharesWithOne held pair.0) same shares, same)
  keeps_shared before (first ∷ pairs) kept (inl (dropped, rest)) shares = inl (dropped, keeps_shared before pairs kept rest shares)
  keeps_shared before (first ∷ pairs) kept (inr (added, rest)) shares = inr (added, keeps_shared (before ++ first ∷ []) pairs kept rest shares)

  keeps_added : (before pairs kept : List (Span × ℕ)) → KeepsInTurn before pairs kept → ¬ SharesWithOne kept pair.0 → KeepsInTurn before (pairs ++ pair ∷ []) (kept ++ pair ∷ [])
  keeps_added before [] kept same none = inr (subst (λ held. ¬ SharesWithOne held pair.0) same none, ap (λ held. held ++ pair ∷ []) same)
  keeps_added before (first ∷ pairs) kept (inl (dropped, rest)) none = inl (dropped, keeps_added before pairs kept rest none)
  keeps_added before (first ∷ pairs) kept (inr (added, rest)) none = inr (added, keeps_added (before ++ first ∷ []) pairs kept rest none)

  pub kept_shared : (calls held : List (Span × ℕ)) → SharesWithOne held pair.0 → AreKept calls held → AreKept (calls ++ pair ∷ []) held
  kept_shared calls held shares (kept, keeps, moved) =
      (kept, keeps_shared [] calls kept keeps (any_permutation _ held kept (IsPermutation-sym kept held moved) shares), moved)

  pub kept_added : (calls held more : List (Span × ℕ)) → ¬ SharesWithOne held pair.0 → IsPermutation (pair ∷ held) more → AreKept calls held → AreKept (calls ++ pair ∷ []) more
  kept_added calls held more none added (kept, keeps, moved) =
      let alone : ¬ SharesWithOne kept pair.0 = λ shares. none (any_permutation _ kept held moved shares) in (
        kept ++ pair ∷ [],
        keeps_added [] calls kept keeps alone,
        IsPermutation-trans _ (pair ∷ kept) more (IsPermutation-to_front kept pair) (IsPermutation-trans _ (pair ∷ held) more (IsPermutation-cons pair kept held moved) added),
      )
