-- The text that several writes have put together in an InlineText.
use Rattle.std.proofs.Common.{◌≡◌, ℕ, List, [], ◌∷◌, ◌++◌, Option, Some, sym, ap, ◌∙◌, subst, append_assoc, append-nil}
use Rattle.std.specs.Fmt.{WritesInCalls, WritesText, ◌++?◌}
use Rattle.std.specs.Fmt.InlineText.{inline_text, IsIntact, AppendsIfIntact}
use Rattle.std.specs.List.{concat, FoldsTo}
use Rattle.std.specs.declared.fmt.InlineText.{InlineText}

module _ {n : ℕ} where
  after_calls : (s : InlineText n) (parts : List (List ℕ)) (t : InlineText n) → FoldsTo AppendsIfIntact s parts t → AppendsIfIntact s (concat parts) t
  after_calls s [] t same intact = (subst IsIntact same intact, ap inline_text (sym same) ∙ sym (append-nil (inline_text s)))
  after_calls s (x ∷ parts) t (next, first, rest) intact =
      let (now, one) = first intact in
      let (end, more) = after_calls next parts t rest now in
      (end, more ∙ (ap (λ l. l ++ concat parts) one ∙ append_assoc (inline_text s) x (concat parts)))

  -- an empty text holds afterwards the three parts that were written, the last of them from a hole
  pub text_written : (s t : InlineText n) (first middle last : List ℕ) (hole : Option (List ℕ)) → inline_text s ≡ [] → IsIntact s
      → hole ≡ Some last → WritesText AppendsIfIntact s (Some first ++? Some middle ++? hole) t → inline_text t ≡ first ++ (middle ++ last)
  text_written s t first middle last hole empty intact is text =
      let wrote : WritesInCalls AppendsIfIntact s (first ++ (middle ++ last)) t = subst (λ o. WritesText AppendsIfIntact s (Some first ++? Some middle ++? o) t) is text in
      (after_calls s wrote.parts t wrote.calls intact).1 ∙ (ap (λ l. l ++ concat wrote.parts) empty ∙ wrote.whole)
