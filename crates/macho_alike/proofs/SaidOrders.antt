-- What is said of indirect entries, sorted by the entries: where neighbours agree, all do.
use Rattle.std.proofs.Common.{◌≡◌, ◌∙◌, ℕ, ◌+◌, ◌-◌, ◌*◌, ◌≤◌, ◌<◌, List, length, get_or, Option, Some, None, IfSome, true, refl, sym, ap, subst, arith, inl, inr}
use Rattle.std.specs.Prelude.{is_some}
use Rattle.std.specs.List.Sorted.{IsNonDecreasingBy}
use Rattle.std.proofs.lemmas.Bool.{cases_eq, false≢true}
use Rattle.std.proofs.lemmas.List.{get_or_default}
use Rattle.macho_fields.specs.FirstPlace.{IsLeastPlace}
use Rattle.macho_rules.proofs.Searches.{mapped_has}
use Rattle.macho_alike.specs.Binds.{Clash}
use Rattle.macho_alike.specs.Bounds.{bind_of, mark_of, SaysOtherwise, IsOneName, AgreesWith}
use Rattle.macho_alike.specs.declared.binds.Bind.{Bind}
use Rattle.macho_alike.specs.declared.binds.Compared.{Compared}
use Rattle.macho_alike.specs.declared.binds.Compared.TheVariants as compared
use Rattle.macho_alike.specs.declared.indirects.Said.{Said}
use Rattle.macho_alike.proofs.SaidNames.{no_said}

module _ (image : List ℕ) (said : List Said) where
  abbrev said_at : ℕ → Said
  said_at i = get_or said i no_said

  -- the first n agree, and the last of them is known
  pub record HaveAgreed (n : ℕ) (last : Option Said) : Type 0 where
    pub end : (i : ℕ) → n ≡ i + 1 → last ≡ Some (said_at i)
    pub each : (i j : ℕ) → i < n → j < n → AgreesWith image (said_at i) (said_at j)

  pub agreed_none : HaveAgreed 0 None
  agreed_none = record {
    end = λ i is. absurd (omega (arith, is));
    each = λ i j less. absurd (omega (arith, less));
  }

  pub agreed_next : (n : ℕ) (last : Option Said) → HaveAgreed n last → IsNonDecreasingBy (λ one. one.index) said → n < length said
      → IfSome last (λ before. AgreesWith image before (said_at n)) → HaveAgreed (n + 1) (Some (said_at n))
  agreed_next n last agreed sorted below near = record {
    end = λ i is. let same : n ≡ i = omega (arith, is) in ap (λ (k : ℕ). Some (said_at k)) same;
    each = each;
  }
    where
      with_last : (i : ℕ) → i < n → AgreesWith image (said_at i) (said_at n)
      with_last i less same =
          let before : n ≡ (n - 1) + 1 = omega (arith, less) in
          let near_by : AgreesWith image (said_at (n - 1)) (said_at n) = subst (λ (l : Option Said). IfSome l (λ before. AgreesWith image before (said_at n))) (agreed.end (n - 1) before) near in
          let up = sorted i (n - 1) no_said (omega (arith, less)) (omega (arith, less, below)) in
          let on = sorted (n - 1) n no_said (omega (arith, less)) below in
          let (text, mark) = agreed.each i (n - 1) less (omega (arith, less)) (omega (arith, up, on, same)) in
          let (more, too) = near_by (omega (arith, up, on, same)) in
          (text ∙ more, mark ∙ too)

      each : (i j : ℕ) → i < n + 1 → j < n + 1 → AgreesWith image (said_at i) (said_at j)
      each i j first second same = elim (cases_eq i n) [
        | inl here ↦ elim (cases_eq j n) [
          | inl there ↦ subst (λ (k : ℕ). IsOneName image (said_at i).name (said_at k).name) (here ∙ sym there) (refl, refl)
          | inr apart ↦
              let (text, mark) = with_last j (omega (arith, second, apart)) (sym (subst (λ (k : ℕ). (said_at k).index ≡ (said_at j).index) here same)) in
              subst (λ (k : ℕ). IsOneName image (said_at k).name (said_at j).name) (sym here) (sym text, sym mark)
        ]
        | inr apart ↦ elim (cases_eq j n) [
          | inl there ↦ subst (λ (k : ℕ). AgreesWith image (said_at i) (said_at k)) (sym there) (with_last i (omega (arith, first, apart))) same
          | inr also ↦ agreed.each i j (omega (arith, first, apart)) (omega (arith, second, also)) same
        ]
      ]

  -- what agrees does not clash
  pub agreed_all : (n : ℕ) (last : Option Said) → HaveAgreed n last → length said ≤ n → IsLeastPlace (SaysOtherwise image said) None
  agreed_all n last agreed end place (what, one, other, here, there, clash, first, second) =
      let (a, (i, less, at), is_a) = mapped_has (bind_of image) said one here in
      let (b, (j, below, also), is_b) = mapped_has (bind_of image) said other there in
      let same_a : said_at i ≡ a = get_or_default said i no_said a less ∙ at in
      let same_b : said_at j ≡ b = get_or_default said j no_said b below ∙ also in
      let clashes : Clash what image (bind_of image a) (bind_of image b) = subst (λ (o : Bind). Clash what image (bind_of image a) o) (sym is_b) (subst (λ (o : Bind). Clash what image o other) (sym is_a) clash) in
      let agree : AgreesWith image a b = subst (λ (s : Said). AgreesWith image a s) same_b (subst (λ (s : Said). AgreesWith image s (said_at j)) same_a (agreed.each i j (omega (arith, less, end)) (omega (arith, below, end)))) in
      by_what what a b agree clashes
    where
      by_what : (w : Compared) (a b : Said) → AgreesWith image a b → ¬ Clash w image (bind_of image a) (bind_of image b)
      by_what compared.Libraries a b agree (some, some_too, how) = some refl
      by_what compared.Names a b agree (_, _, inl (segment, apart, low, high)) =
          apart (let same : a.index ≡ b.index = omega (arith, low, high) in ap (λ (n : ℕ). n * 8) same)
      by_what compared.Names a b agree (_, _, inr ((segment, offset), differ)) = differ (agree (omega (arith, offset)))

-- two places have one mark
pub both_marked : (one other : Option ℕ) → is_some one ≡ true → is_some other ≡ true → mark_of one ≡ mark_of other
both_marked None other some too = absurd (false≢true some)
both_marked (Some a) None some too = absurd (false≢true too)
both_marked (Some a) (Some b) some too = refl
