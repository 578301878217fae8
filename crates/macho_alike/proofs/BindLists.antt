-- Lists to which binds are added.
use Rattle.std.proofs.Common.{◌≡◌, ◌↔◌, ◌⊎◌, ◌∙◌, ℕ, zero, suc, ◌+◌, ◌<◌, List, [], ◌∷◌, ◌++◌, Some, IfOk, OnErr, Contains, refl, sym, ap, subst, lit<, arith, inl, inr}
use Rattle.std.specs.Prelude.{Result, Ok, Err}
use Rattle.std.proofs.lemmas.Bool.{cases_eq}
use Rattle.std.proofs.lemmas.List.Elements.{Contains-append_left, Contains-append_right, Contains-append_cases}
use Rattle.macho_spans.specs.declared.span.Span.{Span}
use Rattle.macho_opcodes.specs.declared.cursor.Cursor.{Cursor}
use Rattle.macho_opcodes.specs.declared.step.Step.{Step}
use Rattle.macho_opcodes.specs.declared.step.Step.TheVariants as step
use Rattle.macho_alike.specs.Binds.{StepBinds}
use Rattle.macho_alike.specs.BindLists.{WereAdded, AreSpread, first_of, spread}
use Rattle.macho_alike.specs.declared.binds.Aim.{Aim}
use Rattle.macho_alike.specs.declared.binds.Bind.{Bind}
use Rattle.macho_alike.specs.declared.binds.Source.{Source}

pub added_same : (P Q : Bind → Type 0) (old new : List Bind) → ((bind : Bind) → P bind ↔ Q bind) → WereAdded P old new → WereAdded Q old new
added_same P Q old new same added bind = (
  λ has. elim ((added bind).0 has) [ inl was ↦ inl was | inr p ↦ inr ((same bind).0 p) ],
  λ either. (added bind).1 (elim either [ inl was ↦ inl was | inr q ↦ inr ((same bind).1 q) ]),
)

pub added_none : (P : Bind → Type 0) (old : List Bind) → ((bind : Bind) → ¬ P bind) → WereAdded P old old
added_none P old none bind = (λ has. inl has, λ either. elim either [ inl was ↦ was | inr p ↦ absurd (none bind p) ])

-- a weaker promise of a call that ends well, and of one that fails
pub if_ok : {X E : Type 0} (P Q : Type 0) (r : Result X E) → (P → Q) → IfOk r (λ x. P) → IfOk r (λ x. Q)
if_ok P Q (Ok x) more p = more p
if_ok P Q (Err e) more p = tt

pub on_err : {X E : Type 0} (P Q : Type 0) (r : Result X E) → (P → Q) → OnErr r P → OnErr r Q
on_err P Q (Ok x) more p = tt
on_err P Q (Err e) more p = more p

pub on_any_err : {X E : Type 0} (P : Type 0) (r : Result X E) → P → OnErr r P
on_any_err P (Ok x) p = tt
on_any_err P (Err e) p = p

contains_one : (x bind : Bind) → Contains (x ∷ []) bind → x ≡ bind
contains_one x bind (zero, less, at) = at
contains_one x bind (suc i, less, at) = absurd (omega (arith, less))

module _ (first : Bind) (skip : ℕ) (old : List Bind) where
  pub spread_none : WereAdded (AreSpread first 0 skip) old old
  spread_none = added_none (AreSpread first 0 skip) old (λ bind (k, less, is). absurd (omega (arith, less)))

  pub spread_more : (k : ℕ) (items new : List Bind) → WereAdded (AreSpread first k skip) old items → (here : Bind) → here ≡ spread first skip k
      → new ≡ items ++ here ∷ [] → WereAdded (AreSpread first (k + 1) skip) old new
  spread_more k items new added here is pushed bind = (to, back)
    where
      to : Contains new bind → Contains old bind ⊎ AreSpread first (k + 1) skip bind
      to has = elim (Contains-append_cases items (here ∷ []) bind (subst (λ (xs : List Bind). Contains xs bind) pushed has)) [
        | inl early ↦ elim ((added bind).0 early) [ inl was ↦ inl was | inr (j, less, same) ↦ inr (j, omega (arith, less), same) ]
        | inr last ↦ inr (k, omega arith, sym (contains_one here bind last) ∙ is)
      ]

      at_last : Contains (here ∷ []) here
      at_last = (0, lit< tt, refl)

      back : Contains old bind ⊎ AreSpread first (k + 1) skip bind → Contains new bind
      back (inl was) = subst (λ (xs : List Bind). Contains xs bind) (sym pushed) (Contains-append_left items (here ∷ []) bind ((added bind).1 (inl was)))
      back (inr (j, less, same)) = elim (cases_eq j k) [
        | inl last ↦
            let whole : here ≡ bind = is ∙ (ap (spread first skip) (sym last) ∙ sym same) in
            subst (λ (xs : List Bind). Contains xs bind) (sym pushed) (Contains-append_right items (here ∷ []) bind (subst (Contains (here ∷ [])) whole at_last))
        | inr early ↦ subst (λ (xs : List Bind). Contains xs bind) (sym pushed) (Contains-append_left items (here ∷ []) bind ((added bind).1 (inr (j, omega (arith, less, early), same))))
      ]

-- What one step binds

module _ (source : Source) (cursor : Cursor) (aim : Aim) where
  abbrev Binds : Step → Bind → Type 0
  Binds next bind = StepBinds source.stream source.start source.place cursor aim next bind

  module _ (next : Step) (count skip : ℕ) (is : next ≡ step.Write count skip) (segment : ℕ) (name : Span) (at : cursor.segment ≡ Some segment) (named : cursor.name ≡ Some name) where
    abbrev first : Bind
    first = first_of source segment cursor.offset name aim

    spread_of_step : (bind : Bind) → AreSpread first count skip bind ↔ Binds (step.Write count skip) bind
    spread_of_step bind = (λ (k, less, same). (segment, name, k, at, named, less, same), back)
      where
        back : Binds (step.Write count skip) bind → AreSpread first count skip bind
        back (other, also, k, is_at, is_named, less, same) =
            let here : other ≡ segment = cc in
            let equal : also ≡ name = cc in
            (k, less, rw (← here, ← equal) same)

    -- its pointers were added
    pub step_added : (begins : Bind) → begins ≡ first → (old new : List Bind) → WereAdded (AreSpread begins count skip) old new → WereAdded (Binds next) old new
    step_added begins same old new added =
        let spread_all = subst (λ (b : Bind). WereAdded (AreSpread b count skip) old new) same added in
        subst (λ (s : Step). WereAdded (Binds s) old new) (sym is)
        (added_same (AreSpread first count skip) (Binds (step.Write count skip)) old new spread_of_step spread_all)

    -- it binds one, if it writes
    pub step_has : 0 < count → (bind : Bind) × Binds next bind
    step_has some =
        let one = spread first skip 0 in
        (one, subst (λ (s : Step). Binds s one) (sym is) ((spread_of_step one).0 (0, some, refl)))
