-- Binds whose names are read in other places clash as they did.
use Rattle.std.proofs.Common.{◌≡◌, ◌↔◌, ◌∙◌, ℕ, zero, suc, ◌+◌, ◌<◌, List, [], ◌∷◌, ◌++◌, length, set, Option, Some, None, Contains, refl, sym, ap, subst, lit<, arith, inl, inr}
use Rattle.std.specs.Prelude.{IsPermutation}
use Rattle.std.proofs.lemmas.Bool.{cases_eq}
use Rattle.std.proofs.lemmas.List.Elements.{Contains-append_left, Contains-append_right, Contains-append_cases}
use Rattle.std.proofs.lemmas.List.Sorted.{IsPermutation-sym, Contains-permutation}
use Rattle.std.proofs.lemmas.List.{get_or_default, get_or-set_same, get_or-set_other, length-set}
use Rattle.macho_spans.specs.declared.span.Span.{Span}
use Rattle.macho_alike.specs.BindLists.{AreInside, ClashAt}
use Rattle.macho_alike.specs.BindNames.{bind_at, IsRenamed, AreRenamed, AreNamesOf}
use Rattle.macho_alike.specs.Binds.{IsCompared, IsSame, Clash, name_of}
use Rattle.macho_alike.specs.declared.binds.Bind.{Bind}
use Rattle.macho_alike.specs.declared.binds.Compared.{Compared}
use Rattle.macho_alike.specs.declared.binds.Compared.TheVariants as compared
use Rattle.macho_alike.proofs.BindPairs.{no_bind}

module _ (image : List ℕ) where
  -- they say the same
  record Alike (one other : Bind) : Type 0 where
    pub place : other.place ≡ one.place
    pub segment : other.segment ≡ one.segment
    pub offset : other.offset ≡ one.offset
    pub addend : other.addend ≡ one.addend
    pub library : other.library ≡ one.library
    pub name : name_of image other ≡ name_of image one

  alike : (one other : Bind) → IsRenamed image one other → Alike one other
  alike one other is = record {
    place = is.place;
    segment = is.segment;
    offset = is.offset;
    addend = is.addend;
    library = is.library;
    name = is.shared.1;
  }

  turned : (one other : Bind) → Alike one other → Alike other one
  turned one other is = record {
    place = sym is.place;
    segment = sym is.segment;
    offset = sym is.offset;
    addend = sym is.addend;
    library = sym is.library;
    name = sym is.name;
  }

  compared_too : (what : Compared) (one other : Bind) → Alike one other → IsCompared what one → IsCompared what other
  compared_too compared.Names one other is here = tt
  compared_too compared.Libraries one other is here = λ none. here (sym is.library ∙ none)

  same_too : (what : Compared) (a b c d : Bind) → Alike a c → Alike b d → IsSame what image c d → IsSame what image a b
  same_too compared.Names a b c d one two (names, addends) = (sym one.name ∙ (names ∙ two.name), sym one.addend ∙ (addends ∙ two.addend))
  same_too compared.Libraries a b c d one two same = sym one.library ∙ (same ∙ two.library)

  clash_too : (what : Compared) (a b c d : Bind) → Alike a c → Alike b d → Clash what image a b → Clash what image c d
  clash_too what a b c d one two (first, second, inl (segment, apart, low, high)) = (
    compared_too what a c one first,
    compared_too what b d two second,
    inl (
      one.segment ∙ (segment ∙ sym two.segment),
      (λ same. apart (sym one.offset ∙ (same ∙ two.offset))),
      omega (arith, low, one.offset, two.offset),
      omega (arith, high, one.offset, two.offset),
    ),
  )
  clash_too what a b c d one two (first, second, inr ((segment, offset), differ)) = (
    compared_too what a c one first,
    compared_too what b d two second,
    inr ((one.segment ∙ (segment ∙ sym two.segment), one.offset ∙ (offset ∙ sym two.offset)), λ same. differ (same_too what a b c d one two same)),
  )

  -- Lists

  pub renamed_self : (old : List Bind) → AreInside (length image) old → AreRenamed image old old
  renamed_self old inside = record {
    len = refl;
    each = λ i less. record {
      place = refl;
      segment = refl;
      offset = refl;
      addend = refl;
      library = refl;
      shared = ((inside (bind_at old i) (i, less, get_or_default old i _ no_bind less)).name, refl);
    };
  }

  pub renamed_more : (old items : List Bind) → AreRenamed image old items → (i : ℕ) → i < length items → (here : Bind) → IsRenamed image (bind_at items i) here
      → AreRenamed image old (set items i here)
  renamed_more old items are i less here is = record {
    len = length-set items i here ∙ are.len;
    each = each;
  }
    where
      each : (j : ℕ) → j < length old → IsRenamed image (bind_at old j) (bind_at (set items i here) j)
      each j below = elim (cases_eq j i) [
        | inl same ↦
            let at : bind_at (set items i here) j ≡ here = rw same (get_or-set_same items i here no_bind less) in
            let was = are.each j below in
            let now : IsRenamed image (bind_at items j) here = subst (λ (k : ℕ). IsRenamed image (bind_at items k) here) (sym same) is in
            subst (IsRenamed image (bind_at old j)) (sym at) (record {
              place = now.place ∙ was.place;
              segment = now.segment ∙ was.segment;
              offset = now.offset ∙ was.offset;
              addend = now.addend ∙ was.addend;
              library = now.library ∙ was.library;
              shared = (now.shared.0, now.shared.1 ∙ was.shared.1);
            })
        | inr apart ↦ subst (IsRenamed image (bind_at old j)) (sym (get_or-set_other items i j here no_bind apart)) (are.each j below)
      ]

  module _ (old new : List Bind) (are : AreRenamed image old new) where
    old_of : (bind : Bind) → Contains new bind → (was : Bind) × Contains old was × IsRenamed image was bind
    old_of bind (i, less, at) =
        let within : i < length old = omega (arith, less, are.len) in
        (bind_at old i, (i, within, get_or_default old i _ no_bind within), subst (IsRenamed image (bind_at old i)) (get_or_default new i no_bind bind less ∙ at) (are.each i within))

    new_of : (bind : Bind) → Contains old bind → (now : Bind) × Contains new now × IsRenamed image bind now
    new_of bind (i, less, at) =
        let within : i < length new = omega (arith, less, are.len) in
        (bind_at new i, (i, within, get_or_default new i _ no_bind within), subst (λ (b : Bind). IsRenamed image b (bind_at new i)) (get_or_default old i no_bind bind less ∙ at) (are.each i less))

    pub renamed_inside : AreInside (length image) old → AreInside (length image) new
    renamed_inside inside bind has =
        let (was, there, is) = old_of bind has in
        let old_inside = inside was there in
        record {
          place = omega (arith, is.place, old_inside.place);
          name = is.shared.0;
          offset = omega (arith, is.offset, old_inside.offset);
        }

    pub renamed_at : (place : ℕ) → ClashAt image new place ↔ ClashAt image old place
    renamed_at place = (
      λ (what, one, other, here, there, clash, first, second).
          let (one_was, one_has, one_is) = old_of one here in
          let (other_was, other_has, other_is) = old_of other there in (
            what,
            one_was,
            other_was,
            one_has,
            other_has,
            clash_too what one other one_was other_was (turned one_was one (alike one_was one one_is)) (turned other_was other (alike other_was other other_is)) clash,
            omega (arith, first, one_is.place),
            omega (arith, second, other_is.place),
          ),
      λ (what, one, other, here, there, clash, first, second).
          let (one_now, one_has, one_is) = new_of one here in
          let (other_now, other_has, other_is) = new_of other there in (
            what,
            one_now,
            other_now,
            one_has,
            other_has,
            clash_too what one other one_now other_now (alike one one_now one_is) (alike other other_now other_is) clash,
            omega (arith, first, one_is.place),
            omega (arith, second, other_is.place),
          ),
    )

-- The names of the first binds, so many

module _ (binds : List Bind) where
  abbrev IsNameBelow : ℕ → Span → Type 0
  IsNameBelow n name = (i : ℕ) × (i < n) × ((bind_at binds i).name ≡ name)

  pub record AreListed (n : ℕ) (names : List Span) (last : Option Span) : Type 0 where
    pub listed : (name : Span) → Contains names name ↔ IsNameBelow n name
    pub there : (name : Span) → last ≡ Some name → Contains names name

  pub listed_none : (names : List Span) → names ≡ [] → AreListed 0 names None
  listed_none names is = record {
    listed = λ name. (λ has. nowhere name (subst (λ (xs : List Span). Contains xs name) is has), λ (i, less, at). absurd (omega (arith, less)));
    there = λ name wrong. absurd (cc);
  }
    where
      nowhere : (name : Span) → Contains [] name → IsNameBelow 0 name
      nowhere name (k, less, at) = absurd (omega (arith, less))

  module _ (n : ℕ) (names : List Span) (last : Option Span) (are : AreListed n names last) where
    -- the next one has the name of the last
    pub listed_again : last ≡ Some (bind_at binds n).name → AreListed (n + 1) names last
    listed_again same = record {
      listed = λ name. (
        λ has. let (i, less, at) = (are.listed name).0 has in (i, omega (arith, less), at),
        λ (i, less, at). elim (cases_eq i n) [
          | inl here ↦ subst (Contains names) (ap (λ (k : ℕ). (bind_at binds k).name) (sym here) ∙ at) (are.there (bind_at binds n).name same)
          | inr apart ↦ (are.listed name).1 (i, omega (arith, less, apart), at)
        ],
      );
      there = are.there;
    }

    -- or it is added
    pub listed_more : (new : List Span) → new ≡ names ++ (bind_at binds n).name ∷ [] → AreListed (n + 1) new (Some (bind_at binds n).name)
    listed_more new pushed = record {
      listed = λ name. (to name, back name);
      there = λ name is. let same : (bind_at binds n).name ≡ name = cc in subst (Contains new) same at_end;
    }
      where
        at_end : Contains new (bind_at binds n).name
        at_end = subst (λ (xs : List Span). Contains xs (bind_at binds n).name) (sym pushed) (Contains-append_right names _ _ (0, lit< tt, refl))

        only : (name : Span) → Contains ((bind_at binds n).name ∷ []) name → (bind_at binds n).name ≡ name
        only name (zero, less, at) = at
        only name (suc k, less, at) = absurd (omega (arith, less))

        to : (name : Span) → Contains new name → IsNameBelow (n + 1) name
        to name has = elim (Contains-append_cases names _ name (subst (λ (xs : List Span). Contains xs name) pushed has)) [
          | inl early ↦ let (i, less, at) = (are.listed name).0 early in (i, omega (arith, less), at)
          | inr end ↦ (n, omega arith, only name end)
        ]

        back : (name : Span) → IsNameBelow (n + 1) name → Contains new name
        back name (i, less, at) = elim (cases_eq i n) [
          | inl here ↦ subst (Contains new) (ap (λ (k : ℕ). (bind_at binds k).name) (sym here) ∙ at) at_end
          | inr apart ↦ subst (λ (xs : List Span). Contains xs name) (sym pushed) (Contains-append_left names _ name ((are.listed name).1 (i, omega (arith, less, apart), at)))
        ]

    pub listed_all : n ≡ length binds → AreNamesOf binds names
    listed_all whole name = (
      λ has.
          let (i, less, at) = (are.listed name).0 has in
          let within : i < length binds = omega (arith, less, whole) in
          (bind_at binds i, (i, within, get_or_default binds i _ no_bind within), at),
      λ (bind, (i, less, at), is). (are.listed name).1 (i, omega (arith, less, whole), ap (λ (b : Bind). b.name) (get_or_default binds i no_bind bind less ∙ at) ∙ is),
    )

pub names_moved : (binds : List Bind) (old new : List Span) → IsPermutation old new → AreNamesOf binds old → AreNamesOf binds new
names_moved binds old new moved are name = (
  λ has. (are name).0 (Contains-permutation new old name (IsPermutation-sym old new moved) has),
  λ is. Contains-permutation old new name moved ((are name).1 is),
)
