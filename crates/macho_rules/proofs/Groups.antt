-- The three groups of symbols of an LC_DYSYMTAB.
use Rattle.std.proofs.Common.{◌≡◌, ℕ, suc, zero, ◌⊎◌, List, Any, Contains, refl, sym, subst, arith, lit<, inl, inr}
use Rattle.macho_fields.specs.Symbol.{ilocalsym, nlocalsym, iextdefsym, nextdefsym, iundefsym, nundefsym, groups_of, PassesSymbols}
use Rattle.macho_image.specs.Symbol.{dysymtab_at}
use Rattle.macho_image.specs.declared.dysymtab.Dysymtab.{Dysymtab}
use Rattle.macho_rules.proofs.Searches.{any_of}

-- each of them is among the three
pub local_listed : (image : List ℕ) (dysymtab : ℕ) → Contains (groups_of image dysymtab) (ilocalsym image dysymtab, nlocalsym image dysymtab)
local_listed image dysymtab = (0, lit< tt, refl)

pub defined_listed : (image : List ℕ) (dysymtab : ℕ) → Contains (groups_of image dysymtab) (iextdefsym image dysymtab, nextdefsym image dysymtab)
defined_listed image dysymtab = (1, lit< tt, refl)

pub undefined_listed : (image : List ℕ) (dysymtab : ℕ) → Contains (groups_of image dysymtab) (iundefsym image dysymtab, nundefsym image dysymtab)
undefined_listed image dysymtab = (2, lit< tt, refl)

-- one of them ends past so many symbols
abbrev pub HasGroupPast : ℕ → Dysymtab → Type 0
HasGroupPast count d =
    PassesSymbols count (d.ilocalsym, d.nlocalsym) ⊎ (PassesSymbols count (d.iextdefsym, d.nextdefsym) ⊎ PassesSymbols count (d.iundefsym, d.nundefsym))

module _ (image : List ℕ) (count : ℕ) (d : Dysymtab) (same : d ≡ dysymtab_at image d.place) where
  pub group_among : HasGroupPast count d → Any (PassesSymbols count) (groups_of image d.place)
  group_among past = among (subst (HasGroupPast count) same past)
    where
      among : HasGroupPast count (dysymtab_at image d.place) → Any (PassesSymbols count) (groups_of image d.place)
      among (inl local) = any_of (PassesSymbols count) (groups_of image d.place) _ (local_listed image d.place) local
      among (inr (inl defined)) = any_of (PassesSymbols count) (groups_of image d.place) _ (defined_listed image d.place) defined
      among (inr (inr undefined)) = any_of (PassesSymbols count) (groups_of image d.place) _ (undefined_listed image d.place) undefined

  pub among_groups : Any (PassesSymbols count) (groups_of image d.place) → HasGroupPast count d
  among_groups any = subst (HasGroupPast count) (sym same) (past any)
    where
      past : Any (PassesSymbols count) (groups_of image d.place) → HasGroupPast count (dysymtab_at image d.place)
      past (zero, group, less, at, here) = inl (subst (PassesSymbols count) (sym at) here)
      past (suc zero, group, less, at, here) = inr (inl (subst (PassesSymbols count) (sym at) here))
      past (suc (suc zero), group, less, at, here) = inr (inr (subst (PassesSymbols count) (sym at) here))
      past (suc (suc (suc k)), group, less, at, here) = absurd (omega arith)
