-- What the sections of an image, or the tables of LC_DYSYMTAB, have at a place.
use Rattle.std.proofs.Common.{◌≡◌, ◌≢◌, ◌+◌, ◌*◌, ◌<◌, ◌⊎◌, ℕ, List, map, Any, Option, None, Some, inl, inr, ap, arith}
use Rattle.std.specs.Prelude.{IsSomeAnd}
use Rattle.std.specs.Option.{option_map}
use Rattle.std.proofs.lemmas.Option.{same_Some}
use Rattle.macho_fields.proofs.Lists.{any_of, contains_mapped}
use Rattle.macho_fields.specs.Symbol.{extreloff, nextrel, locreloff, nlocrel}
use Rattle.macho_image.specs.Symbol.{dysymtab_at}
use Rattle.macho_image.specs.declared.dysymtab.Dysymtab.{Dysymtab}
use Rattle.macho_explain.specs.SectionItems.{HasRelocationAt}

-- no item of a table begins at a place
abbrev pub NoneAt : ℕ → ℕ → ℕ → ℕ → Type 0
NoneAt start size count place = (k : ℕ) → k < count → place ≢ start + k * size

-- no relocation does
pub elsewhere : (image : List ℕ) (start first count n place : ℕ) → first ≡ start → n ≡ count → NoneAt first 8 n place → ¬ HasRelocationAt image start count place
elsewhere image start first count n place from of none (k, less, at, any) = none k (omega (arith, less, of)) (omega (arith, at, from))

-- nor one of LC_DYSYMTAB
pub no_dysymtab : (image : List ℕ) (place : ℕ) (first : Option ℕ) (d : Dysymtab) → Some d ≡ option_map (dysymtab_at image) first → NoneAt d.extreloff 8 d.nextrel place → NoneAt d.locreloff 8 d.nlocrel place
    → ¬ IsSomeAnd first (λ c. HasRelocationAt image (extreloff image c) (nextrel image c) place ⊎ HasRelocationAt image (locreloff image c) (nlocrel image c) place)
no_dysymtab image place None d is external local has = has
no_dysymtab image place (Some c) d is external local has =
    let same = same_Some d (dysymtab_at image c) is in
    elim has [
      | inl one ↦ elsewhere image (extreloff image c) d.extreloff (nextrel image c) d.nextrel place (ap (λ (t : Dysymtab). t.extreloff) same) (ap (λ (t : Dysymtab). t.nextrel) same) external one
      | inr one ↦ elsewhere image (locreloff image c) d.locreloff (nlocrel image c) d.nlocrel place (ap (λ (t : Dysymtab). t.locreloff) same) (ap (λ (t : Dysymtab). t.nlocrel) same) local one
    ]

-- what one of some items has, one of what they are mapped to has
pub any_mapped : {A X : Type 0} (P : X → Type 0) (f : A → X) (xs : List A) → Any (λ a. P (f a)) xs → Any P (map f xs)
any_mapped P f xs (k, a, less, at, has) = any_of P (map f xs) (f a) (contains_mapped f xs a (k, less, at)) has
