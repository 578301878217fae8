-- The words of a dysymtab_command.
use Rattle.std.proofs.Common.{◌≡◌, ℕ, List, ◌∷◌, ap₂, slice_index}
use Rattle.macho_image.specs.declared.dysymtab.Dysymtab.{Dysymtab}

-- lists with the same first item and the same rest
pub both : {x y : ℕ} {xs ys : List ℕ} → x ≡ y → xs ≡ ys → x ∷ xs ≡ y ∷ ys
both first others = ap₂ (λ (a : ℕ) (rest : List ℕ). a ∷ rest) first others

-- the structure at a place with these words, in order
abbrev pub dysymtab_of : ℕ → List ℕ → Dysymtab
dysymtab_of place words = record {
  place = place;
  ilocalsym = slice_index words 0;
  nlocalsym = slice_index words 1;
  iextdefsym = slice_index words 2;
  nextdefsym = slice_index words 3;
  iundefsym = slice_index words 4;
  nundefsym = slice_index words 5;
  tocoff = slice_index words 6;
  ntoc = slice_index words 7;
  modtaboff = slice_index words 8;
  nmodtab = slice_index words 9;
  extrefsymoff = slice_index words 10;
  nextrefsyms = slice_index words 11;
  indirectsymoff = slice_index words 12;
  nindirectsyms = slice_index words 13;
  extreloff = slice_index words 14;
  nextrel = slice_index words 15;
  locreloff = slice_index words 16;
  nlocrel = slice_index words 17;
}
