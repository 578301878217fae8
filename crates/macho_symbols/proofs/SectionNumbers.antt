-- Which sections lie in mapped segments, by their numbers, one section after the other.
use Rattle.std.proofs.Common.{◌≡◌, ◌∙◌, ◌↔◌, ℕ, zero, suc, ◌+◌, ◌≤◌, ◌<◌, List, [], ◌∷◌, ◌++◌, length, map, get_or, Bool, true, false, IsTrue, Option, Some, None, slice_get, refl, sym, ap, subst, arith, inl, inr, length-append}
use Rattle.std.specs.List.{list_all}
use Rattle.std.specs.Prelude.{IsSomeAnd, not}
use Rattle.std.specs.Option.{option_map, option_map_or}
use Rattle.std.proofs.Math.ListN.{set}
use Rattle.std.proofs.lemmas.Bool.{cases_eq, false≢true, lt-ltb, ltb-true}
use Rattle.std.proofs.lemmas.List.{length-set, get_or-set_same, get_or-set_other}
use Rattle.std.proofs.lemmas.Option.{slice_get-map}
use Rattle.macho_fields.specs.Image.{commands_of}
use Rattle.macho_fields.specs.Segment.{vmsize}
use Rattle.macho_image.specs.Segment.{SectionView, section_at, sections_of}
use Rattle.macho_rules.proofs.Surveys.{walked_on, walked_all}
use Rattle.macho_symbols.specs.Sections.{is_mapped, IsMappedSection}

-- whether a section has a number, and lies in a mapped segment
abbrev pub is_number : List SectionView → ℕ → Bool
is_number seen zero = false
is_number seen (suc k) = option_map_or is_mapped (slice_get seen k) false

-- what was noted of the sections that were passed
pub record AreNoted (all left : List SectionView) (found : List Bool) (number : ℕ) : Type 0 where
  pub seen : List SectionView
  pub reached : all ≡ seen ++ left
  pub at : number ≡ length seen + 1
  pub few : number ≤ 256
  pub size : length found ≡ 256
  pub same : (n : ℕ) → n < 256 → get_or found n false ≡ is_number seen n

all_false : (found : List Bool) → list_all not found ≡ true → (n : ℕ) → get_or found n false ≡ false
all_false [] none n = refl
all_false (false ∷ found) none zero = refl
all_false (false ∷ found) none (suc n) = all_false found none n
all_false (true ∷ found) none n = absurd (false≢true none)

none_number : (n : ℕ) → is_number [] n ≡ false
none_number zero = refl
none_number (suc n) = refl

pub noted_none : (all : List SectionView) (found : List Bool) → length found ≡ 256 → list_all not found ≡ true → AreNoted all all found 1
noted_none all found size none = record {
  seen = [];
  reached = refl;
  at = refl;
  few = omega arith;
  size = size;
  same = λ n less. all_false found none n ∙ sym (none_number n);
}

get_here : (seen : List SectionView) (s : SectionView) (rest : List SectionView) → slice_get (seen ++ s ∷ rest) (length seen) ≡ Some s
get_here [] s rest = refl
get_here (t ∷ seen) s rest = get_here seen s rest

get_before : (seen left : List SectionView) (k : ℕ) → k < length seen → slice_get (seen ++ left) k ≡ slice_get seen k
get_before [] left k less = absurd (omega arith)
get_before (t ∷ seen) left zero less = refl
get_before (t ∷ seen) left (suc k) less = get_before seen left k (omega (arith, less))

get_other : (seen : List SectionView) (s : SectionView) (k : ℕ) → (k ≡ length seen → ⊥) → slice_get (seen ++ s ∷ []) k ≡ slice_get seen k
get_other [] s zero apart = absurd (apart refl)
get_other [] s (suc k) apart = refl
get_other (t ∷ seen) s zero apart = refl
get_other (t ∷ seen) s (suc k) apart = get_other seen s k (λ same. apart (omega (arith, same)))

number_here : (seen : List SectionView) (s : SectionView) (n : ℕ) → n ≡ length seen + 1 → is_number (seen ++ s ∷ []) n ≡ is_mapped s
number_here seen s zero is = absurd (omega (arith, is))
number_here seen s (suc k) is =
    let same : k ≡ length seen = omega (arith, is) in
    ap (λ o. option_map_or is_mapped o false) (ap (slice_get (seen ++ s ∷ [])) same ∙ get_here seen s [])

number_other : (seen : List SectionView) (s : SectionView) (n : ℕ) → (n ≡ length seen + 1 → ⊥) → is_number (seen ++ s ∷ []) n ≡ is_number seen n
number_other seen s zero apart = refl
number_other seen s (suc k) apart = ap (λ o. option_map_or is_mapped o false) (get_other seen s k (λ same. apart (omega (arith, same))))

number_before : (seen left : List SectionView) (n : ℕ) → n ≤ length seen → is_number (seen ++ left) n ≡ is_number seen n
number_before seen left zero less = refl
number_before seen left (suc k) less = ap (λ o. option_map_or is_mapped o false) (get_before seen left k (omega (arith, less)))

module _ (all left rest : List SectionView) (s : SectionView) (is : left ≡ s ∷ rest) (found : List Bool) (number : ℕ) (noted : AreNoted all left found number) where
  noted_next : number < 256 → AreNoted all rest (set found number (is_mapped s)) (number + 1)
  noted_next less =
      let at = noted.at in
      let size = noted.size in record {
        seen = noted.seen ++ s ∷ [];
        reached = walked_on all noted.seen left s rest noted.reached is;
        at = let longer = length-append noted.seen (s ∷ []) in omega (arith, longer, at);
        few = omega (arith, less);
        size = length-set found number (is_mapped s) ∙ size;
        same = λ n below. elim (cases_eq n number) [
          | inl same ↦
              ap (λ i. get_or (set found number (is_mapped s)) i false) same
              ∙ (get_or-set_same found number (is_mapped s) false (omega (arith, size, less)) ∙ sym (number_here noted.seen s n (omega (arith, same, at))))
          | inr apart ↦
              get_or-set_other found number n (is_mapped s) false apart
              ∙ (noted.same n below ∙ sym (number_other noted.seen s n (λ same. apart (omega (arith, same, at)))))
        ];
      }

  pub noted_more : (mapped : Bool) → mapped ≡ is_mapped s → number < 256 → AreNoted all rest (set found number mapped) (number + 1)
  noted_more mapped same less = rw same (noted_next less)

some_mapped : (image : List ℕ) (o : Option (ℕ × ℕ)) → IsTrue (option_map_or is_mapped (option_map (section_at image) o) false) ↔ IsSomeAnd o (λ section. 0 < vmsize image section.0)
some_mapped image None = (λ wrong. absurd (false≢true wrong), λ none. absurd none)
some_mapped image (Some section) = (λ is. ltb-true 0 (vmsize image section.0) is, λ more. lt-ltb 0 (vmsize image section.0) more)

number_mapped : (image : List ℕ) (n : ℕ) → IsTrue (is_number (map (section_at image) (sections_of image (commands_of image))) n) ↔ IsMappedSection image n
number_mapped image zero = (λ wrong. absurd (false≢true wrong), λ none. absurd none)
number_mapped image (suc k) =
    subst (λ o. IsTrue (option_map_or is_mapped o false) ↔ IsMappedSection image (suc k)) (sym (slice_get-map (section_at image) (sections_of image (commands_of image)) k))
    (some_mapped image (slice_get (sections_of image (commands_of image)) k))

module _ (image : List ℕ) (all left : List SectionView) (are : all ≡ map (section_at image) (sections_of image (commands_of image))) (found : List Bool) (number : ℕ)
    (noted : AreNoted all left found number) where
  numbered : (n : ℕ) → get_or found n false ≡ is_number all n → IsTrue (get_or found n false) ↔ IsMappedSection image n
  numbered n same =
      subst (λ b. IsTrue b ↔ IsMappedSection image n) (sym (same ∙ ap (λ these. is_number these n) are)) (number_mapped image n)

  -- all numbers that a symbol can have
  pub full_noted : number ≡ 256 → (n : ℕ) → n < 256 → IsTrue (get_or found n false) ↔ IsMappedSection image n
  full_noted full n below =
      let at = noted.at in
      numbered n (noted.same n below ∙ (sym (number_before noted.seen left n (omega (arith, at, full, below))) ∙ ap (λ these. is_number these n) (sym noted.reached)))

  -- all sections
  pub all_noted : left ≡ [] → (n : ℕ) → n < 256 → IsTrue (get_or found n false) ↔ IsMappedSection image n
  all_noted ended n below =
      numbered n (noted.same n below ∙ ap (λ these. is_number these n) (sym (walked_all all noted.seen left noted.reached ended)))
