-- In an image that breaks no rule, each segment named __TEXT has the base.
use Rattle.std.proofs.Common.{◌≡◌, ℕ, ◌⊎◌, List, Any, Contains, Bool, true, Some, refl, ap, inl, inr}
use Rattle.std.specs.Prelude.{codes}
use Rattle.std.specs.List.{find}
use Rattle.std.specs.Option.{option_map}
use Rattle.std.specs.Str.{bytes_eq}
use Rattle.std.proofs.lemmas.Bool.{cases_Bool, cases_eq}
use Rattle.std.proofs.lemmas.Bool.Decides.{not_from_Decides}
use Rattle.std.proofs.lemmas.Slice.Eq.{bytes_eq-Decides}
use Rattle.macho_fields.specs.Image.{commands_of}
use Rattle.macho_fields.specs.Layers.{NothingBreaks}
use Rattle.macho_fields.specs.Segment.{all_segments, base_of, shows_start, vmaddr}
use Rattle.macho_fields.specs.declared.rule.Rule.TheVariants as rule
use Rattle.macho_fields.proofs.Decided.{not_not, both_or_not, any_or_not, some_or_not}
use Rattle.macho_fields.proofs.Options.{some_of}
use Rattle.macho_image.specs.Segment.{segment_name}
use Rattle.macho_rules.proofs.Searches.{any_of}
use Rattle.macho_tables.specs.Homes.{IsTextElsewhere, IsSafeBase, HasSafeBase}
use Rattle.macho_linked.specs.Rules.{BreaksImage}
use Rattle.macho_tables.specs.Segments.{is_constant, IsText}

opposite_or_not : {P : Type 0} → P ⊎ ¬ P → (¬ P) ⊎ ¬ (¬ P)
opposite_or_not (inl p) = inr (λ n. n p)
opposite_or_not (inr n) = inl n

true_or_not : (b : Bool) → (b ≡ true) ⊎ ¬ (b ≡ true)
true_or_not b = elim (cases_Bool b) [ inl t ↦ inl t | inr f ↦ inr (λ t. cc) ]

-- The rule can be tested
module _ (image : List ℕ) where
  text_or_not : (s : ℕ) → IsText image s ⊎ ¬ IsText image s
  text_or_not s =
      let same = bytes_eq-Decides (segment_name image s) (codes "__TEXT") in
      elim (cases_Bool (bytes_eq (segment_name image s) (codes "__TEXT"))) [ inl t ↦ inl (same.0 t) | inr f ↦ inr (not_from_Decides _ same f) ]

  elsewhere_or_not : (base s : ℕ) → IsTextElsewhere base image s ⊎ ¬ IsTextElsewhere base image s
  elsewhere_or_not base s = both_or_not (text_or_not s) (opposite_or_not (cases_eq (vmaddr image s) base))

  safe_or_not : (s : ℕ) → IsSafeBase image s ⊎ ¬ IsSafeBase image s
  safe_or_not s =
      let base = vmaddr image s in
      both_or_not (true_or_not (is_constant image s))
      (both_or_not (any_or_not (IsText image) text_or_not (all_segments image)) (opposite_or_not (any_or_not (IsTextElsewhere base image) (elsewhere_or_not base) (all_segments image))))

  base_or_not : HasSafeBase image ⊎ ¬ HasSafeBase image
  base_or_not = some_or_not (IsSafeBase image) safe_or_not (find (shows_start image) (all_segments image))

module _ (image : List ℕ) (kept : NothingBreaks (BreaksImage image)) where
  pub text_at_base : (base : ℕ) × (base_of image (commands_of image) ≡ Some base) × Any (IsText image) (all_segments image)
      × ((s : ℕ) → Contains (all_segments image) s → IsText image s → vmaddr image s ≡ base)
  text_at_base =
      let safe = not_not (base_or_not image) (λ unsafe. kept rule.HeaderHome 0 (refl, unsafe)) in
      let (b, is, (constant, (named, none))) = some_of (IsSafeBase image) (find (shows_start image) (all_segments image)) safe in (
        vmaddr image b,
        ap (option_map (vmaddr image)) is,
        named,
        λ s has text. elim (cases_eq (vmaddr image s) (vmaddr image b)) [
          | inl same ↦ same
          | inr apart ↦ absurd (none (any_of (IsTextElsewhere (vmaddr image b) image) (all_segments image) s has (text, apart)))
        ],
      )
