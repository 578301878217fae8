-- From what a profile decides of images to what it decides of a file.
use Rattle.std.proofs.Common.{◌≡◌, ℕ, suc, zero, ◌+◌, ◌≤◌, List, length, slice_get, get_or, None, Some, Result, Ok, Err, IfErr, sym, ap, subst, ◌∙◌, arith}
use Rattle.std.proofs.lemmas.Option.{slice_get-get_or, slice_get_within, get_or_from_slice_get}
use Rattle.macho_fields.specs.First.{IsFirstOfAll, IsBefore, Fault, IsUnbroken, NoneIsBroken}
use Rattle.macho_fields.specs.Layers.{KeptBelow, NothingBreaks}
use Rattle.macho_fields.specs.RuleList.{rank, profile_of}
use Rattle.macho_fields.specs.Rules.{BreaksImage}
use Rattle.macho_fields.specs.Universal.{FileSlice, slices_of, slice_bytes, IsImage, OfEachImage}
use Rattle.macho_fields.specs.declared.rule.Break.{Break}
use Rattle.macho_fields.specs.declared.rule.Profile.{Profile}
use Rattle.macho_fields.specs.declared.rule.Rule.{Rule}
use Rattle.macho_fields.proofs.Options.{some_of, of_some}
use Rattle.macho_fields.proofs.Scopes.{KeptScopes, none_kept, one_more, all_kept, scope_first}
use Rattle.macho_rules.proofs.Verdicts.{file_keeps}
use Rattle.macho_rules.specs.Profile.{NoFileRule, SliceBreaks, AddedIn, RefusesInside, SliceKeeps, NoImageBreaks, IsRefusalInSlice, IsRefusalOfImages}
use Rattle.macho_rules.specs.Verdict.{IsRefusalOf}
use Rattle.macho_rules.specs.declared.refusal.Refusal.{Refusal}
use Rattle.macho_rules.specs.declared.refusal.Refusal.TheVariants as refusal

-- The rules of a profile are some that follow each other: an image breaks none before the first, and none past the last
module _ (Breaks : List ℕ → Rule → ℕ → Type 0) (p : Profile) (first last : Rule)
    (among : (image : List ℕ) (r : Rule) (place : ℕ) → Breaks image r place → (rank first ≤ rank r) × (rank r ≤ rank last) × (profile_of r ≡ p)) where
  pub none_before : (image : List ℕ) → KeptBelow (Breaks image) (rank first)
  none_before image r place early broken = let late = (among image r place broken).0 in absurd (omega (arith, early, late))

  -- where the last rule is unbroken, all are
  pub all_unbroken : (image : List ℕ) → KeptBelow (Breaks image) (rank last + 1) → NothingBreaks (Breaks image)
  all_unbroken image kept r place broken = let most = (among image r place broken).1 in kept r place (omega (arith, most)) broken

  -- what is broken in a file is of the profile
  module _ (FileBreaks : List ℕ → Rule → ℕ → Type 0) (file_among : (file : List ℕ) (r : Rule) (place : ℕ) → FileBreaks file r place → profile_of r ≡ p) where
    scope_among : (file : List ℕ) (scope : ℕ) (r : Rule) (place : ℕ) → AddedIn FileBreaks Breaks file scope r place → profile_of r ≡ p
    scope_among file zero r place broken = file_among file r place broken
    scope_among file (suc k) r place broken = let (slice, is, (image, here)) = some_of _ (slice_get (slices_of file) k) broken in (among (slice_bytes file slice) r place here).2

    pub first_among : (file : List ℕ) (b : Break) → IsFirstOfAll (AddedIn FileBreaks Breaks file) file b → profile_of b.rule ≡ p
    first_among file b (fault, broken, first, same, at) = ap profile_of same ∙ scope_among file fault.scope fault.rule fault.place broken

-- Of a profile that judges images alone, its slices one after the other
module _ (Breaks : List ℕ → Rule → ℕ → Type 0) (file : List ℕ) where
  -- nothing is broken in the first n slices
  abbrev pub KeptImages : ℕ → Type 0
  KeptImages n = KeptScopes NoFileRule (SliceBreaks NoFileRule Breaks) file (n + 1)

  pub no_image_kept : KeptImages 0
  no_image_kept = one_more NoFileRule (SliceBreaks NoFileRule Breaks) file 0 (none_kept NoFileRule (SliceBreaks NoFileRule Breaks) file) (λ r place broken. broken)

  pub image_kept : (k : ℕ) → KeptImages k → SliceKeeps Breaks file k → KeptImages (k + 1)
  image_kept k kept none scope r place less =
      one_more NoFileRule (SliceBreaks NoFileRule Breaks) file (suc k) (λ s q p few. kept s q p (omega arith)) none scope r place (omega arith)

  -- where no slice is left, no image breaks a rule
  pub images_kept : (n : ℕ) → length (slices_of file) ≤ n → KeptImages n → NoImageBreaks Breaks file
  images_kept n all kept = all_kept NoFileRule (SliceBreaks NoFileRule Breaks) file (λ scope r place less. kept scope r place (omega (arith, all, less)))

  -- a refusal of a slice is one of the images, where those before it break nothing
  pub image_refused : (TakesMemory : List ℕ → Type 0) (k : ℕ) → KeptImages k → (r : Refusal) → IsRefusalInSlice Breaks file TakesMemory k r → IsRefusalOfImages Breaks file TakesMemory r
  image_refused TakesMemory k kept (refusal.Broken b) (found, least, same, at) =
      scope_first NoFileRule (SliceBreaks NoFileRule Breaks) file (suc k) found b (λ s q p few. kept s q p (omega arith)) least same at
  image_refused TakesMemory k kept refusal.Memory takes = (suc k, takes)

-- A profile that judges the file itself too, where that breaks no rule
module _ (FileBreaks : List ℕ → Rule → ℕ → Type 0) (Breaks : List ℕ → Rule → ℕ → Type 0) (file : List ℕ) (file_kept : NothingBreaks (FileBreaks file)) where
  none_broken : NoImageBreaks Breaks file → (scope : ℕ) (r : Rule) (place : ℕ) → ¬ AddedIn FileBreaks Breaks file scope r place
  none_broken none zero r place broken = file_kept r place broken
  none_broken none (suc k) r place broken = none (record { scope = suc k; rule = r; place = place }) broken

  pub none_with_file : NoImageBreaks Breaks file → NoneIsBroken (AddedIn FileBreaks Breaks file)
  none_with_file none fault broken = none_broken none fault.scope fault.rule fault.place broken

  pub first_with_file : (b : Break) → IsFirstOfAll (AddedIn NoFileRule Breaks file) file b → IsFirstOfAll (AddedIn FileBreaks Breaks file) file b
  first_with_file b (fault, broken, first, same, at) = (fault, in_slice fault.scope broken, before, same, at)
    where
      in_slice : (scope : ℕ) → AddedIn NoFileRule Breaks file scope fault.rule fault.place → AddedIn FileBreaks Breaks file scope fault.rule fault.place
      in_slice zero none = absurd none
      in_slice (suc k) here = here

      earlier : (scope : ℕ) (r : Rule) (place : ℕ) → AddedIn FileBreaks Breaks file scope r place → ¬ IsBefore (record { scope = scope; rule = r; place = place }) fault
      earlier zero r place here = absurd (file_kept r place here)
      earlier (suc k) r place here = first (record { scope = suc k; rule = r; place = place }) here

      before : (other : Fault) → AddedIn FileBreaks Breaks file other.scope other.rule other.place → ¬ IsBefore other fault
      before other here = earlier other.scope other.rule other.place here

-- What an unbroken file's images keep
module _ (file : List ℕ) where
  pub image_keeps : (FileBreaks : List ℕ → Rule → ℕ → Type 0) (Breaks : List ℕ → Rule → ℕ → Type 0) → NoneIsBroken (AddedIn FileBreaks Breaks file)
      → (k : ℕ) (slice : FileSlice) → slice_get (slices_of file) k ≡ Some slice → IsImage (slice_bytes file slice) → NothingBreaks (Breaks (slice_bytes file slice))
  image_keeps FileBreaks Breaks none k slice is image r place broken =
      none (record { scope = suc k; rule = r; place = place })
      (of_some (λ s. IsImage (slice_bytes file s) × Breaks (slice_bytes file s) r place) (slice_get (slices_of file) k) slice is (image, broken))

  pub images_keep : (FileBreaks : List ℕ → Rule → ℕ → Type 0) (Breaks : List ℕ → Rule → ℕ → Type 0) → NoneIsBroken (AddedIn FileBreaks Breaks file)
      → OfEachImage (λ image. NothingBreaks (Breaks image)) file
  images_keep FileBreaks Breaks none k d less image = image_keeps FileBreaks Breaks none k (get_or (slices_of file) k d) (slice_get-get_or (slices_of file) k d less) image

  pub layout_keeps : IsUnbroken file → OfEachImage (λ image. NothingBreaks (BreaksImage image None)) file
  layout_keeps unbroken k d less image = file_keeps file unbroken k (get_or (slices_of file) k d) (sym (slice_get-get_or (slices_of file) k d less)) image

-- what each image has, the image in one slice has
pub before_of : (P : List ℕ → Type 0) (file : List ℕ) → OfEachImage P file → (k : ℕ) (slice : FileSlice) → slice_get (slices_of file) k ≡ Some slice → IsImage (slice_bytes file slice) → P (slice_bytes file slice)
before_of P file each k slice is image =
    let same = get_or_from_slice_get (slices_of file) k slice slice is in
    subst (λ s. P (slice_bytes file s)) same (each k slice (slice_get_within (slices_of file) k slice is) (subst (λ s. IsImage (slice_bytes file s)) (sym same) image))

-- where each place lies in the image, the place of a refusal does
pub refused_inside : {T : Type 0} (breaks : Rule → ℕ → Type 0) (CanRunOut : Type 0) (image : List ℕ) → ((r : Rule) (place : ℕ) → breaks r place → place ≤ length image) → (answer : Result T Refusal)
    → IfErr answer (IsRefusalOf breaks CanRunOut) → IfErr answer (RefusesInside image)
refused_inside breaks CanRunOut image near (Ok x) refused = tt
refused_inside breaks CanRunOut image near (Err (refusal.Broken b)) (broken, least) = near b.rule b.place broken
refused_inside breaks CanRunOut image near (Err refusal.Memory) takes = tt
