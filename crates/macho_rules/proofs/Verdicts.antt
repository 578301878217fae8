-- From the answers on slices and images to the verdict on a file.
use Rattle.std.proofs.Common.{◌≡◌, ◌↔◌, ℕ, zero, suc, ◌+◌, ◌≤◌, ◌<◌, List, [], ◌∷◌, length, map, slice_get, slice_index_or, false, Option, Some, None}
use Rattle.std.proofs.Common.{Result, Ok, Err, IfErr, IfSome, IsSome, IsErrAnd, IsTrue, Bor, nat_lt, inl, inr, refl, sym, ap, ◌∙◌, subst, arith}
use Rattle.std.specs.Option.{option_map}
use Rattle.std.proofs.lemmas.List.{length-map}
use Rattle.std.proofs.lemmas.Option.{slice_get-map, slice_get-get_or, slice_get_past}
use Rattle.std.proofs.lemmas.Bool.{false≢true, cases_lt, lt-ltb, ltb-true}
use Rattle.std.specs.Option.{is_some}
use Rattle.macho_fields.specs.Universal.{FileSlice, slices_of, slice_bytes, IsImage}
use Rattle.macho_fields.specs.First.{rank, IsUnbroken}
use Rattle.macho_fields.specs.Rules.{BreaksFile, BreaksImage}
use Rattle.macho_fields.specs.Layers.{IsLeast, KeptBelow, NothingBreaks}
use Rattle.macho_fields.specs.declared.rule.Rule.{Rule}
use Rattle.macho_fields.specs.declared.rule.Break.{Break}
use Rattle.macho_fields.specs.declared.rule.Rule.TheVariants as rule
use Rattle.macho_fields.specs.Image.{commands_of}
use Rattle.macho_fields.specs.Loader.{IsSoundImage}
use Rattle.macho_fields.proofs.Parts.{commands_of_walk}
use Rattle.macho_fields.proofs.SoundImage.{sound_image}
use Rattle.macho_fields.proofs.Ranks.{image_alone, commands_alone}
use Rattle.macho_fields.proofs.Scopes.{of_slice}
use Rattle.macho_fields.proofs.Sound.{slice_inside}
use Rattle.macho_fat.specs.Slices.{slice_of, AreSlices, IsFatFault}
use Rattle.macho_fat.specs.declared.fault.FatFault.{FatFault}
use Rattle.macho_fat.specs.declared.fault.FatFault.TheVariants as fault
use Rattle.macho_fat.specs.declared.slice.Slice.{Slice}
use Rattle.macho_image.specs.Opened.{IsOpened}
use Rattle.macho_rules.specs.Check.{KeptBefore}
use Rattle.macho_rules.specs.Verdict.{WasFound, IsVerified, IsRefusal, IsImageRefusal, IsSliceRefusal, refusal_of}
use Rattle.macho_rules.proofs.KeptSlices.{KeptSlices, file_first, slice_first}
use Rattle.macho_rules.proofs.FileMemory.{slice_takes}
use Rattle.macho_rules.specs.declared.refusal.Refusal.{Refusal}
use Rattle.macho_rules.specs.declared.verdict.Found.{Found}
use Rattle.macho_rules.specs.declared.refusal.Refusal.TheVariants as refusal

-- a broken rule that is passed on
pub passed_on : {T E : Type 0} (P : E → Type 0) (answer : Result T E) (r : E) → IsErrAnd answer (λ given. given ≡ r) → P r → IfErr answer P
passed_on P (Ok x) r is p = absurd is
passed_on P (Err given) r is p = subst P (sym is) p

-- the first break of what was surveyed, which is the image
pub refused_by : {T : Type 0} {image surveyed : List ℕ} → surveyed ≡ image → (b : Break) → IsLeast (BreaksImage surveyed None) b → (answer : Result T Refusal) → IsErrAnd answer (λ given. given ≡ refusal.Broken b)
    → IfErr answer (IsImageRefusal image None)
refused_by {image = image} {surveyed = surveyed} same b least answer is = passed_on (IsImageRefusal image None) answer (refusal.Broken b) is (subst (λ (bytes : List ℕ). IsLeast (BreaksImage bytes None) b) same least)

-- what the one keeps the other keeps
pub kept_by : {image surveyed : List ℕ} → surveyed ≡ image → (r : Rule) → KeptBefore surveyed r → KeptBefore image r
kept_by same r = subst (λ (bytes : List ℕ). KeptBefore bytes r) same

-- A break of an image is one of its opening, or one that needs no architecture.
module _ (image : List ℕ) (arch : Option (ℕ × ℕ)) (opening : KeptBelow (BreaksImage image arch) (rank rule.SegmentAddress)) where
  alone : (r : Rule) (place : ℕ) → BreaksImage image arch r place → BreaksImage image None r place
  alone r place broken = elim (cases_lt (rank r) (rank rule.SegmentAddress)) [
    | inl early ↦ absurd (opening r place early broken)
    | inr late ↦ commands_alone image arch r place (omega (arith, late)) broken
  ]

  -- so what is decided of an opened image is decided of its bytes
  pub opened_unbroken : NothingBreaks (BreaksImage image None) → NothingBreaks (BreaksImage image arch)
  opened_unbroken none r place broken = none r place (alone r place broken)

  pub opened_refused : (refused : Refusal) → IsImageRefusal image None refused → IsImageRefusal image arch refused
  opened_refused (refusal.Broken b) (here, least) = (image_alone image arch b.rule b.place here, λ r place broken. least r place (alone r place broken))
  opened_refused refusal.Memory (below, mapped, unordered) = (λ r place early broken. below r place early (alone r place broken), mapped, unordered)

pub answered : {T E : Type 0} (P : E → Type 0) (answer : Result T E) (given e : E) → answer ≡ Err given → given ≡ e → P e → IfErr answer P
answered P answer given e is same p = subst (λ a. IfErr a P) (sym is) (subst P (sym same) p)

-- the slice at an index of the list is the file's
pub slice_at : (file : List ℕ) (slices : List Slice) → AreSlices file slices → (k : ℕ) (d : Slice) → k < length slices → slice_get (slices_of file) k ≡ Some (slice_of (slice_index_or slices k d))
slice_at file slices are k d less =
    ap (λ ss. slice_get ss k) (sym are.all) ∙ (slice_get-map slice_of slices k ∙ ap (option_map slice_of) (slice_get-get_or slices k d less))

pub own_rules : (file : List ℕ) → IsUnbroken file → NothingBreaks (BreaksFile file)
own_rules file unbroken r place broken = unbroken (record { scope = 0; rule = r; place = place }) broken

-- there is a slice with an index below their number
pub slice_there : {A B : Type 0} (f : A → B) (o : Option A) (xs : List B) (index : ℕ) → option_map f o ≡ slice_get xs index → index < length xs → IsSome o
slice_there f (Some x) xs index is within = refl
slice_there f None [] index is within = absurd (omega arith)
slice_there f None (x ∷ xs) zero is within = absurd (cc)
slice_there f None (x ∷ xs) (suc index) is within = slice_there f None xs index is (omega arith)

-- it is the file's, whose bytes the slices are of
pub slice_got : (given file : List ℕ) → given ≡ file → (k : ℕ) (slice : Slice) → Some (slice_of slice) ≡ slice_get (slices_of given) k → slice_get (slices_of file) k ≡ Some (slice_of slice)
slice_got given file same k slice is = sym (subst (λ (bytes : List ℕ). Some (slice_of slice) ≡ slice_get (slices_of bytes) k) same is)

-- a refusal of a slice is one of the file, where nothing is broken before the slice
pub slice_refused : (file : List ℕ) (k : ℕ) (slice : FileSlice) → slice_get (slices_of file) k ≡ Some slice → KeptSlices file k → IsImage (slice_bytes file slice) → (refused : Refusal)
    → IsSliceRefusal file slice refused → IsRefusal file refused
slice_refused file k slice is kept image (refusal.Broken b) (found, least, rule, place) = slice_first file k slice found b is kept image least rule place
slice_refused file k slice is kept image refusal.Memory takes = slice_takes file k slice is (λ r place. kept 0 r place (omega arith)) image takes

pub slices_counted : (file : List ℕ) (slices : List Slice) → AreSlices file slices → length slices ≡ length (slices_of file)
slices_counted file slices are =
    let same : length (map slice_of slices) ≡ length (slices_of file) = ap length are.all in let kept : length (map slice_of slices) ≡ length slices = length-map slices slice_of in
    omega (arith, same, kept)

-- a fault of the slices is a refusal of the file
pub fat_refused : (file : List ℕ) (f : FatFault) → IsFatFault file f → IsRefusal file (refusal_of f)
fat_refused file (fault.Broken b) least = file_first file b least
fat_refused file fault.Memory takes = inl takes

-- What a verified file keeps

pub verified : (file : List ℕ) (slices : List Slice) (found : Option Found) → IsUnbroken file → AreSlices file slices → IfSome found (WasFound file) → IsVerified file slices found
unfolding IsVerified
verified file slices found unbroken all was = record { unbroken = unbroken; all = all; last = was }

module _ (file : List ℕ) (slices : List Slice) (found : Option Found) (keeps : IsVerified file slices found) where
  pub verified_unbroken : IsUnbroken file
  unfolding IsVerified
  verified_unbroken = keeps.unbroken

  pub verified_slices : AreSlices file slices
  unfolding IsVerified
  verified_slices = keeps.all

  pub verified_found : IfSome found (WasFound file)
  unfolding IsVerified
  verified_found = keeps.last

-- a slice of an unbroken file lies in it
pub file_inside : (file : List ℕ) → IsUnbroken file → (k : ℕ) (slice : FileSlice) → Some slice ≡ slice_get (slices_of file) k → slice.start + slice.size ≤ length file
file_inside file unbroken k slice is = slice_inside file (λ r place broken. unbroken (record { scope = 0; rule = r; place = place }) broken) k slice (sym is)

-- an image of an unbroken file breaks nothing
pub file_keeps : (file : List ℕ) → IsUnbroken file → (k : ℕ) (slice : FileSlice) → Some slice ≡ slice_get (slices_of file) k → IsImage (slice_bytes file slice)
    → NothingBreaks (BreaksImage (slice_bytes file slice) None)
file_keeps file unbroken k slice is image r place broken =
    unbroken (record { scope = suc k; rule = r; place = place }) (of_slice BreaksFile BreaksImage file k slice (sym is) image r place (image_alone (slice_bytes file slice) slice.arch r place broken))

-- what a list gives at an index is the slice of the file
pub slice_given : (file : List ℕ) (slices : List Slice) → AreSlices file slices → (k : ℕ) (got : Option (Bor Slice)) → is_some got ≡ nat_lt k (length slices)
    → IfSome got (λ s. s.now ≡ slice_index_or slices k s.now) → option_map (λ s. slice_of s.now) got ≡ slice_get (slices_of file) k
slice_given file slices are k None test found = sym (slice_get_past (slices_of file) k past)
  where
    past : length (slices_of file) ≤ k
    past = elim (cases_lt k (length slices)) [
      | inl less ↦ absurd (false≢true (test ∙ lt-ltb k (length slices) less))
      | inr most ↦ let counted = slices_counted file slices are in omega (arith, counted)
    ]
slice_given file slices are k (Some s) test found = ap (λ (x : Slice). Some (slice_of x)) found ∙ sym (slice_at file slices are k s.now (ltb-true k (length slices) (sym test)))

pub read_given : (file : List ℕ) (slices : List Slice) → AreSlices file slices → (k : ℕ) (got : Option (Bor Slice)) → is_some got ≡ nat_lt k (length slices)
    → IfSome got (λ s. s.now ≡ slice_index_or slices k s.now) → IfSome got (λ s. IsTrue s.now.read ↔ IsImage (slice_bytes file (slice_of s.now)))
read_given file slices are k None test found = tt
read_given file slices are k (Some s) test found =
    subst (λ (x : Slice). IsTrue x.read ↔ IsImage (slice_bytes file (slice_of x))) (sym found) (are.read k s.now (ltb-true k (length slices) (sym test)))

-- which is opened, then
pub unbroken_opened : (image : List ℕ) → NothingBreaks (BreaksImage image None) → IsOpened image
unfolding IsOpened
unbroken_opened image none r place early broken = none r place broken

-- and sound
pub unbroken_image_sound : (image : List ℕ) → NothingBreaks (BreaksImage image None) → IsSoundImage image (commands_of image)
unbroken_image_sound image none =
    sound_image image None none (commands_of image) (commands_of_walk image None (λ place broken. none rule.CommandWalk place (inl broken)))
