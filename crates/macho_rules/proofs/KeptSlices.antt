-- The rules of the layout, scope by scope: what is unbroken in a file and in its slices up to one of them.
use Rattle.std.proofs.Common.{◌≡◌, ℕ, suc, ◌+◌, List, Some, length, slice_get, refl, arith}
use Rattle.macho_fields.specs.First.{IsBrokenIn, IsFirstBroken, IsUnbroken}
use Rattle.macho_fields.specs.Layers.{IsLeast, NothingBreaks}
use Rattle.macho_fields.specs.Rules.{BreaksFile, BreaksImage}
use Rattle.macho_fields.specs.Universal.{FileSlice, slices_of, slice_bytes, IsImage}
use Rattle.macho_fields.specs.declared.rule.Break.{Break}
use Rattle.macho_fields.proofs.Options.{some_has}
use Rattle.macho_fields.proofs.Scopes as scopes

-- nothing is broken in the file itself, and in its first n slices
abbrev pub KeptSlices : List ℕ → ℕ → Type 0
KeptSlices file n = scopes.KeptScopes BreaksFile BreaksImage file (n + 1)

pub file_kept : (file : List ℕ) → NothingBreaks (BreaksFile file) → KeptSlices file 0
file_kept file keeps = scopes.one_more BreaksFile BreaksImage file 0 (scopes.none_kept BreaksFile BreaksImage file) keeps

-- one slice more
slice_kept : (file : List ℕ) (k : ℕ) → KeptSlices file k → NothingBreaks (IsBrokenIn file (suc k)) → KeptSlices file (k + 1)
slice_kept file k kept none scope r place less =
    scopes.one_more BreaksFile BreaksImage file (suc k) (λ other q p lower. kept other q p (omega arith)) none scope r place (omega arith)

-- which is an image that breaks nothing, or none
pub image_kept : (file : List ℕ) (k : ℕ) (slice : FileSlice) → slice_get (slices_of file) k ≡ Some slice → KeptSlices file k
    → NothingBreaks (BreaksImage (slice_bytes file slice) slice.arch) → KeptSlices file (k + 1)
image_kept file k slice is kept none = slice_kept file k kept (scopes.slice_unbroken BreaksFile BreaksImage file k slice is none)

pub other_kept : (file : List ℕ) (k : ℕ) (slice : FileSlice) → slice_get (slices_of file) k ≡ Some slice → KeptSlices file k → ¬ IsImage (slice_bytes file slice) → KeptSlices file (k + 1)
other_kept file k slice is kept other =
    slice_kept file k kept (scopes.other_unbroken BreaksFile BreaksImage file k (λ has. other (some_has (λ s. IsImage (slice_bytes file s)) (slice_get (slices_of file) k) slice is has)))

-- and after the last slice the file is unbroken
pub all_kept : (file : List ℕ) (n : ℕ) → n ≡ length (slices_of file) → KeptSlices file n → IsUnbroken file
all_kept file n counted kept = scopes.all_kept BreaksFile BreaksImage file (λ scope r place less. kept scope r place (omega (arith, counted)))

-- the first break of the file's own rules is the first of all
pub file_first : (file : List ℕ) (b : Break) → IsLeast (BreaksFile file) b → IsFirstBroken file b
file_first file b least = scopes.scope_first BreaksFile BreaksImage file 0 b b (scopes.none_kept BreaksFile BreaksImage file) least refl (omega arith)

-- and so is the first break of a slice, where nothing is broken before the slice
pub slice_first : (file : List ℕ) (k : ℕ) (slice : FileSlice) (found b : Break) → slice_get (slices_of file) k ≡ Some slice → KeptSlices file k
    → IsImage (slice_bytes file slice) → IsLeast (BreaksImage (slice_bytes file slice) slice.arch) found
    → b.rule ≡ found.rule → b.place ≡ slice.start + found.place → IsFirstBroken file b
slice_first file k slice found b is kept image least same_rule same_place =
    scopes.scope_first BreaksFile BreaksImage file (suc k) found b (λ scope r place less. kept scope r place (omega arith))
    (scopes.slice_least BreaksFile BreaksImage file k slice is image found least) same_rule (omega (arith, same_place, scopes.slice_start file k slice is))
