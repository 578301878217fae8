use Rattle.std.proofs.Common.{◌≡◌, List, ℕ, Some, IsSomeAnd, sym, refl, ap, ◌∙◌, subst, length, arith}
use Rattle.std.specs.Prelude.{slice_get}
use Rattle.macho_fields.specs.Layers.{IsLeast}
use Rattle.macho_fields.specs.Universal.{FileSlice, slices_of, slice_bytes, IsImage}
use Rattle.macho_fields.proofs.Options.{some_has, of_some}
use Rattle.macho_fields.proofs.Scopes.{slice_least, slice_start}
use Rattle.macho_fat.specs.Slices.{slice_of}
use Rattle.macho_image.proofs.ReadParts.{length-part}
use Rattle.macho_rules.specs.Profile.{NoFileRule, SliceBreaks}
use Rattle.macho_rules.proofs.Profiles.{before_of}
use Rattle.macho_rules.proofs.Verdicts.{file_inside}
use Rattle.macho_rules.proofs.profile.check_slice.Goals as goal

-- the image is the bytes of the slice
same_image : (file image : List ℕ) (k : ℕ) (slice : FileSlice) → Some slice ≡ slice_get (slices_of file) k → IsSomeAnd (slice_get (slices_of file) k) (λ s. image ≡ slice_bytes file s) → image ≡ slice_bytes file slice
same_image file image k slice at has = some_has (λ s. image ≡ slice_bytes file s) (slice_get (slices_of file) k) slice (sym at) has

pub check_image-requires-clause-before : goal.check_image-requires-clause-before
check_image-requires-clause-before g c =
    let file = c.args.verified.now in
    let slice = slice_of c.in-Some.slice.now in
    let at = sym c.in-Some.ensures.slice in
    let same = same_image file c.in-Some-image.image c.args.index slice c.in-Some.ensures.slice c.in-Some-image.ensures.image in
    let is = some_has (λ s. IsImage (slice_bytes file s)) (slice_get (slices_of file) c.args.index) slice at (c.in-Some-image.ensures.is_image.0 refl) in
    subst g.P.ImageProfile.before (sym same) (before_of g.P.ImageProfile.before file c.requires c.args.index slice at is)

pub in_file-requires : goal.in_file-requires
in_file-requires g c =
    let file = c.args.verified.now in
    let slice = slice_of c.in-Some.slice.now in
    let image = c.in-Some-image.image in
    let same : image ≡ slice_bytes file slice = same_image file image c.args.index slice c.in-Some.ensures.slice c.in-Some-image.ensures.image in
    let near = rw c.in-Err-Broken.field-0-is at c.in-Err-Broken.ensures.inside in
    let inside = file_inside file c.bytes.ensures.unbroken c.args.index slice c.in-Some.ensures.slice in
    let counted : length image ≡ slice.size = ap length same ∙ length-part slice.start slice.size file inside in
    omega (arith, c.len.ensures.fits, ap length c.bytes.ensures.bytes, near, inside, counted)

pub returns-in-Err-Broken-clause-refused : goal.returns-in-Err-Broken-clause-refused
returns-in-Err-Broken-clause-refused g c =
    let file = c.args.verified.now in
    let slice = slice_of c.in-Some.slice.now in
    let b = c.in-Err-Broken.broken in
    let at = sym c.in-Some.ensures.slice in
    let same = same_image file c.in-Some-image.image c.args.index slice c.in-Some.ensures.slice c.in-Some-image.ensures.image in
    let is = some_has (λ s. IsImage (slice_bytes file s)) (slice_get (slices_of file) c.args.index) slice at (c.in-Some-image.ensures.is_image.0 refl) in
    let broken = rw c.in-Err-Broken.field-0-is at c.in-Err-Broken.ensures.refused in (
      b,
      slice_least NoFileRule (SliceBreaks NoFileRule g.P.ProfileRules.breaks) file c.args.index slice at is b (subst (λ (bytes : List ℕ). IsLeast (g.P.ProfileRules.breaks bytes) b) same broken),
      c.in_file.ensures.rule,
      omega (arith, c.in_file.ensures.place, slice_start file c.args.index slice at),
    )

pub returns-in-Err-Memory-clause-refused : goal.returns-in-Err-Memory-clause-refused
returns-in-Err-Memory-clause-refused g c =
    let file = c.args.verified.now in
    let slice = slice_of c.in-Some.slice.now in
    let same = same_image file c.in-Some-image.image c.args.index slice c.in-Some.ensures.slice c.in-Some-image.ensures.image in
    let takes = rw c.in-Err-Memory.field-0-is at c.in-Err-Memory.ensures.refused in
    of_some (λ s. g.P.ImageProfile.takes_memory (slice_bytes file s)) (slice_get (slices_of file) c.args.index) slice (sym c.in-Some.ensures.slice) (subst g.P.ImageProfile.takes_memory same takes)
