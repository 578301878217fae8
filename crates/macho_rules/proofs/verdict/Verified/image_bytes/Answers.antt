use Rattle.std.proofs.Common.{◌≡◌, ◌+◌, ◌≤◌, length, List, ℕ, None, IsSomeAnd, refl, sym, ap, ◌∙◌, subst}
use Rattle.macho_fields.specs.Bytes.{bytes_of}
use Rattle.macho_fields.specs.Layers.{NothingBreaks}
use Rattle.macho_fields.specs.Rules.{BreaksImage}
use Rattle.macho_fields.specs.Universal.{slice_bytes, IsImage}
use Rattle.macho_fat.specs.Slices.{slice_of}
use Rattle.macho_rules.proofs.Verdicts.{file_inside, file_keeps}
use Rattle.macho_rules.proofs.verdict.Verified.image_bytes.Goals as goal

pub slice-bytes-requires : goal.slice-bytes-requires
slice-bytes-requires c =
    subst (λ (bytes : List ℕ). (slice_of c.in_ok-slice.slice.now).start + (slice_of c.in_ok-slice.slice.now).size ≤ length bytes) (sym c.bytes.ensures.bytes)
    (file_inside c.args.self.now c.bytes.ensures.unbroken c.args.index (slice_of c.in_ok-slice.slice.now) c.in_ok-slice.ensures.slice)

pub returns-clause-is_image : goal.returns-clause-is_image
returns-clause-is_image c =
    let image : IsImage (slice_bytes c.args.self.now (slice_of c.in_ok-slice.slice.now)) = c.in_ok-slice.ensures.read.0 c.if-not-slice.false in
    (λ some. subst (λ o. IsSomeAnd o (λ s. IsImage (slice_bytes c.args.self.now s))) c.in_ok-slice.ensures.slice image, λ given. refl)

pub returns-clause-bytes : goal.returns-clause-bytes
returns-clause-bytes c =
    let slice = slice_of c.in_ok-slice.slice.now in
    let same : bytes_of c.slice-bytes.result ≡ slice_bytes c.args.self.now slice = c.slice-bytes.ensures ∙ ap (λ (bytes : List ℕ). slice_bytes bytes slice) c.bytes.ensures.bytes in
    subst (λ o. IsSomeAnd o (λ s. bytes_of c.slice-bytes.result ≡ slice_bytes c.args.self.now s)) c.in_ok-slice.ensures.slice same

pub returns-clause-unbroken : goal.returns-clause-unbroken
returns-clause-unbroken c =
    let slice = slice_of c.in_ok-slice.slice.now in
    let image : IsImage (slice_bytes c.args.self.now slice) = c.in_ok-slice.ensures.read.0 c.if-not-slice.false in
    let same : bytes_of c.slice-bytes.result ≡ slice_bytes c.args.self.now slice = c.slice-bytes.ensures ∙ ap (λ (bytes : List ℕ). slice_bytes bytes slice) c.bytes.ensures.bytes in
    subst (λ (bytes : List ℕ). NothingBreaks (BreaksImage bytes None)) (sym same)
    (file_keeps c.args.self.now c.bytes.ensures.unbroken c.args.index slice c.in_ok-slice.ensures.slice image)

pub returns-clause-span : goal.returns-clause-span
returns-clause-span c = c.slice-bytes.ensures ∙ ap (λ (bytes : List ℕ). slice_bytes bytes (slice_of c.in_ok-slice.slice.now)) c.bytes.ensures.bytes
