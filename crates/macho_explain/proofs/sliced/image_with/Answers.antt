use Rattle.std.proofs.Common.{◌≡◌, ◌+◌, ◌≤◌, ℕ, List, arith, subst}
use Rattle.std.specs.Prelude.{slice_get, Some}
use Rattle.macho_fields.specs.Universal.{slices_of}
use Rattle.macho_fat.specs.Slices.{slice_of}
use Rattle.macho_explain.specs.FirstSlices.{HasImageWith, HasSlices, IsFirstWith}
use Rattle.macho_explain.proofs.FirstImages.{byte_near, one_byte}
use Rattle.macho_explain.proofs.sliced.image_with.Goals as goal

pub returns-in_err-index : goal.returns-in_err-index
returns-in_err-index c =
    let place = c.args.place in
    let byte = c.in_ok-byte_of.field-0 in
    let None : List ℕ → Type 0 = λ file. HasSlices file → (k : ℕ) → ¬ HasImageWith file byte k in
    let none = subst None c.new-bytes.ensures c.in_err-index.ensures.first in
    rw c.from_residual-in_err-index.ensures (λ kept other k also.
    subst (λ b. ¬ HasImageWith c.args.file.now b k) (one_byte c.args.rule place byte other c.in_ok-byte_of.ensures also) (none kept k))

pub returns : goal.returns
returns c =
    let file = c.args.file.now in
    let byte = c.in_ok-byte_of.field-0 in
    let is = c.in_ok-byte_of.ensures in
    let near = byte_near c.args.rule c.args.place byte is in
    let slice = slice_of c.in_ok-index.slice in
    let p = c.in_ok-at.at in
    let listed = subst (λ file. slice_get (slices_of file) c.in_ok-index.index ≡ Some slice) c.new-bytes.ensures c.in_ok-index.ensures.listed in
    let at : c.args.place ≡ c.in_ok-index.slice.span.start + p = grind arith in
    let within : p ≤ c.in_ok-index.slice.span.len = omega (arith, at, near, c.in_ok-index.ensures.holds.1) in
    let first = subst (λ (f : List ℕ). IsFirstWith f byte c.in_ok-index.index) c.new-bytes.ensures c.in_ok-index.ensures.first in (
      rw listed (c.held_at.ensures.bytes, at, within),
      λ other also. subst (λ (b : ℕ). IsFirstWith file b c.in_ok-index.index) (one_byte c.args.rule c.args.place byte other is also) first,
    )
