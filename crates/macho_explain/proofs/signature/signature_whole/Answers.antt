use Rattle.std.proofs.Common.{◌≡◌, ◌<◌, ℕ, subst, arith}
use Rattle.macho_fields.specs.Bytes.{bytes_of}
use Rattle.macho_fields.specs.declared.header.loader.TheConstants as loader
use Rattle.macho_signature.specs.Superblobs.{blob_count}
use Rattle.macho_explain.specs.Blobs.{IsLimitAt, IsOtherLimit}
use Rattle.macho_explain.specs.Wholes.{named_table}
use Rattle.macho_explain.proofs.Blobs.{has_size}
use Rattle.macho_explain.proofs.Wholes.{lacks, of_whole}
use Rattle.macho_explain.proofs.signature.signature_whole.Goals as goal

pub returns-in_err-signature : goal.returns-in_err-signature
returns-in_err-signature c =
    let image = bytes_of c.args.sliced.now.held.bytes in
    rw c.from_residual.ensures (lacks image (named_table image loader.LC_CODE_SIGNATURE) IsLimitAt c.args.sliced.now.place c.in_err-signature.ensures)

pub returns-in_err-place_in : goal.returns-in_err-place_in
returns-in_err-place_in c =
    let image = bytes_of c.args.sliced.now.held.bytes in
    let found = c.in_ok-signature.signature in
    let (apart, none) = c.in_err-place_in.ensures in
    rw c.from_residual-in_err-place_in.ensures (λ s.
    let (offset, at, (good, (k, less, here, other))) = of_whole image (named_table image loader.LC_CODE_SIGNATURE) found.table.span (bytes_of found.bytes) c.in_ok-signature.ensures IsLimitAt c.args.sliced.now.place s.1 in
    none k less (has_size (bytes_of found.bytes) good.superblob) (omega (arith, at, here)))

pub returns-in_err-other_limit-in-Entry : goal.returns-in_err-other_limit-in-Entry
returns-in_err-other_limit-in-Entry c =
    let image = bytes_of c.args.sliced.now.held.bytes in
    let found = c.in_ok-signature.signature in
    let start = found.table.span.start in
    let signature = bytes_of found.bytes in
    let there = (rw c.in-Entry.is at c.in_ok-place_in.ensures).1 in
    rw c.from_residual-in_err-other_limit-in-Entry.ensures (λ s.
    let (offset, at, (good, (k, less, here, other))) = of_whole image (named_table image loader.LC_CODE_SIGNATURE) found.table.span signature c.in_ok-signature.ensures IsLimitAt c.args.sliced.now.place s.1 in
    let same : k ≡ c.in-Entry.index = omega (arith, at, here, there) in
    let here_other = subst (λ (n : ℕ). (n < blob_count signature) × IsOtherLimit start signature n) same (less, other) in
    c.in_err-other_limit-in-Entry.ensures (good, here_other.0, here_other.1))
