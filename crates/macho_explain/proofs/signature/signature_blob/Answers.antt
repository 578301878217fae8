use Rattle.std.proofs.Common.{◌≡◌, ◌<◌, ℕ, inl, inr, subst, arith}
use Rattle.macho_fields.specs.Bytes.{bytes_of}
use Rattle.macho_fields.specs.declared.header.loader.TheConstants as loader
use Rattle.macho_signature.specs.Superblobs.{blob_count}
use Rattle.macho_explain.specs.Blobs.{IsBlobAt, IsFirstBad}
use Rattle.macho_explain.specs.Wholes.{named_table}
use Rattle.macho_explain.proofs.Blobs.{has_size}
use Rattle.macho_explain.proofs.Wholes.{lacks, of_whole}
use Rattle.macho_explain.proofs.signature.signature_blob.Goals as goal

pub returns-in_ok-numbers-in-Start : goal.returns-in_ok-numbers-in-Start
returns-in_ok-numbers-in-Start c =
    let found = c.in_ok-signature.signature in
    let at = rw c.in-Start.is at c.in_ok-within.ensures in
    rw (c.shows.ensures, c.of.ensures) (at.0, (found.table.span, bytes_of found.bytes, c.in_ok-signature.ensures, inl (at.1, c.in_ok-numbers-in-Start.ensures)))

pub returns-in_err-signature : goal.returns-in_err-signature
returns-in_err-signature c =
    let image = bytes_of c.args.sliced.now.held.bytes in
    rw c.from_residual.ensures (lacks image (named_table image loader.LC_CODE_SIGNATURE) IsBlobAt c.args.sliced.now.place c.in_err-signature.ensures)

pub returns-in_err-within : goal.returns-in_err-within
returns-in_err-within c =
    let image = bytes_of c.args.sliced.now.held.bytes in
    let found = c.in_ok-signature.signature in
    let (apart, none) = c.in_err-within.ensures in
    rw c.from_residual-in_err-within.ensures (λ s.
    let (offset, at, has) = of_whole image (named_table image loader.LC_CODE_SIGNATURE) found.table.span (bytes_of found.bytes) c.in_ok-signature.ensures IsBlobAt c.args.sliced.now.place s.1 in
    elim has [
      | inl first ↦ (let zero = first.0 in apart (omega (arith, at, zero)))
      | inr entry ↦ (let (k, less, here, bad) = entry.1 in none k less (has_size (bytes_of found.bytes) entry.0) (omega (arith, at, here)))
    ])

pub returns-in_err-misplaced_blob-in-Entry : goal.returns-in_err-misplaced_blob-in-Entry
returns-in_err-misplaced_blob-in-Entry c =
    let image = bytes_of c.args.sliced.now.held.bytes in
    let found = c.in_ok-signature.signature in
    let signature = bytes_of found.bytes in
    let index = c.in-Entry.index in
    let there = (rw c.in-Entry.is at c.in_ok-within.ensures).1 in
    rw c.from_residual-in_err-misplaced_blob-in-Entry.ensures (λ s.
    let (offset, at, has) = of_whole image (named_table image loader.LC_CODE_SIGNATURE) found.table.span signature c.in_ok-signature.ensures IsBlobAt c.args.sliced.now.place s.1 in
    elim has [
      | inl first ↦ (let zero = first.0 in omega (arith, at, zero, there))
      | inr entry ↦ (
          let (k, less, here, bad) = entry.1 in
          let same : k ≡ index = omega (arith, at, here, there) in
          let here_bad = subst (λ (n : ℕ). (n < blob_count signature) × IsFirstBad signature n) same (less, bad) in
          c.in_err-misplaced_blob-in-Entry.ensures (entry.0, here_bad.0, here_bad.1)
          )
    ])
