use Rattle.std.proofs.Common.{◌≡◌, ◌<◌, ℕ, subst, arith}
use Rattle.macho_fields.specs.Bytes.{bytes_of}
use Rattle.macho_fields.specs.declared.header.loader.TheConstants as loader
use Rattle.macho_identity.specs.DirectoryAgree.{HasDirectory}
use Rattle.macho_signature.specs.Superblobs.{blob_count}
use Rattle.macho_explain.specs.Identities.{IsAnyDirectory}
use Rattle.macho_explain.specs.Wholes.{named_table}
use Rattle.macho_explain.proofs.Blobs.{has_size}
use Rattle.macho_explain.proofs.Directories.{hash_shown}
use Rattle.macho_explain.proofs.Wholes.{lacks, of_whole}
use Rattle.macho_explain.proofs.identity.directory_agree.Goals as goal

pub returns-in_err-signature : goal.returns-in_err-signature
returns-in_err-signature c =
    let image = bytes_of c.args.sliced.now.held.bytes in
    rw c.from_residual.ensures (lacks image (named_table image loader.LC_CODE_SIGNATURE) IsAnyDirectory c.args.sliced.now.place c.in_err-signature.ensures)

pub returns-in_err-at : goal.returns-in_err-at
returns-in_err-at c =
    let image = bytes_of c.args.sliced.now.held.bytes in
    let found = c.in_ok-signature.signature in
    let (apart, none) = c.in_err-at.ensures in
    rw c.from_residual-in_err-at.ensures (λ s.
    let (offset, at, (good, (k, less, here, any))) = of_whole image (named_table image loader.LC_CODE_SIGNATURE) found.table.span (bytes_of found.bytes) c.in_ok-signature.ensures IsAnyDirectory c.args.sliced.now.place s.1 in
    none k less (has_size (bytes_of found.bytes) good.superblob) (omega (arith, at, here)))

pub returns-in_err-own : goal.returns-in_err-own
returns-in_err-own c =
    let image = bytes_of c.args.sliced.now.held.bytes in
    let found = c.in_ok-signature.signature in
    let signature = bytes_of found.bytes in
    let there = (rw c.in-Entry.is at c.in_ok-at.ensures).1 in
    rw c.from_residual-in_err-own.ensures (λ s.
    let (offset, at, (good, (k, less, here, has))) = of_whole image (named_table image loader.LC_CODE_SIGNATURE) found.table.span signature c.in_ok-signature.ensures IsAnyDirectory c.args.sliced.now.place s.1 in
    let same : k ≡ c.in-Entry.index = omega (arith, at, here, there) in
    let own = subst (λ (n : ℕ). (n < blob_count signature) × HasDirectory signature n) same (less, has) in
    c.in_err-own.ensures.none (good, own.0, own.1))

pub returns-in_err-first : goal.returns-in_err-first
returns-in_err-first c =
    let image = bytes_of c.args.sliced.now.held.bytes in
    let found = c.in_ok-signature.signature in
    let signature = bytes_of found.bytes in
    let there = (rw c.in-Entry.is at c.in_ok-at.ensures).1 in
    rw c.from_residual-in_err-first.ensures (λ s.
    let (offset, at, (good, (k, less, here, has))) = of_whole image (named_table image loader.LC_CODE_SIGNATURE) found.table.span signature c.in_ok-signature.ensures IsAnyDirectory c.args.sliced.now.place s.1 in
    let same : k ≡ c.in-Entry.index = omega (arith, at, here, there) in
    let own = subst (λ (n : ℕ). (n < blob_count signature) × HasDirectory signature n) same (less, has) in
    c.in_err-first.ensures.none (good, own.0, own.1))

pub returns : goal.returns
returns c =
    let found = c.in_ok-signature.signature in
    let signature = bytes_of found.bytes in
    let index = c.in-Entry.index in
    let own = c.in_ok-own.own in
    let first = c.in_ok-first.first in
    let (spot, there) = rw c.in-Entry.is at c.in_ok-at.ensures in
    rw (c.shows.ensures, c.of.ensures) (
      spot,
      (
        found.table.span,
        signature,
        c.in_ok-signature.ensures,
        (
          index,
          there,
          (
            hash_shown signature index own.fields c.from.result c.in_ok-own.ensures.some.1 c.from.ensures,
            (first.index, c.in_ok-first.ensures.some.0, hash_shown signature first.index first.fields c.from-2.result c.in_ok-first.ensures.some.1 c.from-2.ensures, c.part-other.ensures),
          ),
        ),
      ),
    )
