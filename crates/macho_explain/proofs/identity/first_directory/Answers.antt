use Rattle.std.proofs.Common.{arith, below_more}
use Rattle.macho_fields.specs.Bytes.{bytes_of}
use Rattle.macho_identity.specs.DirectoryAgree.{HasDirectory}
use Rattle.macho_explain.proofs.Directories.{first_found, read_there}
use Rattle.macho_explain.proofs.identity.first_directory.Goals as goal

pub returns-in_err-blob-clause-none : goal.returns-in_err-blob-clause-none
returns-in_err-blob-clause-none c =
    rw c.from_residual.ensures (λ (good, less, has). c.in_err-blob.ensures.none (
      good.superblob,
      omega (arith, c.loop-earlier-test.true, less),
      λ j below. good.blobs j (omega (arith, below, c.loop-earlier-test.true, less)),
    ))

pub returns-in-Some-clause-some : goal.returns-in-Some-clause-some
returns-in-Some-clause-some c =
    let signature = bytes_of c.args.signature.now.bytes in
    let earlier = c.loop-earlier.earlier in
    let reads = c.in-Some.ensures.some earlier c.in_ok-blob.ensures.blob in
    ((read_there signature earlier c.in-Some.fields reads, c.loop-earlier.invariant), reads)

pub loop-earlier-preserved : goal.loop-earlier-preserved
loop-earlier-preserved c =
    below_more (λ j. ¬ HasDirectory (bytes_of c.args.signature.now.bytes) j) c.loop-earlier.earlier c.loop-earlier.invariant
    (c.in_default.ensures.none c.loop-earlier.earlier c.in_ok-blob.ensures.blob)

pub returns-clause-some : goal.returns-clause-some
returns-clause-some c =
    first_found (bytes_of c.args.signature.now.bytes) c.args.index c.placed_directory.result c.placed_directory.ensures.some
    (λ j less. c.loop-earlier.invariant j (omega (arith, less, c.loop-earlier-test.false)))
