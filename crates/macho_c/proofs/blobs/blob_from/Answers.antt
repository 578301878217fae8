use Rattle.std.proofs.Common.{◌≡◌, ◌<◌, ◌∙◌, ap, subst}
use Rattle.std.specs.Prelude.{max, MatchOption}
use Rattle.macho_fields.specs.Bytes.{bytes_of}
use Rattle.macho_signature.specs.Superblobs.{blob_at, IsMisplacedBlob}
use Rattle.macho_c.proofs.PlacedBlobs.{first_placed}
use Rattle.macho_c.proofs.blobs.blob_from.Goals as goal

pub returns : goal.returns
returns c =
    let signature = bytes_of c.args.signature in
    let superblob = c.in_ok-superblob.superblob in
    let low = c.max.ensures ∙ ap (max c.args.least) c.index_end.ensures in
    let less : c.args.index < superblob.count = subst (λ n. c.args.index < n) c.from.ensures c.if-index-from.false in
    first_placed signature c.args.index c.args.least superblob c.blob.result c.in_ok-superblob.ensures.1 c.in_ok-superblob.ensures.0 less
    (subst (λ least. MatchOption c.blob.result (IsMisplacedBlob superblob least (blob_at signature c.args.index)) (λ blob. (¬ IsMisplacedBlob superblob least blob) × (blob ≡ blob_at signature c.args.index))) low c.blob.ensures)
