use Rattle.std.proofs.Common.{◌≡◌, ◌+◌, refl, sym, ap, ◌∙◌, subst, arith}
use Rattle.macho_fields.specs.Bytes.{bytes_of}
use Rattle.macho_fields.specs.FirstPlace.{IsLeastPlace}
use Rattle.macho_seals.proofs.Blobs.{begins_past, counted, counted_all, end_inside}
use Rattle.macho_seals.proofs.Slacks.{NoneBefore, none_in_index, gap_slack, none_past_blob, last_slack}
use Rattle.macho_signature.specs.Superblobs.{blob_at, blob_count, blob_end, entry_offset, least_offset}
use Rattle.macho_signature.specs.declared.superblob.Blob.{Blob}
use Rattle.macho_signature.specs.declared.superblob.Superblob.{Superblob}
use Rattle.macho_signature.proofs.Surveys.{least_next}
use Rattle.macho_strict.specs.Slack.{IsNonZeroWithin}
use Rattle.macho_seals.proofs.slack.first_slack.Goals as goal

pub loop-index-init : goal.loop-index-init
loop-index-init c =
    let image = bytes_of c.args.image in
    let signature = bytes_of c.args.signature in
    let index = c.index_end.ensures ∙ ap (λ (s : Superblob). entry_offset s.count) c.superblob_of-superblob.ensures in
    let end : c.args.start + c.index_end.result ≡ c.args.start + least_offset signature 0 = ap (λ n. c.args.start + n) index in
    record { end = end; none = subst (NoneBefore image c.args.start signature) (sym end) (none_in_index image c.args.start signature) }

pub nonzero_within-slack-requires : goal.nonzero_within-slack-requires
nonzero_within-slack-requires c =
    let signature = bytes_of c.args.signature in
    let k = c.loop-index.index in
    let begin = begins_past signature c.requires.blobs k k (omega arith) (counted signature _ c.superblob_of-superblob.ensures k c.loop-index-test.true) in
    let offset = ap (λ (b : Blob). b.offset) c.blob_at-blob.ensures.blob in
    omega (arith, c.loop-index.invariant.end, begin, offset, c.from.ensures)

pub returns-then-is_some : goal.returns-then-is_some
returns-then-is_some c =
    let signature = bytes_of c.args.signature in
    let k = c.loop-index.index in
    gap_slack (bytes_of c.args.image) c.args.start signature c.requires.blobs k (counted signature _ c.superblob_of-superblob.ensures k c.loop-index-test.true)
    c.loop-index.end _ _ _ c.loop-index.invariant.end c.loop-index.invariant.none c.blob_at-blob.ensures.blob c.from.ensures c.nonzero_within-slack.ensures (sym c.if-is_some.ensures)

pub loop-index-preserved : goal.loop-index-preserved
loop-index-preserved c =
    let image = bytes_of c.args.image in
    let start = c.args.start in
    let signature = bytes_of c.args.signature in
    let k = c.loop-index.index in
    let end : start + c.end.result ≡ start + blob_end (blob_at signature k) = ap (λ n. start + n) (c.end.ensures ∙ ap blob_end c.blob_at-blob.ensures.blob) in
    record {
      end = end ∙ ap (λ n. start + n) (sym (least_next signature k));
      none = subst (NoneBefore image start signature) (sym end)
          (none_past_blob image start signature c.requires.blobs k (counted signature _ c.superblob_of-superblob.ensures k c.loop-index-test.true)
          c.loop-index.end _ _ _ c.loop-index.invariant.end c.loop-index.invariant.none c.blob_at-blob.ensures.blob c.from.ensures c.nonzero_within-slack.ensures (sym c.if-is_some.ensures));
    }

pub nonzero_within-requires : goal.nonzero_within-requires
nonzero_within-requires c =
    let signature = bytes_of c.args.signature in
    let count = counted_all signature _ c.superblob_of-superblob.ensures c.loop-index.index c.loop-index.auto.index-end c.loop-index-test.false in
    let inside = end_inside signature c.requires.blobs c.loop-index.index (omega (arith, count)) in
    omega (arith, c.loop-index.invariant.end, inside, c.requires.inside, c.len-2.ensures.count)

pub returns : goal.returns
returns c =
    let image = bytes_of c.args.image in
    let start = c.args.start in
    let signature = bytes_of c.args.signature in
    let count = counted_all signature _ c.superblob_of-superblob.ensures c.loop-index.index c.loop-index.auto.index-end c.loop-index-test.false in
    let end : c.loop-index.end ≡ start + least_offset signature (blob_count signature) = c.loop-index.invariant.end ∙ ap (λ n. start + least_offset signature n) count in
    let none = subst (NoneBefore image start signature) end c.loop-index.invariant.none in
    let from = subst (λ n. IsLeastPlace (IsNonZeroWithin image n c.len-2.result) c.nonzero_within.result) end c.nonzero_within.ensures in
    last_slack image start signature c.requires.blobs none c.nonzero_within.result
    (subst (λ n. IsLeastPlace (IsNonZeroWithin image (start + least_offset signature (blob_count signature)) n) c.nonzero_within.result) c.len-2.ensures.count from)
