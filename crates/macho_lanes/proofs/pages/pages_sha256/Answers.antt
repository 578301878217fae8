use Rattle.std.proofs.Common.{◌≡◌, ℕ, ◌+◌, ◌*◌, ◌/◌, ◌%◌, ◌<◌, length, take, drop, sym, ap, ap₂, ◌∙◌, arith}
use Rattle.sha2.specs.Sha256.{compress, digest_bytes, hash_after, initial_hash_256, padding, sha256}
use Rattle.sha2.proofs.Absorbing256.{hash_after_next}
use Rattle.macho_lanes.specs.Lanes.{lane}
use Rattle.macho_lanes.proofs.LaneWise.{below_four}
use Rattle.macho_lanes.proofs.Messages.{block_of_part, final_hash_whole, length-padding, length-part, same_block}
use Rattle.macho_lanes.proofs.pages.pages_sha256.Goals as goal

pub whole-init : goal.whole-init
unfolding hash_after
whole-init c = c.initial-state.ensures

pub whole-preserved : goal.whole-preserved
whole-preserved c j lt =
    let pages = c.args.pages.now in
    let size = length pages / 4 in
    let message = take size (drop (j * size) pages) in
    let n = c.whole.index in
    c.compress.ensures j _ lt (c.block_words.ensures j lt)
    ∙ ap₂ compress (c.whole.invariant j lt) (sym (block_of_part pages (j * size) size n (omega arith)))
    ∙ sym (hash_after_next initial_hash_256 message n)

pub returns : goal.returns
unfolding sha256
returns c =
    let pages = c.args.pages.now in
    let size = length pages / 4 in
    let whole : size % 64 ≡ 0 = omega arith in
    let each : (j : ℕ) → j < 4 → digest_bytes (lane j c.compress-2.new.state) 8 ≡ sha256 (take size (drop (j * size) pages)) =
    λ j lt.
    let message = take size (drop (j * size) pages) in
    let len : length message ≡ size = length-part pages size j (omega arith) lt in
    let count : c.whole.index ≡ length message / 64 = omega arith in
    let block : take 64 (drop (0 + j * 0) c.padding.result) ≡ padding (length message) =
    same_block c.padding.result j (ap length c.padding.ensures ∙ length-padding size whole) ∙ c.padding.ensures ∙ ap padding (sym len) in
    ap (λ h. digest_bytes h 8)
    (c.compress-2.ensures j _ lt (c.block_words-2.ensures j lt)
    ∙ ap₂ compress (c.whole.invariant j lt ∙ ap (hash_after initial_hash_256 message) count) block
    ∙ final_hash_whole initial_hash_256 message (omega arith)) in
    below_four _ (c.digest.ensures ∙ each 0 (omega arith)) (c.digest-2.ensures ∙ each 1 (omega arith)) (c.digest-3.ensures ∙ each 2 (omega arith)) (c.digest-4.ensures ∙ each 3 (omega arith))
