use Rattle.std.proofs.Common.{◌≡◌, ◌≢◌, ℕ, ◌+◌, ◌*◌, ◌≤◌, ◌<◌, length, sym, subst}
use Rattle.macho_fields.specs.Bytes.{bytes_of}
use Rattle.macho_signature.specs.Superblobs.{blob_count, entry_offset}
use Rattle.macho_explain.proofs.Found.{found_as}
use Rattle.macho_explain.proofs.signature.index_at.Goals as goal

pub returns : goal.returns
returns c =
    let signature = bytes_of c.args.signature in
    let offset = c.args.offset in
    let count = c.in_ok-count.count in
    found_as ((k : ℕ) → k < count → offset ≢ 12 + k * 8) ((k : ℕ) → k < blob_count signature → 12 ≤ length signature → offset ≢ entry_offset k)
    (λ k. (k < count) × (offset ≡ 12 + k * 8)) (λ k. offset ≡ entry_offset k) c.short_item_at.result
    (λ none k less long at. none k (subst (λ (n : ℕ). k < n) (sym c.in_ok-count.ensures) less) at) (λ k is. is.1) c.short_item_at.ensures
