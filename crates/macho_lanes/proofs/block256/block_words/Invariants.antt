use Rattle.std.proofs.Common.{◌≡◌, ℕ, ◌+◌, ◌*◌, ◌<◌, length, slice_index}
use Rattle.sha2.specs.Sha256.{word_at}
use Rattle.macho_lanes.specs.Lanes.{lane}
use Rattle.macho_lanes.proofs.block256.block_words.Given as goal

abbrev pub invariant-words : goal.invariant-words
invariant-words l = (length l.words ≡ 16) × ((j k : ℕ) → j < 4 → k < l.i
    → slice_index (lane j l.words) k ≡ word_at l.bytes (l.at + j * l.stride + 4 * k))
