-- The hash value of a message of whole blocks, block by block.
use Rattle.std.proofs.Common.{◌≡◌, ℕ, ◌+◌, ◌-◌, ◌*◌, ◌/◌, ◌%◌, ◌^◌, ◌<◌, ◌≤◌, List, ◌∷◌, ◌++◌, length, take, drop, replicate, refl, sym, ap, ◌∙◌, arith, length-append, length-drop}
use Rattle.std.proofs.lemmas.List.{drop-take, take-take, take_all, drop_all, drop-append-le, length-take-le, drop-drop}
use Rattle.std.specs.Int.{w64, to_be_bytes}
use Rattle.sha2.specs.Sha256.{compress, final_hash, hash_after, padding, padded_message}
use Rattle.sha2.proofs.Absorbing256.{hash_after-append, hash_after_next}
use Rattle.macho_lanes.proofs.LaneWise.{below_four}

-- a block of a part of the bytes, from the bytes
pub block_of_part : (bytes : List ℕ) (start size n : ℕ) → n * 64 + 64 ≤ size
    → take 64 (drop (n * 64) (take size (drop start bytes))) ≡ take 64 (drop (64 * n + start) bytes)
block_of_part bytes start size n inside =
    let left : ℕ = size - n * 64 in
    let cut : size ≡ n * 64 + left = omega arith in
    ap (λ (k : ℕ). take 64 (drop (n * 64) (take k (drop start bytes)))) cut
    ∙ ap (take 64) (drop-take (n * 64) left (drop start bytes))
    ∙ take-take 64 left (drop (n * 64) (drop start bytes)) (omega arith)
    ∙ ap (take 64) (drop-drop (n * 64) start bytes ∙ ap (λ (k : ℕ). drop k bytes) (omega arith))

pub length-padding : (n : ℕ) → n % 64 ≡ 0 → length (padding n) ≡ 64
length-padding n whole =
    let zeros : (119 - n % 64) % 64 ≡ 55 = omega arith in
    ap (λ (k : ℕ). length (0x80 ∷ replicate k 0 ++ to_be_bytes w64 (n * 8 % 2 ^ 64))) zeros

-- the last block is the padding
pub final_hash_whole : (ini message : List ℕ) → length message % 64 ≡ 0
    → compress (hash_after ini message (length message / 64)) (padding (length message)) ≡ final_hash ini message
final_hash_whole ini message whole =
    let n : ℕ = length message / 64 in
    let pad = padding (length message) in
    let size : length pad ≡ 64 = length-padding (length message) whole in
    let count : length (padded_message message) / 64 ≡ n + 1 = omega (arith, length-append message pad, size) in
    let last : take 64 (drop (n * 64) (message ++ pad)) ≡ pad =
    ap (take 64) (drop-append-le (n * 64) message pad (omega arith) ∙ ap (λ (rest : List ℕ). rest ++ pad) (drop_all (n * 64) message (omega arith)))
    ∙ take_all 64 pad (omega arith) in
    sym (ap (hash_after ini (padded_message message)) count ∙ hash_after_next ini (padded_message message) n
    ∙ rw (hash_after-append ini message pad n (omega arith), last) refl)

-- four parts of one size
pub length-part : (bytes : List ℕ) (size j : ℕ) → length bytes ≡ 4 * size → j < 4 → length (take size (drop (j * size) bytes)) ≡ size
length-part bytes size j whole lt =
    below_four (λ j. length (take size (drop (j * size) bytes)) ≡ size)
    (length-take-le size (drop (0 * size) bytes) (omega (arith, length-drop (0 * size) bytes)))
    (length-take-le size (drop (1 * size) bytes) (omega (arith, length-drop (1 * size) bytes)))
    (length-take-le size (drop (2 * size) bytes) (omega (arith, length-drop (2 * size) bytes)))
    (length-take-le size (drop (3 * size) bytes) (omega (arith, length-drop (3 * size) bytes)))
    j lt

-- the block that each message ends with
pub same_block : (block : List ℕ) (j : ℕ) → length block ≡ 64 → take 64 (drop (0 + j * 0) block) ≡ block
same_block block j size =
    let start : 0 + j * 0 ≡ 0 = omega arith in
    rw start (take_all 64 block (omega (arith, size)))
