-- The words of one of the four messages.
use Rattle.std.proofs.Common.{◌≡◌, ℕ, zero, suc, ◌+◌, ◌*◌, ◌%◌, ◌<◌, List, [], ◌∷◌, length, take, drop, slice_index, slice_set, get_or, refl, ap, ◌∙◌, arith}
use Rattle.std.proofs.lemmas.Simd.{get_or-chunk}
use Rattle.sha2.specs.Sha256.{add32, add_state, big_sigma0, big_sigma1, ch, maj, round, small_sigma0, small_sigma1, window_word, word_at}
use Rattle.macho_lanes.specs.Lanes.{lane}

-- word k of message j
abbrev pub lane_at : List (List ℕ) → ℕ → ℕ → ℕ
lane_at words j k = slice_index (get_or words k []) j

pub slice_index-lane : (words : List (List ℕ)) (j k : ℕ) → slice_index (lane j words) k ≡ lane_at words j k
slice_index-lane [] j k = refl
slice_index-lane (x ∷ words) j zero = refl
slice_index-lane (x ∷ words) j (suc k) = slice_index-lane words j k

pub length-lane : (words : List (List ℕ)) (j : ℕ) → length (lane j words) ≡ length words
length-lane [] j = refl
length-lane (x ∷ words) j = ap suc (length-lane words j)

pub lane-slice_set : (words : List (List ℕ)) (j k : ℕ) (x : List ℕ) → lane j (slice_set words k x) ≡ slice_set (lane j words) k (slice_index x j)
lane-slice_set [] j k x = refl
lane-slice_set (y ∷ words) j zero x = refl
lane-slice_set (y ∷ words) j (suc k) x = ap (λ (rest : List ℕ). slice_index y j ∷ rest) (lane-slice_set words j k x)

-- the next word of the schedule
pub window_lane : (w : List (List ℕ)) (j place : ℕ) → place < 16
    → add32 (add32 (add32 (small_sigma1 (lane_at w j ((place + 14) % 16))) (lane_at w j ((place + 9) % 16)))
    (small_sigma0 (lane_at w j ((place + 1) % 16)))) (lane_at w j place)
    ≡ window_word (lane j w) place
window_lane w j place below =
    let at : place % 16 ≡ place = omega arith in
    rw (
      ← slice_index-lane w j ((place + 14) % 16),
      ← slice_index-lane w j ((place + 9) % 16),
      ← slice_index-lane w j ((place + 1) % 16),
      ← slice_index-lane w j place,
      at,
    ) refl

-- a round
pub round_lane : (v : List (List ℕ)) (j k word temp1 temp2 first fifth : ℕ)
    → temp1 ≡ add32 (add32 (add32 (add32 (lane_at v j 7) (big_sigma1 (lane_at v j 4))) (ch (lane_at v j 4) (lane_at v j 5) (lane_at v j 6))) k) word
    → temp2 ≡ add32 (big_sigma0 (lane_at v j 0)) (maj (lane_at v j 0) (lane_at v j 1) (lane_at v j 2))
    → first ≡ add32 temp1 temp2 → fifth ≡ add32 (lane_at v j 3) temp1
    → first ∷ lane_at v j 0 ∷ lane_at v j 1 ∷ lane_at v j 2 ∷ fifth ∷ lane_at v j 4 ∷ lane_at v j 5 ∷ lane_at v j 6 ∷ []
    ≡ round (lane j v) k word
round_lane v j k word temp1 temp2 first fifth e1 e2 ef e5 =
    rw (
      slice_index-lane v j 0,
      slice_index-lane v j 1,
      slice_index-lane v j 2,
      slice_index-lane v j 3,
      slice_index-lane v j 4,
      slice_index-lane v j 5,
      slice_index-lane v j 6,
      slice_index-lane v j 7,
      ef,
      e5,
      e1,
      e2,
    ) refl

-- what the rounds add to the hash value
pub add_state_lane : (h v : List (List ℕ)) (j a b c d e f g i : ℕ)
    → a ≡ add32 (lane_at h j 0) (lane_at v j 0) → b ≡ add32 (lane_at h j 1) (lane_at v j 1)
    → c ≡ add32 (lane_at h j 2) (lane_at v j 2) → d ≡ add32 (lane_at h j 3) (lane_at v j 3)
    → e ≡ add32 (lane_at h j 4) (lane_at v j 4) → f ≡ add32 (lane_at h j 5) (lane_at v j 5)
    → g ≡ add32 (lane_at h j 6) (lane_at v j 6) → i ≡ add32 (lane_at h j 7) (lane_at v j 7)
    → a ∷ b ∷ c ∷ d ∷ e ∷ f ∷ g ∷ i ∷ [] ≡ add_state (lane j h) (lane j v)
add_state_lane h v j a b c d e f g i ea eb ec ed ee ef eg ei =
    rw (
      slice_index-lane h j 0,
      slice_index-lane h j 1,
      slice_index-lane h j 2,
      slice_index-lane h j 3,
      slice_index-lane h j 4,
      slice_index-lane h j 5,
      slice_index-lane h j 6,
      slice_index-lane h j 7,
      slice_index-lane v j 0,
      slice_index-lane v j 1,
      slice_index-lane v j 2,
      slice_index-lane v j 3,
      slice_index-lane v j 4,
      slice_index-lane v j 5,
      slice_index-lane v j 6,
      slice_index-lane v j 7,
      ea,
      eb,
      ec,
      ed,
      ee,
      ef,
      eg,
      ei,
    ) refl

-- a word of a block is the word of the bytes that the block is cut from
pub word_at-block : (bytes : List ℕ) (start k : ℕ) → k < 16 → word_at (take 64 (drop start bytes)) (4 * k) ≡ word_at bytes (start + 4 * k)
word_at-block bytes start k below =
    let e0 : slice_index (take 64 (drop start bytes)) (4 * k) ≡ slice_index bytes (start + 4 * k) = get_or-chunk start 64 bytes (4 * k) 0 (omega arith) in
    let e1 : slice_index (take 64 (drop start bytes)) (4 * k + 1) ≡ slice_index bytes (start + 4 * k + 1) =
    get_or-chunk start 64 bytes (4 * k + 1) 0 (omega arith) ∙ ap (slice_index bytes) (omega arith) in
    let e2 : slice_index (take 64 (drop start bytes)) (4 * k + 2) ≡ slice_index bytes (start + 4 * k + 2) =
    get_or-chunk start 64 bytes (4 * k + 2) 0 (omega arith) ∙ ap (slice_index bytes) (omega arith) in
    let e3 : slice_index (take 64 (drop start bytes)) (4 * k + 3) ≡ slice_index bytes (start + 4 * k + 3) =
    get_or-chunk start 64 bytes (4 * k + 3) 0 (omega arith) ∙ ap (slice_index bytes) (omega arith) in
    rw (e0, e1, e2, e3) refl
