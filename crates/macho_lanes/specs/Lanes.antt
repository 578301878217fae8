-- Four messages side by side: each word is a vector, with one lane for each message.
use Rattle.std.specs.Prelude.{◌≡◌, ℕ, ◌*◌, ◌<◌, List, length, map, slice_index}
use Rattle.sha2.specs.Sha256.{word_at}

-- the words of message j
abbrev pub lane : ℕ → List (List ℕ) → List ℕ
lane j words = map (λ vector. slice_index vector j) words

-- these words are the words of a block
abbrev pub HasWords : List ℕ → List ℕ → Type 0
HasWords words block = (length words ≡ 16) × ((k : ℕ) → k < 16 → slice_index words k ≡ word_at block (4 * k))
