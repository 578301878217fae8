-- Bytes that are not zero.
use Rattle.std.specs.Prelude.{◌≢◌, ℕ, ◌≤◌, ◌<◌, List, length, slice_index}

-- the place has a byte that is not zero
abbrev pub IsNonZero : List ℕ → ℕ → Type 0
IsNonZero bytes place = (place < length bytes) × (slice_index bytes place ≢ 0)

-- some place from start on and below end has one
abbrev pub HasNonZero : List ℕ → ℕ → ℕ → Type 0
HasNonZero bytes start end = (place : ℕ) × (start ≤ place) × (place < end) × IsNonZero bytes place
