-- The room that is left in the array of a line, which has 1024 places.
use Rattle.std.proofs.Common.{◌≡◌, ℕ, ◌+◌, ◌<◌, ◌≤◌, List, ◌++◌, length, arith, ap}
use Rattle.std.proofs.lemmas.List.{length-append}

-- there is room for a part
pub fits : (n part left : ℕ) → n + left ≤ 1024 → part ≤ left → n + part ≤ 1024
fits n part left room within = omega arith

-- there is room for a word, and for two numbers
pub extent_fits : (n word left : ℕ) → n + left ≤ 1024 → word + 48 ≤ left → n + word + 48 ≤ 1024
extent_fits n word left room within = omega arith

-- there is room for the line feed
pub end_fits : (n left : ℕ) → n + left ≤ 1024 → 1 ≤ left → n < 1024
end_fits n left room within = omega arith

-- the room that a part leaves
pub room_after : (n part m left rest : ℕ) → n + left ≤ 1024 → m ≤ n + part → part + rest ≤ left → m + rest ≤ 1024
room_after n part m left rest room grown within = omega arith

pub room_after_text : (before text after : List ℕ) (left rest : ℕ) → length before + left ≤ 1024 → after ≡ before ++ text → length text + rest ≤ left → length after + rest ≤ 1024
room_after_text before text after left rest room is within = omega (arith, simp length-append at (ap length is))

pub room_after_extent : (n word m left rest : ℕ) → n + left ≤ 1024 → m ≤ n + word + 48 → word + 48 + rest ≤ left → m + rest ≤ 1024
room_after_extent n word m left rest room grown within = omega arith

pub room_after_equal : (n part m left rest : ℕ) → n + left ≤ 1024 → m ≡ n + part → part + rest ≤ left → m + rest ≤ 1024
room_after_equal n part m left rest room is within = omega arith
