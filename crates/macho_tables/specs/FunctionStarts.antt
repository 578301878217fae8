-- The addresses of functions, as the data of LC_FUNCTION_STARTS has them: numbers of ULEB128, one after
-- another. Each says how far a function is past the one before it, and the first how far past the base of
-- the image. A number 0 ends them. (mach-o/loader.h: LC_FUNCTION_STARTS)
use Rattle.std.specs.Prelude.{ℕ, zero, suc, ◌+◌, ◌^◌, ◌&&◌, nat_lt, List, [], ◌∷◌, length, drop, Option, Some, None, if◌then◌else◌}
use Rattle.std.specs.Option.{option_and_then, option_map_or}
use Rattle.macho_tables.specs.Numbers.{unsigned_at}

-- The first function of the data past an address, with the size of its number. It finds none where the data
-- does not begin with a whole number, where this is 0, and where the function would be at 2^64 or more.
unfoldable pub next_start : List ℕ → ℕ → Option (ℕ × ℕ)
next_start table address =
    option_and_then (λ n. if nat_lt 0 n.0 && nat_lt (address + n.0) (2 ^ 64)
    then Some (address + n.0, n.1) else None) (unsigned_at table 0)

-- up to so many functions past an address, in the order of the data
abbrev pub starts_up_to : ℕ → List ℕ → ℕ → List ℕ
starts_up_to zero table address = []
starts_up_to (suc most) table address =
    option_map_or (λ s. s.0 ∷ starts_up_to most (drop s.1 table) s.0) (next_start table address) []

-- all of them: each number has a byte or more
unfoldable pub function_starts : List ℕ → ℕ → List ℕ
function_starts table address = starts_up_to (length table) table address
