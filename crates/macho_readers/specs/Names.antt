-- Items that have the same names. A name stands as a number. The places of a list of items may come in any order.
use Rattle.std.specs.Prelude.{◌≡◌, ℕ, ◌+◌, ◌*◌, ◌≤◌, ◌<◌, List, [], ◌∷◌, length, slice_index_or, Contains}
use Rattle.macho_readers.specs.declared.names.Named.{Named}

-- the number whose digits to the base 256 are first those of n, and then the bytes
unfoldable pub number_with : ℕ → List ℕ → ℕ
number_with n [] = n
number_with n (byte ∷ bytes) = number_with (n * 256 + byte) bytes

-- the number whose digits to the base 256 are the bytes of a name
abbrev pub number_of : List ℕ → ℕ
number_of name = number_with 0 name

-- the numbers of the names, and the place
abbrev pub names_of : Named → ℕ × ℕ × ℕ
names_of named = (named.segment, named.section, named.place)

-- both names are the same
abbrev pub HaveSameNames : Named → Named → Type 0
HaveSameNames one other = (one.segment ≡ other.segment) × (one.section ≡ other.section)

-- each item between two with the same names has these names too
abbrev pub AreGrouped : List Named → Type 0
AreGrouped items =
    (i j k : ℕ) (d : Named) → i ≤ j → j ≤ k → k < length items
    → HaveSameNames (slice_index_or items i d) (slice_index_or items k d)
    → HaveSameNames (slice_index_or items j d) (slice_index_or items k d)

-- an item is at the place, and one at a lesser place has its names
abbrev pub RepeatsNames : List Named → ℕ → Type 0
RepeatsNames items place =
    (item earlier : Named) × Contains items item × Contains items earlier × HaveSameNames earlier item
    × (earlier.place < item.place) × (place ≡ item.place)
