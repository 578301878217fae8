-- The functions of the data of LC_FUNCTION_STARTS: the first one, and those past it.
use Rattle.std.proofs.Common.{◌≡◌, ◌∙◌, ℕ, zero, suc, ◌+◌, ◌^◌, ◌<◌, ◌≤◌, ◌⊎◌, List, [], ◌∷◌, length, take, drop, Bool, true, false, cond, Option, Some, None, inl, inr, refl, ap, arith}
use Rattle.std.specs.Prelude.{nat_lt, nat_le, ◌&&◌}
use Rattle.std.specs.List.{position_or_len}
use Rattle.std.specs.Option.{option_and_then, option_map_or}
use Rattle.std.proofs.lemmas.Bool.{and_parts, lt-ltb, le-ltb, leb-true}
use Rattle.std.proofs.lemmas.List.{length-drop, length-take}
use Rattle.macho_tables.specs.FunctionStarts.{next_start, starts_up_to, function_starts}
use Rattle.macho_tables.specs.Numbers.{digits_value, number_bytes, unsigned_at}
use Rattle.macho_tables.proofs.NumberEnds.{part_of, number_whole}

-- The first function
pub next_none : (table : List ℕ) (address : ℕ) → unsigned_at table 0 ≡ None → next_start table address ≡ None
unfolding next_start
next_none table address none = rw none refl

pub next_some : (table : List ℕ) (address distance size : ℕ) → unsigned_at table 0 ≡ Some (distance, size) → 0 < distance → address + distance < 2 ^ 64
    → next_start table address ≡ Some (address + distance, size)
unfolding next_start
next_some table address distance size is more fits =
    rw is (rw (lt-ltb 0 distance more, lt-ltb (address + distance) (2 ^ 64) fits) refl)

pub next_zero : (table : List ℕ) (address distance size : ℕ) → unsigned_at table 0 ≡ Some (distance, size) → distance ≡ 0
    → next_start table address ≡ None
unfolding next_start
next_zero table address distance size is none = rw (is, none) refl

pub next_past : (table : List ℕ) (address distance size : ℕ) → unsigned_at table 0 ≡ Some (distance, size) → 2 ^ 64 ≤ address + distance
    → next_start table address ≡ None
unfolding next_start
next_past table address distance size is past = rw is (either (nat_lt 0 distance) (nat_lt (address + distance) (2 ^ 64)) _ (le-ltb _ _ past))
  where
    either : {X : Type 0} (a b : Bool) (given : Option X) → b ≡ false → cond (a && b) given None ≡ None
    either true b given fails = rw fails refl
    either false b given fails = refl

-- The size of its number
kept : {X : Type 0} (b : Bool) (given : X) (x : X) → cond b (Some given) None ≡ Some x → b ≡ true
kept true given x is = refl
kept false given x is = absurd (cc)

pub number_size : (stream bytes : List ℕ) → number_bytes stream ≡ Some bytes → (0 < length bytes) × (length bytes ≤ length stream)
unfolding number_bytes
number_size stream bytes is =
    let size = position_or_len (λ byte. nat_lt byte 0x80) stream + 1 in
    let given = part_of _ (take size stream) bytes is in
    let count = length-take size stream in
    let whole = number_whole stream bytes is in
    let few = leb-true size (length stream) (and_parts (nat_le size (length stream)) (nat_le size 10) (kept _ (take size stream) bytes is)).0 in
    (rw (← given, count) (omega (arith, few)), whole)

unsigned_size : (stream : List ℕ) (read : Option (List ℕ)) → number_bytes stream ≡ read → (r : ℕ × ℕ)
    → option_and_then (λ bytes. cond (nat_lt (digits_value bytes) (2 ^ 64)) (Some (digits_value bytes, 0 + length bytes)) None) read ≡ Some r
    → (0 < r.1) × (r.1 ≤ length stream)
unsigned_size stream None at r is = absurd (cc)
unsigned_size stream (Some bytes) at r is =
    let same = part_of _ (digits_value bytes, 0 + length bytes) r is in
    let (more, most) = number_size stream bytes at in
    rw (← same) (omega (arith, more), omega (arith, most))

pub read_size : (table : List ℕ) (r : ℕ × ℕ) → unsigned_at table 0 ≡ Some r → (0 < r.1) × (r.1 ≤ length table)
unfolding unsigned_at
read_size table r is = unsigned_size table (number_bytes (drop 0 table)) refl r is

-- so the data without a function past it is what is left of the data
next_size : (table : List ℕ) (address : ℕ) (s : ℕ × ℕ) → next_start table address ≡ Some s → (0 < s.1) × (s.1 ≤ length table)
unfolding next_start
next_size table address s is = by (unsigned_at table 0) refl is
  where
    by : (read : Option (ℕ × ℕ)) → unsigned_at table 0 ≡ read
        → option_and_then (λ n. cond (nat_lt 0 n.0 && nat_lt (address + n.0) (2 ^ 64)) (Some (address + n.0, n.1)) None) read ≡ Some s
        → (0 < s.1) × (s.1 ≤ length table)
    by None at found = absurd (cc)
    by (Some n) at found =
        let same = part_of _ (address + n.0, n.1) s found in rw (← same) (read_size table n at)

cases_none : {X : Type 0} (read : Option X) → (read ≡ None) ⊎ ((x : X) × (read ≡ Some x))
cases_none None = inl refl
cases_none (Some x) = inr (x, refl)

-- All functions
none_in : (address : ℕ) → next_start [] address ≡ None
none_in address = elim (cases_none (next_start [] address)) [
  | inl none ↦ none
  | inr (s, some) ↦ absurd (let (more, most) = next_size [] address s some in omega (arith, more, most))
]

-- any bound that is no less than the size of the data gives all
enough : (most more : ℕ) (table : List ℕ) (address : ℕ) → length table ≤ most → length table ≤ more → starts_up_to most table address ≡ starts_up_to more table address
enough zero zero table address a b = refl
enough zero (suc more) [] address a b = rw (none_in address) refl
enough zero (suc more) (byte ∷ table) address a b = absurd (omega arith)
enough (suc most) zero [] address a b = rw (none_in address) refl
enough (suc most) zero (byte ∷ table) address a b = absurd (omega arith)
enough (suc most) (suc more) table address a b = by (enough most more) (next_start table address) refl
  where
    by : ((left : List ℕ) (later : ℕ) → length left ≤ most → length left ≤ more → starts_up_to most left later ≡ starts_up_to more left later)
        → (next : Option (ℕ × ℕ)) → next_start table address ≡ next
        → option_map_or (λ s. s.0 ∷ starts_up_to most (drop s.1 table) s.0) next [] ≡ option_map_or (λ s. s.0 ∷ starts_up_to more (drop s.1 table) s.0) next []
    by same None at = refl
    by same (Some s) at =
        let (some, inside) = next_size table address s at in
        let left = length-drop s.1 table in
        ap (λ starts. s.0 ∷ starts) (same (drop s.1 table) s.0 (omega (arith, some, inside, left, a)) (omega (arith, some, inside, left, b)))

-- the functions of the data are the first one, and the functions of what is left
pub starts_next : (table : List ℕ) (address : ℕ) (s : ℕ × ℕ) → next_start table address ≡ Some s
    → function_starts table address ≡ s.0 ∷ function_starts (drop s.1 table) s.0
unfolding function_starts
starts_next table address s is =
    let (some, inside) = next_size table address s is in
    let left = length-drop s.1 table in
    enough (length table) (suc (length table)) table address (omega arith) (omega arith)
    ∙ (rw is (ap (λ starts. s.0 ∷ starts) (enough (length table) (length (drop s.1 table)) (drop s.1 table) s.0 (omega (arith, left)) (omega arith))))

pub starts_none : (table : List ℕ) (address : ℕ) → next_start table address ≡ None → function_starts table address ≡ []
unfolding function_starts
starts_none table address is = enough (length table) (suc (length table)) table address (omega arith) (omega arith) ∙ rw is refl
