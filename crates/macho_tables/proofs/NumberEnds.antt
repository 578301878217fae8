-- A number lies in the bytes that it is read from.
use Rattle.std.proofs.Common.{◌≡◌, ℕ, ◌+◌, ◌≤◌, Bool, true, false, List, length, take, drop, Option, Some, None, MatchOption, refl, arith, length-drop}
use Rattle.std.specs.Prelude.{nat_lt, cond}
use Rattle.std.specs.List.{position_or_len}
use Rattle.std.specs.Option.{option_and_then}
use Rattle.std.proofs.lemmas.List.{length-take}
use Rattle.macho_tables.specs.Numbers.{number_bytes, unsigned_at, signed_at}

-- what is read at a place ends past it, or at it, and in the stream
abbrev pub IsWithin : {X : Type 0} → List ℕ → ℕ → Option (X × ℕ) → Type 0
IsWithin stream next read = MatchOption read (Unit {0}) (λ r. (next ≤ r.1) × (r.1 ≤ length stream))

pub either : {X : Type 0} (stream : List ℕ) (next : ℕ) (b : Bool) (x y : Option (X × ℕ)) → IsWithin stream next x → IsWithin stream next y
    → IsWithin stream next (cond b x y)
either stream next true x y first second = first
either stream next false x y first second = second

pub part_of : {X : Type 0} (b : Bool) (given bytes : X) → cond b (Some given) None ≡ Some bytes → given ≡ bytes
part_of true given bytes is = cc
part_of false given bytes is = absurd (cc)

pub number_whole : (stream bytes : List ℕ) → number_bytes stream ≡ Some bytes → length bytes ≤ length stream
unfolding number_bytes
number_whole stream bytes is =
    let size = position_or_len (λ byte. nat_lt byte 0x80) stream + 1 in
    let given = part_of _ (take size stream) bytes is in
    let count = length-take size stream in rw (← given, count) (omega arith)

pub number_within : {X : Type 0} (stream : List ℕ) (place : ℕ) (fits : List ℕ → Bool) (value : List ℕ → X) → place ≤ length stream
    → (read : Option (List ℕ)) → number_bytes (drop place stream) ≡ read
    → IsWithin stream place (option_and_then (λ bytes. cond (fits bytes) (Some (value bytes, place + length bytes)) None) read)
number_within stream place fits value inside None is = tt
number_within stream place fits value inside (Some bytes) is =
    let whole = number_whole (drop place stream) bytes is in
    let size = length-drop place stream in
    either stream place (fits bytes) _ _ (omega arith, omega arith) tt

pub unsigned_within : (stream : List ℕ) (place : ℕ) → place ≤ length stream → IsWithin stream place (unsigned_at stream place)
unfolding unsigned_at
unsigned_within stream place inside = number_within stream place _ _ inside _ refl

pub signed_within : (stream : List ℕ) (place : ℕ) → place ≤ length stream → IsWithin stream place (signed_at stream place)
unfolding signed_at
signed_within stream place inside = number_within stream place _ _ inside _ refl
