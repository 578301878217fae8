-- What reads and writes do to the bytes that a stream reports: an `Option`, which is `None` if it
-- reports none. Of such a stream nothing is said here. One that reports its bytes still reports
-- them afterwards.
use Rattle.std.specs.Prelude.{◌≡◌, ℕ, ◌+◌, ◌<◌, ◌≤◌, IfSome, Bool, true, false, List, [], ◌∷◌, ◌++◌, take, length, Option, Result, MatchResult}
use Rattle.std.specs.Io.KnownBytes.{Consumes, IsAtEnd, Appends}

-- a read put the stream's next n bytes first in the piece and left the rest,
-- and where it gave none, though the piece had room, nothing is left
pub record TakesFrom (old new : Option (List ℕ)) (n : ℕ) (piece : List ℕ) : Type 0 where
  pub taken : Consumes old new (take n piece)
  pub end : n ≡ 0 → 0 < length piece → IsAtEnd new

-- at most `limit` of the stream's bytes were taken
abbrev pub TookAtMost : ℕ → Option (List ℕ) → Option (List ℕ) → Type 0
TookAtMost limit old new = IfSome old (λ all. IfSome new (λ rest. length all ≤ length rest + limit))

-- the stream's bytes grew by the whole text
pub record Wrote (old new : Option (List ℕ)) (text : List ℕ) : Type 0 where
  pub appended : Appends old new text

-- the stream's bytes grew by the first bytes of the text, as many as `count` says
pub record WrotePrefix (old new : Option (List ℕ)) (text : List ℕ) : Type 0 where
  pub count : ℕ
  pub appended : Appends old new (take count text)

-- texts one after the other
unfoldable pub joined : List (List ℕ) → List ℕ
joined [] = []
joined (text ∷ rest) = text ++ joined rest

-- the stream's bytes grew by the whole text at `Ok`, and at a fault by a prefix of it
abbrev pub Writes : {T E : Type 0} → Option (List ℕ) → Option (List ℕ) → Result T E → List ℕ → Type 0
Writes old new r text = MatchResult r (λ _. Wrote old new text) (λ _. WrotePrefix old new text)

-- the stream has failed at a fault, and is as it was before at `Ok`
abbrev pub FailsAtFault : {T E : Type 0} → Bool → Bool → Result T E → Type 0
FailsAtFault old new r = MatchResult r (λ _. new ≡ old) (λ _. new ≡ true)

-- the stream's bytes grew by the whole text, or by a prefix of it where the stream has failed
abbrev pub WritesUnlessFailed : Bool → Option (List ℕ) → Option (List ℕ) → List ℕ → Type 0
WritesUnlessFailed true old new text = WrotePrefix old new text
WritesUnlessFailed false old new text = Wrote old new text
