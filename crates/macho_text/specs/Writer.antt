-- What a call does that writes a text to an output.
use Rattle.std.specs.Prelude.{◌≡◌, ℕ, List, [], ◌∷◌, ◌++◌, Option, Result, MatchResult}
use Rattle.macho_text.specs.Stream.{Wrote, WrotePrefix, Writes, FailsAtFault, joined}
use Rattle.macho_text.specs.declared.stream.Output as output

-- The output's bytes grew by the whole text at `Ok`, and at a fault by a prefix of it. The output has failed at a fault, and at
-- `Ok` only where it had failed before.
pub record PutsText {W T E : Type 0} (o : output.Ghosts W) (old new : W) (r : Result T E) (text : List ℕ) : Type 0 where
  pub bytes : Writes (o.contents old) (o.contents new) r text
  pub failed : FailsAtFault (o.has_failed old) (o.has_failed new) r

-- The stream's bytes grew by the first part of a text, and these texts are left of it.
pub record Writing (old new : Option (List ℕ)) (whole : List ℕ) (left : List (List ℕ)) : Type 0 where
  pub done : List ℕ
  pub wrote : Wrote old new done
  pub rest : done ++ joined left ≡ whole

-- The same as `PutsText`, where at `Ok` the end of the text is held in a line and not written yet.
pub record HoldsText {W T E : Type 0} (o : output.Ghosts W) (old new : W) (r : Result T E) (held text : List ℕ) : Type 0 where
  pub bytes : MatchResult r (λ _. Writing (o.contents old) (o.contents new) text (held ∷ []))
      (λ _. WrotePrefix (o.contents old) (o.contents new) text)
  pub failed : FailsAtFault (o.has_failed old) (o.has_failed new) r
