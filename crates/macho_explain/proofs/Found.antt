-- What holds where something is found, and where nothing is.
use Rattle.std.proofs.Common.{Option, None, Some}
use Rattle.std.specs.Prelude.{MatchOption}

pub found_as : {X : Type 0} (N M : Type 0) (F G : X → Type 0) (found : Option X) → (N → M) → ((x : X) → F x → G x) → MatchOption found N F → MatchOption found M G
found_as N M F G None less more is = less is
found_as N M F G (Some x) less more is = more x is
