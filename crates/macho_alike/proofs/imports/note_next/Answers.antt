use Rattle.std.proofs.Common.{ℕ, List, sym, subst, inr}
use Rattle.macho_alike.specs.LookUps.{WereNoted, IsLookedUpIn}
use Rattle.macho_alike.proofs.imports.note_next.Goals as goal

pub returns-clause-noted : goal.returns-clause-noted
returns-clause-noted g c = inr (
  c.in-Some.look_up,
  c.in-Some.is,
  sym c.in-Some.is,
  subst (λ (name : List ℕ). WereNoted g.N.Notes.are_of (IsLookedUpIn name c.in-Some.look_up.library) c.args.notes.now c.note_look_up.new.notes) c.read_part-name.ensures c.in_ok-note_look_up.ensures.noted,
)
