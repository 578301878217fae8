use Rattle.std.proofs.Common.{sym, ◌∙◌}
use Rattle.macho_image.proofs.FirstWithCmd.{no_index_is_unique, none_at, some_at}
use Rattle.macho_image.proofs.unique.UniquePlaces.of.Goals as goal

pub returns-in_err-index-clause-unique : goal.returns-in_err-index-clause-unique
returns-in_err-index-clause-unique c = λ image commands first unique. absurd (no_index_is_unique c.args.cmd (sym c.unique_index.ensures.index ∙ c.in_err-index.was) unique)

pub returns-then-place-eq0-clause-unique : goal.returns-then-place-eq0-clause-unique
returns-then-place-eq0-clause-unique c = λ image commands first unique.
    sym (none_at image commands c.args.self.now first c.args.cmd c.in_ok-index.index (sym c.unique_index.ensures.index ∙ c.in_ok-index.was) c.if-place-eq0.true)

pub returns-clause-unique : goal.returns-clause-unique
returns-clause-unique c = λ image commands first unique.
    sym (some_at image commands c.args.self.now first c.args.cmd c.in_ok-index.index (sym c.unique_index.ensures.index ∙ c.in_ok-index.was) c.if-place-eq0.false)
