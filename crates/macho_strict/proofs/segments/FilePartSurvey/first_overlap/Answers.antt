use Rattle.std.proofs.Common.{sym, ◌∙◌}
use Rattle.std.proofs.lemmas.Bool.{true≢false}
use Rattle.macho_strict.proofs.Claimed.{on_err}
use Rattle.macho_strict.proofs.Surveyed.{apart_parts}
use Rattle.macho_strict.proofs.segments.FilePartSurvey.first_overlap.Goals as goal

pub returns-then-self-clause-first : goal.returns-then-self-clause-first
returns-then-self-clause-first c = apart_parts c.args.image.now (c.requires.apart c.if-self.true)

pub returns-clause-memory : goal.returns-clause-memory
returns-clause-memory c = on_err c.sorted_file_overlap.result (λ up. true≢false (sym (c.requires.ascend up) ∙ c.if-self.false))
