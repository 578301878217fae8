use Rattle.std.proofs.Common.{refl}
use Rattle.macho_text.proofs.Holding.{holds_nothing}
use Rattle.macho_report.proofs.judge.LayoutRulesJudge.write_more.Goals as goal

pub returns : goal.returns
returns g c = holds_nothing refl
