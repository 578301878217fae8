use Rattle.macho_strict.proofs.Passed.{least_of_all}
use Rattle.macho_strict.proofs.gaps.Gaps.stray.Goals as goal

pub returns : goal.returns
returns c = λ wanted bytes spans are. least_of_all wanted bytes spans c.args.self.now are c.requires c.len.result c.len.ensures.count c.stray_before.result c.stray_before.ensures
