use Rattle.macho_strict.proofs.Passed.{passed_empty}
use Rattle.macho_strict.proofs.gaps.Gaps.pass.Goals as goal

pub returns-then-span-eq0 : goal.returns-then-span-eq0
returns-then-span-eq0 c = λ wanted bytes spans are. passed_empty wanted bytes spans c.args.span c.args.self.now are c.if-span-eq0.true
