use Rattle.macho_exports.proofs.Destinations.{nowhere_first, nowhere_second}
use Rattle.macho_exports.proofs.exports.Destinations.leads_nowhere.Goals as goal

pub returns-then-is_unmapped-clause-nowhere : goal.returns-then-is_unmapped-clause-nowhere
returns-then-is_unmapped-clause-nowhere c image are =
    nowhere_first image c.args.base c.args.target c.in-Address.address c.in-Address.resolver c.in-Address.is c.is_unmapped.result c.if-is_unmapped.true (c.is_unmapped.ensures.unmapped image are)

pub returns-else-is_unmapped-clause-nowhere : goal.returns-else-is_unmapped-clause-nowhere
returns-else-is_unmapped-clause-nowhere c image are =
    nowhere_second image c.args.base c.args.target c.in-Address.address c.in-Address.resolver c.in-Address.is c.is_unmapped.result c.resolves_nowhere.result c.if-is_unmapped.false
    (c.is_unmapped.ensures.unmapped image are) (c.resolves_nowhere.ensures.nowhere image (c.is_unmapped.ensures.same image are))

pub returns-else-is_unmapped-clause-same : goal.returns-else-is_unmapped-clause-same
returns-else-is_unmapped-clause-same c image are = c.resolves_nowhere.ensures.same image (c.is_unmapped.ensures.same image are)
