use Rattle.std.proofs.Common.{◌≡◌, subst, arith}
use Rattle.macho_fields.specs.Universal.{entry_count}
use Rattle.macho_fat.specs.TableWalk.{AreNotes}
use Rattle.macho_fat.proofs.survey.EntrySurvey.of.Goals as goal

pub loop-k-init : goal.loop-k-init
loop-k-init c = c.none-notes.ensures c.args.table.now

pub invariant_of-result : goal.invariant_of-result
invariant_of-result c =
    let all : c.loop-k.k ≡ entry_count c.args.table.now = omega (arith, c.count-k-end.ensures.count) in
    record { table = c.count-k-end.ensures.table; whole = subst (λ n. AreNotes c.args.table.now n c.loop-k.notes) all c.loop-k.invariant }
