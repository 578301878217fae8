use Rattle.macho_profiles.proofs.Kept.{layout_kept, strict_kept}
use Rattle.macho_profiles.proofs.verdict.verify_by.Goals as goal

pub returns-in-Layout-clause-accepted : goal.returns-in-Layout-clause-accepted
returns-in-Layout-clause-accepted c =
    let kept = c.verify.ensures in
    rw c.in-Layout.is (layout_kept c.args.file.now _ kept.accepted kept.sound)

pub returns-in-Strict-clause-accepted : goal.returns-in-Strict-clause-accepted
returns-in-Strict-clause-accepted c =
    let kept = c.verify_strictly.ensures in
    rw c.in-Strict.is (strict_kept c.args.file.now _ (layout_kept c.args.file.now _ kept.accepted kept.sound) kept.strictly kept.accounted)

pub returns-in-Linked-clause-accepted : goal.returns-in-Linked-clause-accepted
returns-in-Linked-clause-accepted c = rw c.in-Linked.is c.verify_linked.ensures.accepted

pub returns-in-Unambiguous-clause-accepted : goal.returns-in-Unambiguous-clause-accepted
returns-in-Unambiguous-clause-accepted c = rw c.in-Unambiguous.is c.verify_unambiguous.ensures.accepted

pub returns-in-Sealed-clause-accepted : goal.returns-in-Sealed-clause-accepted
returns-in-Sealed-clause-accepted c = rw c.in-Sealed.is c.verify_sealed.ensures.accepted
