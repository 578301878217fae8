use Rattle.std.proofs.Common.{sym, ◌∙◌, subst}
use Rattle.macho_strict.specs.Sharing.{IsFirstSharing, tagged_elements}
use Rattle.macho_strict.specs.Verdict.{element_spans}
use Rattle.macho_strict.proofs.Claimed.{none_shared}
use Rattle.macho_strict.proofs.Sorted.{passed_for, some_sorted}
use Rattle.macho_strict.proofs.claims.Claims.of_sorted.Goals as goal
use Rattle.macho_strict.proofs.claims.Claims.of_sorted.Goals.{then-ascend, else-ascend+in_ok-shared}

pub new-requires-clause-sorted : goal.new-requires-clause-sorted
new-requires-clause-sorted c =
    let image = c.args.image.now in
    some_sorted image (element_spans image) c.args.passed.gaps c.args.passed.sorted c.requires.passed c.requires.sorted

pub new-requires-clause-shared : goal.new-requires-clause-shared
new-requires-clause-shared c =
    let image = c.args.image.now in
    let passed = c.args.passed in
    elim c.if-ascend.branch [
      | then-ascend w ↦
          subst (IsFirstSharing (tagged_elements image)) (sym w.shared-is)
          (none_shared image passed.gaps (passed_for image (element_spans image) passed.gaps passed.sorted c.requires.passed) (sym c.ascend.ensures ∙ w.if-ascend.true))
      | else-ascend+in_ok-shared w ↦ subst (IsFirstSharing (tagged_elements image)) (sym w.shared-is) w.in_ok-shared.ensures
    ]
