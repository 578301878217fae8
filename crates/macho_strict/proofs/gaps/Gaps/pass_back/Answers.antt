use Rattle.std.proofs.Common.{◌≡◌, ◌≤◌, ◌<◌, false, max, sym, ap, ◌∙◌, arith}
use Rattle.std.proofs.lemmas.Bool.{false≢true, true≢false}
use Rattle.std.proofs.lemmas.Bool.Decides.{nat_tests}
use Rattle.macho_spans.specs.Span.{end_of}
use Rattle.macho_strict.proofs.Passed.{ascending_more, now_unsorted, passed_back, passed_on, still_unsorted}
use Rattle.macho_strict.proofs.gaps.Gaps.pass_back.Goals as goal
use Rattle.macho_strict.proofs.gaps.Gaps.pass_back.Goals.{then-self, else-self}

pub returns-then-self-2 : goal.returns-then-self-2
returns-then-self-2 c = λ wanted bytes spans are.
    let x = c.args.span in
    let old = c.args.self.now in
    let ascending = ascending_more wanted bytes spans x old are false c.requires.filled (λ h. absurd (false≢true h), λ h. absurd (c.requires.back h)) in
    let ends : c.max-self.result ≡ max old.end (end_of x) = c.max-self.ensures ∙ ap (max old.end) c.end.ensures in
    elim c.if-self.branch [
      | then-self v ↦
          let after : old.start ≤ x.start = grind (arith, nat_tests, c.if-self-2.true, v.self-is) in
          passed_on wanted bytes spans x old are c.if-self.self false c.max-self.result c.stray_before-self.result ascending c.if-self-2.true v.if-self.true c.requires.filled after c.stray_before-self.ensures ends
      | else-self v ↦ absurd (true≢false (sym c.if-self-2.true ∙ (v.self-is ∙ v.if-self.false)))
    ]

pub returns-else-self-2 : goal.returns-else-self-2
returns-else-self-2 c = λ wanted bytes spans are.
    let old = c.args.self.now in
    let ascending = ascending_more wanted bytes spans c.args.span old are false c.requires.filled (λ h. absurd (false≢true h), λ h. absurd (c.requires.back h)) in
    elim c.if-self.branch [
      | then-self w ↦
          let before : c.args.span.start < old.start = grind (arith, nat_tests, c.if-self-2.false, w.self-is) in
          passed_back wanted bytes spans c.args.span old are c.if-self.self false ascending c.if-self-2.false
          (now_unsorted spans c.args.span wanted bytes old.start old.end old.stray (are.walked w.if-self.true) c.requires.filled before)
      | else-self w ↦ passed_back wanted bytes spans c.args.span old are c.if-self.self false ascending c.if-self-2.false (still_unsorted spans c.args.span (are.unsorted w.if-self.false))
    ]
