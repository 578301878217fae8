use Rattle.std.proofs.Common.{◌≡◌, ◌≤◌, ◌++◌, ◌∷◌, [], ℕ, List, max, sym, subst, arith}
use Rattle.macho_fields.specs.Bytes.{bytes_of}
use Rattle.macho_spans.specs.Span.{end_of}
use Rattle.macho_spans.specs.declared.span.Span.{Span}
use Rattle.macho_strict.specs.Gaps.{ArePassed}
use Rattle.macho_strict.specs.declared.gaps.Gaps.{Gaps}
use Rattle.macho_strict.specs.declared.gaps.Wanted.{Wanted}
use Rattle.macho_strict.proofs.Passed.{begins_before_end, ascend_by_start, ascending_more, next_none, passed_on}
use Rattle.macho_strict.proofs.gaps.Gaps.pass_after.Goals as goal
use Rattle.macho_strict.proofs.gaps.Gaps.pass_after.Goals.{then-self-from, else-self-from}

-- these gaps, with one more span that was passed
abbrev AreNow : Wanted → List ℕ → List Span → ℕ → ℕ → Gaps → Type 0
AreNow wanted bytes spans start end g =
    ArePassed wanted bytes spans (record { bytes = g.bytes; wanted = g.wanted; by_start = g.by_start; ascend = g.ascend; start = start; end = end; stray = g.stray })

pub returns : goal.returns
returns c = λ wanted bytes spans are.
    let x = c.args.span in
    let old = c.args.self.now in
    let set = ascend_by_start wanted bytes spans old are c.requires.ascend in
    let order = begins_before_end wanted bytes spans old.start old.end old.stray (are.walked set) in
    let after : old.start ≤ x.start = omega (arith, order, c.requires.after) in
    let ascending = ascending_more wanted bytes spans x old are old.ascend c.requires.filled (λ h. (h, c.requires.after), λ h. h.0) in
    let ends : c.end-self.result ≡ max old.end (end_of x) = omega (arith, c.end-self.ensures, c.requires.after) in
    elim c.if-self-from.branch [
      | then-self-from w ↦
          subst (AreNow wanted bytes (spans ++ x ∷ []) x.start c.end-self.result) (sym w.self-is)
          (passed_on wanted bytes spans x old are old.by_start old.ascend c.end-self.result w.stray_before-self.result ascending set set c.requires.filled after w.stray_before-self.ensures ends)
      | else-self-from w ↦
          let past : x.start ≤ old.end = omega (arith, w.if-self-from.false, c.from.ensures) in
          subst (AreNow wanted bytes (spans ++ x ∷ []) x.start c.end-self.result) (sym w.self-is)
          (passed_on wanted bytes spans x old are old.by_start old.ascend c.end-self.result old.stray ascending set set c.requires.filled after (next_none old.wanted (bytes_of old.bytes) old.end x.start old.stray past) ends)
    ]
