use Rattle.std.proofs.Common.{refl}
use Rattle.macho_text.proofs.Results.{at_fault}
use Rattle.macho_lines.specs.Text.{break_text}
use Rattle.macho_report.specs.declared.outcome.Outcome.TheVariants.{Accepted, Refused}
use Rattle.macho_report.proofs.Faults.{fails_as, fails_not, fails_to_write}
use Rattle.macho_report.proofs.outcome.write_verdict.Goals as goal

pub returns-in_err-verified : goal.returns-in_err-verified
returns-in_err-verified g c = rw (at_fault _ _ c.from_residual.ensures.1) record {
  verdict = tt;
  fails = fails_as _ _ _ _ _ (λ part. (Refused, _, (part.0, part.1, refl), part.2)) c.in_err-verified.ensures.fails;
}

pub returns-in_default : goal.returns-in_default
returns-in_default g c =
    let (b, refused, wrote) = rw c.in_default.is at c.in_ok-verified.ensures.refused in
    record { verdict = (break_text b, (b, refused, refl), wrote); fails = fails_not _ _ _ _ }

pub returns-in_err-write_layout_with : goal.returns-in_err-write_layout_with
returns-in_err-write_layout_with g c =
    let (same, accepted, unwritten) = rw c.in-Some.is at c.in_ok-verified.ensures.accepted in
    rw (at_fault _ _ c.from_residual-in_err-write_layout_with.ensures.1) record {
      verdict = tt;
      fails = fails_to_write _ _ _ c.in_err-write_layout_with.ensures.text.failed (Accepted, _, (accepted, refl), (rw (same, unwritten) at c.in_err-write_layout_with.ensures.text.bytes));
    }

pub returns : goal.returns
returns g c =
    let (same, accepted, unwritten) = rw c.in-Some.is at c.in_ok-verified.ensures.accepted in
    record { verdict = (_, (accepted, refl), (rw (same, unwritten) at c.in_ok-write_layout_with.ensures.text.bytes)); fails = fails_not _ _ _ _ }
