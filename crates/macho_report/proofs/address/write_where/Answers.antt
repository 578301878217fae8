use Rattle.std.proofs.Common.{refl}
use Rattle.std.proofs.lemmas.Bool.{false≢true}
use Rattle.macho_text.proofs.Results.{at_fault, no_answer, other_answer}
use Rattle.macho_text.proofs.StreamLemmas.{wrote_nothing}
use Rattle.macho_report.specs.declared.address.WhereOutcome.TheVariants.{Told, Refused}
use Rattle.macho_report.proofs.Faults.{fails_as, fails_not, fails_to_write, lacks_memory}
use Rattle.macho_lines.specs.Text.{break_text}
use Rattle.macho_report.proofs.Where.{refused_other, told, told_other}
use Rattle.macho_report.proofs.address.write_where.Goals as goal

pub returns-in_err-verified : goal.returns-in_err-verified
returns-in_err-verified g c = rw (at_fault _ _ c.from_residual.ensures.1) record {
  verdict = tt;
  no_image = λ e. absurd (no_answer _ _ e);
  fails = fails_as _ _ _ _ _ (λ part. (Refused, _, (part.0, part.1, refl), refused_other, part.2)) c.in_err-verified.ensures.fails;
}

pub returns-in_default : goal.returns-in_default
returns-in_default g c =
    let (b, refused, wrote) = rw c.in_default.is at c.in_ok-verified.ensures.refused in record {
      verdict = (break_text b, (b, refused, refl), wrote);
      no_image = λ e. absurd (other_answer _ _ _ refl refused_other e);
      fails = fails_not _ _ _ _;
    }

pub returns-in_err-mapping : goal.returns-in_err-mapping
returns-in_err-mapping g c =
    let (same, unbroken, unwritten) = rw c.in-Some.is at c.in_ok-verified.ensures.accepted in
    rw (at_fault _ _ c.from_residual-in_err-mapping.ensures.1) record {
      verdict = tt;
      no_image = λ e. absurd (no_answer _ _ e);
      fails = lacks_memory _ _ _ unwritten;
    }

pub returns-in_default-2 : goal.returns-in_default-2
returns-in_default-2 g c =
    let (same, unbroken, unwritten) = rw c.in-Some.is at c.in_ok-verified.ensures.accepted in
    let image = rw (c.in_default-2.is, same) at c.in_ok-mapping.ensures.is_image in record {
      verdict = (_, (unbroken, (λ has. false≢true (image.1 has)), refl), (rw unwritten (wrote_nothing _)));
      no_image = λ _. unwritten;
      fails = fails_not _ _ _ _;
    }

pub returns-in_err-write_source : goal.returns-in_err-write_source
returns-in_err-write_source g c =
    let (same, unbroken, unwritten) = rw c.in-Some.is at c.in_ok-verified.ensures.accepted in
    let image = rw (c.in-Some-2.is, same) at c.in_ok-mapping.ensures.is_image in
    let tells = told c.args.file.now _ _ _ _ _ _ same c.in-Some-2.is c.in_ok-mapping.ensures.sources c.source.ensures.source in
    rw (at_fault _ _ c.from_residual-in_err-write_source.ensures.1) record {
      verdict = tt;
      no_image = λ e. absurd (no_answer _ _ e);
      fails = fails_to_write _ _ _ c.in_err-write_source.ensures.failed (Told, _, (unbroken, image.0 refl, tells), told_other, (rw unwritten at c.in_err-write_source.ensures.bytes));
    }

pub returns : goal.returns
returns g c =
    let (same, unbroken, unwritten) = rw c.in-Some.is at c.in_ok-verified.ensures.accepted in
    let image = rw (c.in-Some-2.is, same) at c.in_ok-mapping.ensures.is_image in
    let tells = told c.args.file.now _ _ _ _ _ _ same c.in-Some-2.is c.in_ok-mapping.ensures.sources c.source.ensures.source in record {
      verdict = (_, (unbroken, image.0 refl, tells), (rw unwritten at c.in_ok-write_source.ensures.bytes));
      no_image = λ e. absurd (other_answer _ _ _ refl told_other e);
      fails = fails_not _ _ _ _;
    }
