use Rattle.std.proofs.Common.{◌≤◌, length, refl, inr, arith}
use Rattle.macho_text.proofs.Results.{at_fault, no_answer, no_fault}
use Rattle.macho_report.proofs.Runs.{input_is, input_ok, reading_ends, reading_fails, reading_not_writing, write_or_unwritten}
use Rattle.macho_report.proofs.address.run_where.Goals as goal

pub returns-in_err-file : goal.returns-in_err-file
returns-in_err-file g c = rw (at_fault _ _ c.from_residual.ensures.1) record {
  verdict = tt;
  input = reading_fails g.R.Input _ _ _ c.in_err-file.field-0.0 c.in_err-file.ensures.failed c.in_err-file.ensures.too_long c.in_err-file.ensures.one_too_many c.in_err-file.ensures.memory c.in_err-file.ensures.few_reads;
  no_image = λ e. absurd (no_answer _ _ e);
  write = λ e. absurd (reading_not_writing c.in_err-file.field-0.0 e);
  prefix = λ e. absurd (reading_not_writing c.in_err-file.field-0.0 e);
  unwritten = inr refl;
}

pub returns : goal.returns
returns g c =
    let within : length c.in_ok-file.file.items ≤ c.args.limit = omega (arith, c.in_ok-file.file.ok.0, c.in_ok-file.ensures.within_limit) in record {
      verdict = input_ok _ _ _ _ _ c.in_ok-file.ensures.all within (rw c.deref.ensures.value at c.write_where.ensures.verdict);
      input = reading_ends g.R.Input _ _ _ _ _ _ c.write_where.ensures.fails.faults c.in_ok-file.ensures.all within c.in_ok-file.ensures.at_end (λ f. no_fault _ _ (c.in_ok-file.ensures.failed.1 f)) c.in_ok-file.ensures.few_reads;
      no_image = c.write_where.ensures.no_image;
      write = c.write_where.ensures.fails.write;
      prefix = λ failed. input_is _ _ _ _ c.in_ok-file.ensures.all within (rw c.deref.ensures.value at (c.write_where.ensures.fails.prefix failed));
      unwritten = write_or_unwritten _ _ c.write_where.ensures.fails.faults;
    }
