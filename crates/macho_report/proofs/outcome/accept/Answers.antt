use Rattle.std.proofs.Common.{refl}
use Rattle.macho_text.proofs.Results.{at_fault}
use Rattle.macho_report.proofs.Faults.{fails_not, fails_to_write, lacks_memory, refused_for}
use Rattle.macho_report.proofs.outcome.accept.Goals as goal

pub returns-in-Ok : goal.returns-in-Ok
returns-in-Ok g c = record {
  accepted = (c.in-Ok.ensures.file, c.in-Ok.ensures.accepted, refl);
  refused = tt;
  fails = fails_not _ _ _ _;
}

pub returns-in_err-write_break-in-Err-Broken : goal.returns-in_err-write_break-in-Err-Broken
returns-in_err-write_break-in-Err-Broken g c = rw (at_fault _ _ c.from_residual.ensures.1) record {
  accepted = tt;
  refused = tt;
  fails = fails_to_write _ _ _ c.in_err-write_break-in-Err-Broken.ensures.text.failed (_, refused_for (g.J.Judge.refuses c.args.judge.now) c.args.file.now _ _ c.in-Err-Broken.field-0-is c.in-Err-Broken.ensures.refused, c.in_err-write_break-in-Err-Broken.ensures.text.bytes);
}

pub returns-in_ok-write_break-in-Err-Broken : goal.returns-in_ok-write_break-in-Err-Broken
returns-in_ok-write_break-in-Err-Broken g c = record {
  accepted = tt;
  refused = (_, refused_for (g.J.Judge.refuses c.args.judge.now) c.args.file.now _ _ c.in-Err-Broken.field-0-is c.in-Err-Broken.ensures.refused, c.in_ok-write_break-in-Err-Broken.ensures.text.bytes);
  fails = fails_not _ _ _ _;
}

pub returns-in-Err-Memory : goal.returns-in-Err-Memory
returns-in-Err-Memory g c = record { accepted = tt; refused = tt; fails = lacks_memory _ _ _ refl }
