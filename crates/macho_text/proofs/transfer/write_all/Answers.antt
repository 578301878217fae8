use Rattle.std.proofs.Common.{◌<◌, length, rules, arith}
use Rattle.macho_text.proofs.StreamLemmas.{some_bytes, wrote_all, wrote_next, wrote_next_prefix}
use Rattle.macho_text.proofs.Writers.{puts_fault}
use Rattle.macho_text.proofs.transfer.write_all.Goals as goal

pub returns-in_err-written-clause-text : goal.returns-in_err-written-clause-text
returns-in_err-written-clause-text g c =
    puts_fault c.from_residual.ensures.0 (wrote_next_prefix _ _ _ _ _ c.loop-written.invariant.wrote c.in_err-written.ensures.fault) (search rules)

pub loop-written-preserved : goal.loop-written-preserved
loop-written-preserved g c = record {
  in_text = search rules;
  wrote = wrote_next _ _ _ _ _ _ c.loop-written.invariant.wrote c.in_ok-written.ensures.wrote;
  same = search rules;
  untouched = search rules;
  working = search rules;
}

pub returns-clause-text : goal.returns-clause-text
returns-clause-text g c = record {
  bytes = wrote_all _ _ c.loop-written.written c.args.text.now (omega arith) c.loop-written.invariant.wrote;
  failed = c.loop-written.invariant.same;
}

pub returns-clause-stays_failed : goal.returns-clause-stays_failed
returns-clause-stays_failed g c failed some =
    let bytes : 0 < length c.args.text.now = some_bytes c.args.text.now some in
    absurd (c.loop-written.invariant.working (omega (arith, bytes)) failed)
