use Rattle.std.proofs.Common.{◌≢◌, ◌^◌, ℕ, List, Option, None, Some, rules}
use Rattle.std.specs.Io.KnownBytes.{Keeps}
use Rattle.macho_report.specs.Run.{WroteVerdict, WroteVerdictPrefix}
use Rattle.macho_report.specs.Where.{WroteWhere, WroteWherePrefix}
use Rattle.macho_report.specs.declared.judge.Judge as judge
use Rattle.macho_report.specs.declared.outcome.Outcome.{Outcome}
use Rattle.macho_report.specs.declared.address.WhereOutcome.{WhereOutcome}
use Rattle.macho_report.specs.declared.address.WhereOutcome.TheVariants.{NoImage}
use Rattle.macho_program.specs.Program.{WroteFoundPrefix}
use Rattle.macho_words.specs.Asked.{asks}
use Rattle.macho_program.proofs.program.find_in.Goals.{in-Verdict+in_ok-run_with-in-Verdict, in-Address+in_ok-run_where-in-Address}
use Rattle.macho_program.proofs.Writes.{wrote_then_kept}
use Rattle.macho_program.proofs.program.find_in.Goals as goal

-- a whole verdict, or what is at an address, and then a fault that wrote nothing
verdict_then_kept : {J : Type 0} (j : judge.Ghosts J) (who : J) (input a b c : Option (List ℕ)) (limit : ℕ) (outcome : Outcome) → WroteVerdict j who input limit outcome a b → Keeps b c
    → WroteVerdictPrefix j who input limit a c
verdict_then_kept j who None a b c limit outcome wrote kept = tt
verdict_then_kept j who (Some file) a b c limit outcome wrote kept =
    (wrote.0, (outcome, wrote.1.0, wrote.1.1, wrote_then_kept a b c wrote.1.0 wrote.1.2 kept))

where_then_kept : (input a b c : Option (List ℕ)) (limit slice address : ℕ) (outcome : WhereOutcome) → outcome ≢ NoImage → WroteWhere input limit slice address outcome a b → Keeps b c
    → WroteWherePrefix input limit slice address a c
where_then_kept None a b c limit slice address outcome some wrote kept = tt
where_then_kept (Some file) a b c limit slice address outcome some wrote kept =
    (wrote.0, (outcome, wrote.1.0, wrote.1.1, some, wrote_then_kept a b c wrote.1.0 wrote.1.2 kept))

-- at a failed flush the whole text is written
pub returns-in-Err : goal.returns-in-Err
returns-in-Err g c = λ name.
    let prefix : WroteFoundPrefix g.J.Judge (asks name c.args.question.now) (g.R.Input.remaining c.args.reader.now) (g.W.Output.contents c.args.writer.now) (g.W.Output.contents c.flush.new.self) =
    elim c.match-question.branch [
      | in-Verdict+in_ok-run_with-in-Verdict w ↦ rw w.in-Verdict.is (verdict_then_kept g.J.Judge _ _ _ _ _ (2 ^ 32) _ w.in_ok-run_with-in-Verdict.ensures.verdict (rw w.writer-is at c.in-Err.ensures.kept))
      | in-Address+in_ok-run_where-in-Address w ↦
          let some : w.in_ok-run_where-in-Address.field-0 ≢ NoImage = search rules in
          rw w.in-Address.is (where_then_kept _ _ _ _ (2 ^ 32) _ _ _ some w.in_ok-run_where-in-Address.ensures.verdict (rw w.writer-is at c.in-Err.ensures.kept))
    ] in search rules
