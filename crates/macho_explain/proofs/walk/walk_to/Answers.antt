use Rattle.std.proofs.Common.{◌≡◌, ◌+◌, ◌≤◌, ◌^◌, [], sym, ap, arith, inl, inr, ◌∙◌}
use Rattle.std.proofs.lemmas.Bool.{false≢true}
use Rattle.std.proofs.lemmas.Option.{slice_get_within}
use Rattle.macho_fields.specs.Bytes.{bytes_of}
use Rattle.macho_explain.specs.Explain.{all_loads, sections_before, Meets}
use Rattle.macho_rows.specs.Loads.{wanted_left}
use Rattle.macho_rows.specs.Sections.{nsects_at}
use Rattle.macho_rows.specs.declared.load.Wanted.TheVariants as wanted
use Rattle.macho_explain.proofs.Walked.{listed, passed, passed_more, summed, ended}
use Rattle.macho_explain.proofs.walk.walk_to.Goals as goal

pub returns-then-is_sought : goal.returns-then-is_sought
returns-then-is_sought c =
    let image = bytes_of c.args.image in
    let load = c.in-Some.load in
    let here = c.loop-load.invariant.left ∙ c.in-Some.ensures.first in
    record {
      listed = listed (all_loads image) c.loop-load.index load.place (wanted_left wanted.All image c.next_wanted.new.cursor) here;
      load = c.in-Some.ensures.load.0;
      past = c.in-Some.ensures.past;
      meets = c.is_sought.ensures.0 c.if-is_sought.true;
      first = c.loop-load.invariant.passed;
      sections = c.loop-load.invariant.sections;
    }

pub loop-load-preserved : goal.loop-load-preserved
loop-load-preserved c =
    let image = bytes_of c.args.image in
    let load = c.in-Some.load in
    let rest = wanted_left wanted.All image c.next_wanted.new.cursor in
    let here = c.loop-load.invariant.left ∙ c.in-Some.ensures.first in
    let added : c.in_ok-sections.sections ≡ c.loop-load.sections + c.nsects_at.result = grind arith in
    let next : c.in_ok-index.index ≡ c.loop-load.index + 1 = grind arith in
    let all = all_loads image in
    let here_listed = listed all c.loop-load.index load.place rest here in
    let not_sought : ¬ Meets image c.args.sought load.place = λ has. false≢true (sym c.if-is_sought.false ∙ c.is_sought.ensures.1 has) in
    rw next (record {
      left = passed all c.loop-load.index load.place rest here;
      sections = added ∙ (ap (λ n. n + c.nsects_at.result) c.loop-load.invariant.sections
          ∙ (ap (λ n. sections_before image c.loop-load.index + n) c.nsects_at.ensures.count
          ∙ sym (summed (nsects_at image) all c.loop-load.index load.place rest here)));
      passed = passed_more all (Meets image c.args.sought) c.loop-load.index load.place here_listed not_sought c.loop-load.invariant.passed;
    })

pub returns-in_err-sections : goal.returns-in_err-sections
returns-in_err-sections c =
    let image = bytes_of c.args.image in
    let load = c.in-Some.load in
    let here = c.loop-load.invariant.left ∙ c.in-Some.ensures.first in
    let more = summed (nsects_at image) (all_loads image) c.loop-load.index load.place (wanted_left wanted.All image c.next_wanted.new.cursor) here in
    let over : 2 ^ 64 ≤ c.loop-load.sections + c.nsects_at.result = grind arith in
    rw c.from_residual-in_err-sections.ensures (inr (inr (c.loop-load.index + 1, omega (arith, more, over, c.loop-load.invariant.sections, c.nsects_at.ensures.count))))

pub returns : goal.returns
returns c =
    let image = bytes_of c.args.image in
    let none : wanted_left wanted.All image c.loop-load.cursor ≡ [] = grind arith in
    let past = ended (all_loads image) c.loop-load.index (c.loop-load.invariant.left ∙ none) in
    inl (λ k command at has.
    let less = slice_get_within (all_loads image) k command at in
    c.loop-load.invariant.passed k command (omega (arith, less, past)) at has)
