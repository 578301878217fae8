use Rattle.std.proofs.Common.{◌+◌, ◌≡◌, refl, subst, sym, ◌∙◌, arith}
use Rattle.std.proofs.lemmas.Bool.{false≢true}
use Rattle.macho_fields.specs.Bytes.{bytes_of}
use Rattle.macho_fields.specs.First.{rank}
use Rattle.macho_fields.specs.Image.{IsGood, command_count}
use Rattle.macho_fields.specs.Rules.{BreaksHeader}
use Rattle.macho_fields.specs.declared.rule.Rule.TheVariants as rule
use Rattle.macho_image.specs.Walk.{HasPassed, IsAt}
use Rattle.macho_image.specs.declared.walk.Candidate.{Candidate}
use Rattle.macho_image.proofs.KeptRules.{has_header, commands_inside, header_kept, header_broken}
use Rattle.macho_image.proofs.Places.{at_first, at_next, walk_breaks_at, walk_ends}
use Rattle.macho_image.proofs.Surveyed.{can_pass}
use Rattle.macho_image.proofs.survey.CommandSurvey.command_walk.Goals as goal

pub end_of_commands-end-requires : goal.end_of_commands-end-requires
end_of_commands-end-requires c = has_header _ c.args.self.now.candidate.arch (rank rule.CommandWalk) (omega arith) c.requires.kept

pub word_at-index-end-requires : goal.word_at-index-end-requires
word_at-index-end-requires c = let header = has_header _ c.args.self.now.candidate.arch (rank rule.CommandWalk) (omega arith) c.requires.kept in omega (arith, header)

pub loop-index-init : goal.loop-index-init
loop-index-init c = record {
  within = omega (arith, c.end_of_commands-end.ensures.end);
  at = at_first (bytes_of c.args.self.now.candidate.bytes);
  same = refl;
  passed = c.requires.passed;
}

pub next_command-requires-clause-inside : goal.next_command-requires-clause-inside
next_command-requires-clause-inside c =
    let inside = commands_inside _ c.args.self.now.candidate.arch (rank rule.CommandWalk) (omega arith) c.requires.kept in omega (arith, inside, c.end_of_commands-end.ensures.end)

pub next_command-requires-clause-place : goal.next_command-requires-clause-place
next_command-requires-clause-place c = c.loop-index.invariant.within

pub returns-in_default-clause-decides : goal.returns-in_default-clause-decides
returns-in_default-clause-decides c =
    let image = bytes_of c.args.self.now.candidate.bytes in
    let arch = c.args.self.now.candidate.arch in
    let stops = walk_breaks_at image arch c.loop-index.index c.loop-index.place c.loop-index.invariant.at (omega (arith, c.word_at-index-end.ensures))
    (λ good. false≢true (c.in_default.ensures.good.1 good)) in
    header_broken image arch rule.CommandWalk (λ _ _ h. h) c.requires.kept _ c.at.ensures.rule (subst (BreaksHeader image arch rule.CommandWalk) (sym c.at.ensures.place) stops.0)
    (λ place broken. let least = stops.1 place broken in omega (arith, c.at.ensures.place))

pub pass-requires-clause-next : goal.pass-requires-clause-next
pass-requires-clause-next c =
    can_pass c.args.self.now.candidate c.loop-index.self c.loop-index.index c.loop-index.place c.loop-index.invariant.same c.loop-index.invariant.at (c.in-Some.ensures.good.0 refl)
    (commands_inside _ c.args.self.now.candidate.arch (rank rule.CommandWalk) (omega arith) c.requires.kept)

pub pass-requires-clause-passed : goal.pass-requires-clause-passed
pass-requires-clause-passed c = c.loop-index.invariant.passed

pub loop-index-preserved : goal.loop-index-preserved
loop-index-preserved c =
    let image = bytes_of c.args.self.now.candidate.bytes in
    let good : IsGood image c.loop-index.place = c.in-Some.ensures.good.0 refl in record {
      within = omega (arith, good.inside, c.in-Some.ensures.next, c.end_of_commands-end.ensures.end);
      at = subst (IsAt image (c.loop-index.index + 1)) (sym c.in-Some.ensures.next) (at_next image c.loop-index.index c.loop-index.place c.loop-index.invariant.at good);
      same = c.pass.ensures.candidate ∙ c.loop-index.invariant.same;
      passed = c.pass.ensures.passed;
    }

-- the walk has passed as many commands as there are
pub returns-clause-decides : goal.returns-clause-decides
returns-clause-decides c =
    let image = bytes_of c.args.self.now.candidate.bytes in
    let all : c.loop-index.index ≡ command_count image = omega (arith, c.word_at-index-end.ensures) in
    header_kept image c.args.self.now.candidate.arch rule.CommandWalk (λ _ _ h. h) c.requires.kept (walk_ends image c.args.self.now.candidate.arch c.loop-index.index c.loop-index.place c.loop-index.invariant.at all)

pub returns-clause-candidate : goal.returns-clause-candidate
returns-clause-candidate c = c.loop-index.invariant.same

pub returns-clause-passed : goal.returns-clause-passed
returns-clause-passed c =
    let all : c.loop-index.index ≡ command_count (bytes_of c.args.self.now.candidate.bytes) = omega (arith, c.word_at-index-end.ensures) in
    subst (λ (o : Candidate). HasPassed c.loop-index.self (command_count (bytes_of o.bytes))) (sym c.loop-index.invariant.same) (subst (HasPassed c.loop-index.self) all c.loop-index.invariant.passed)

pub returns-in_default-clause-passed : goal.returns-in_default-clause-passed
returns-in_default-clause-passed c = tt
