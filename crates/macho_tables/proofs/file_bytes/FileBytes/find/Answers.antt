use Rattle.std.proofs.Common.{List, ℕ, refl, subst, rules, tests}
use Rattle.std.proofs.lemmas.Bool.{false≢true}
use Rattle.macho_fields.specs.Segment.{all_segments}
use Rattle.macho_rules.proofs.Searches.{any_of}
use Rattle.macho_tables.specs.StartNumbers.{HasByteAt}
use Rattle.macho_tables.proofs.Found.{find_segment, match_none, match_some}
use Rattle.macho_tables.proofs.file_bytes.FileBytes.find.Goals as goal

pub returns-in_default-clause-found : goal.returns-in_default-clause-found
returns-in_default-clause-found c =
    let found = find_segment c.args.image.now c.segments.ensures.segments _ (λ image segment. HasByteAt image c.args.address segment) c.find-found.result c.find-found.ensures.ran (λ y b q k. search (rules, tests)) in
    let none = match_none _ _ _ found c.in_default.is in
    (λ wrong. absurd (false≢true wrong), λ any. absurd (none any))

pub returns-clause-found : goal.returns-clause-found
returns-clause-found c =
    let found = find_segment c.args.image.now c.segments.ensures.segments _ (λ image segment. HasByteAt image c.args.address segment) c.find-found.result c.find-found.ensures.ran (λ y b q k. search (rules, tests)) in
    let (here, same, has) = match_some _ _ _ found c.in-Some.segment c.in-Some.is in
    (λ _. any_of (HasByteAt c.args.image.now c.args.address) (all_segments c.args.image.now) c.in-Some.segment.place has here, λ _. refl)

pub returns-clause-same : goal.returns-clause-same
returns-clause-same c =
    let image = c.args.image.now in
    let found = find_segment image c.segments.ensures.segments _ (λ bytes segment. HasByteAt bytes c.args.address segment) c.find-found.result c.find-found.ensures.ran (λ y b q k. search (rules, tests)) in
    let (here, same, has) = match_some _ _ _ found c.in-Some.segment c.in-Some.is in
    record {
      held = λ address holds.
          let byte = subst (λ (bytes : List ℕ). HasByteAt bytes address c.in-Some.segment.place) same ((c.file_memory-self.ensures.bytes address).0 holds) in
          any_of (HasByteAt image address) (all_segments image) c.in-Some.segment.place has byte;
      many = c.requires.many;
    }
