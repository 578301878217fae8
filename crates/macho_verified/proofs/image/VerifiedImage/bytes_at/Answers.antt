use Rattle.std.proofs.Common.{◌≡◌, ◌∙◌, refl, rules}
use Rattle.std.proofs.lemmas.Bool.{false≢true}
use Rattle.macho_rules.proofs.Searches.{search_all, first_among, search_next, none_left}
use Rattle.macho_rules.proofs.SegmentItems.{some_segment, of_segment}
use Rattle.macho_verified.specs.Image.{HasBytesAt, bytes_in_segment}
use Rattle.macho_verified.proofs.Accepted.{all_level}
use Rattle.macho_verified.proofs.image.VerifiedImage.bytes_at.Goals as goal

pub loop-segment-init : goal.loop-segment-init
loop-segment-init c = search_all (λ s. 0) _ _ (all_level _)

pub returns-in-Some-bytes_at-clause-held : goal.returns-in-Some-bytes_at-clause-held
returns-in-Some-bytes_at-clause-held c =
    let here = some_segment c.args.self.now _ (c.into_iter-segment-iterator.ensures.into_iter_gives ∙ c.segments-segment-items.ensures) (λ image. HasBytesAt image c.args.address c.args.len)
    c.in-Some.segment (first_among _ _ _ _ _ c.in-Some.segment c.in-Some.ensures.steps c.loop-segment.invariant) (c.in-Some-bytes_at.ensures.held.0 refl) in
    (λ _. here, λ _. refl)

pub returns-in-Some-bytes_at-clause-bytes : goal.returns-in-Some-bytes_at-clause-bytes
returns-in-Some-bytes_at-clause-bytes c =
    some_segment c.args.self.now _ (c.into_iter-segment-iterator.ensures.into_iter_gives ∙ c.segments-segment-items.ensures)
    (λ image segment. HasBytesAt image c.args.address c.args.len segment × (c.in-Some-bytes_at.bytes.now ≡ bytes_in_segment image c.args.address c.args.len segment))
    c.in-Some.segment (first_among _ _ _ _ _ c.in-Some.segment c.in-Some.ensures.steps c.loop-segment.invariant) (c.in-Some-bytes_at.ensures.held.0 refl, c.in-Some-bytes_at.ensures.bytes)

pub loop-segment-preserved : goal.loop-segment-preserved
loop-segment-preserved c =
    search_next _ _ _ _ _ c.in-Some.segment c.in-Some.ensures.steps c.loop-segment.invariant (λ held. false≢true (c.in_default.ensures.held.1 held))

pub returns-clause-held : goal.returns-clause-held
returns-clause-held c = (
  λ wrong. absurd (false≢true wrong),
  λ any.
      let (s, has, here) =
      of_segment c.args.self.now _ (c.into_iter-segment-iterator.ensures.into_iter_gives ∙ c.segments-segment-items.ensures) (λ image. HasBytesAt image c.args.address c.args.len) any in
      absurd (none_left _ _ _ _ c.in-None.ensures.steps.0 c.loop-segment.invariant s has here),
)

pub returns-in-Some-bytes_at-clause-whole : goal.returns-in-Some-bytes_at-clause-whole
returns-in-Some-bytes_at-clause-whole c = search rules
