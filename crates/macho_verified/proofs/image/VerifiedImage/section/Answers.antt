use Rattle.std.proofs.Common.{◌≡◌, ◌∙◌, ◌-◌, ℕ, List, map, slice_get, sym, ap, subst, rules}
use Rattle.std.proofs.lemmas.Iterator.Consumers.{nth_from_yields_List, YieldsList-from_first}
use Rattle.macho_fields.specs.Image.{commands_of}
use Rattle.macho_image.specs.Segment.{SectionView, section_at, sections_of}
use Rattle.macho_verified.specs.Accepted.{IsVerifiedSection}
use Rattle.macho_verified.proofs.Accepted.{all_sections_hold, got_has, nth_is}
use Rattle.macho_verified.proofs.image.VerifiedImage.section.Goals as goal
use Rattle.macho_verified.proofs.image.VerifiedImage.section.Goals.{After-nth}

abbrev all : List ℕ → List SectionView
all image = map (section_at image) (sections_of image (commands_of image))

got : (c : After-nth) → c.nth.result ≡ slice_get (all c.self.inside.image) c.in_ok-index.index
got c =
    nth_is c.nth.result _ (nth_from_yields_List c.nth.result c.nth.new.self c.in_ok-index.index c.nth.ensures.ran
    (YieldsList-from_first (λ (x : SectionView). x) (λ (left : List SectionView). left) (all c.self.inside.image) c.sections.ensures.sections))

numbered : (c : After-nth) → c.nth.result ≡ slice_get (all c.args.self.now) (c.args.number - 1)
numbered c =
    subst (λ (i : List ℕ). c.nth.result ≡ slice_get (all i) (c.args.number - 1)) c.self.view_is
    (got c ∙ ap (slice_get (all c.self.inside.image)) (c.in_ok-index.ensures.1 ∙ ap (λ n. n - 1) c.from.ensures))

pub returns-in_err-section-clause-section : goal.returns-in_err-section-clause-section
returns-in_err-section-clause-section c some = c.from_residual-in_err-section.ensures ∙ (sym c.in_err-section.was ∙ numbered c.before.before.before)

pub invariant_of-result : goal.invariant_of-result
invariant_of-result c =
    got_has IsVerifiedSection (all c.self.inside.image) c.in_ok-index.index c.in_ok-section.section (sym (got c.before.before) ∙ c.in_ok-section.was) (all_sections_hold c.self.inside.image c.self.invariant)

pub returns-clause-section : goal.returns-clause-section
returns-clause-section c some = sym c.in_ok-section.was ∙ numbered c.before.before

pub returns-clause-none : goal.returns-clause-none
returns-clause-none c = search rules
