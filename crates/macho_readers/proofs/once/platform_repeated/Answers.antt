use Rattle.std.proofs.Common.{List, sym, ◌∙◌, subst}
use Rattle.std.proofs.lemmas.Bool.{false≢true}
use Rattle.macho_fields.specs.FirstPlace.{IsLeastPlace}
use Rattle.macho_spans.specs.Overlap.{SharesEarlier, IsLeastSharing}
use Rattle.macho_spans.specs.declared.span.Span.{Span}
use Rattle.macho_readers.proofs.Platforms.{Repeats, alone, none_repeated, first_repeated, nth_place}
use Rattle.macho_readers.proofs.once.platform_repeated.Goals as goal

pub returns-in_default-clause-least : goal.returns-in_default-clause-least
returns-in_default-clause-least c =
    none_repeated c.args.image.now c.in_ok-platforms.ensures.opened (λ j shares.
    c.in_default.ensures j (subst (λ (spans : List Span). SharesEarlier spans j) (sym c.in_ok-platforms.ensures.spans) shares))

pub returns : goal.returns
returns c =
    let image = c.args.image.now in
    let opened = c.in_ok-platforms.ensures.opened in
    let sharing = subst (λ (spans : List Span). IsLeastSharing spans c.in-Some.index) c.in_ok-platforms.ensures.spans c.in-Some.ensures in
    let place = c.place_of.ensures ∙ nth_place image opened c.commands.ensures.commands c.nth.result _ c.in-Some.index c.nth.ensures.ran sharing in
    record { least = subst (IsLeastPlace (Repeats image opened)) (sym place) (first_repeated image opened c.in-Some.index sharing); memory = tt }

pub returns-then-not-has_several_platforms : goal.returns-then-not-has_several_platforms
returns-then-not-has_several_platforms c = record {
  least = alone c.args.image.now (λ several. false≢true (sym c.if-not-has_several_platforms.true ∙ c.has_several_platforms.ensures.1 several));
  memory = tt;
}
