use Rattle.std.proofs.Common.{sym, ap, ◌∙◌, subst, lit≤, refl}
use Rattle.std.proofs.lemmas.Bool.{both_ways}
use Rattle.macho_fields.specs.Image.{commands_of}
use Rattle.macho_fields.specs.Segment.{HasNoEntry}
use Rattle.macho_fields.specs.declared.header.loader.TheConstants as loader
use Rattle.macho_fields.specs.declared.rule.Rule.TheVariants as rule
use Rattle.macho_image.specs.Single.{main_command_at}
use Rattle.macho_image.specs.declared.main_command.MainCommand.{MainCommand}
use Rattle.macho_rules.proofs.OneCommand.{no_first, first_at, one_broken, one_kept, none_kept}
use Rattle.macho_rules.proofs.entry.entry.Goals as goal

pub returns-in_default : goal.returns-in_default
returns-in_default c =
    let image = c.args.image.now in
    none_kept image rule.Entry (lit≤ tt) c.requires.kept loader.LC_MAIN (HasNoEntry image (commands_of image)) (λ p broken. broken)
    (no_first (main_command_at image) _ (sym c.in_default.is ∙ c.main_command.ensures))

pub returns-then-has_no_entry : goal.returns-then-has_no_entry
returns-then-has_no_entry c =
    let image = c.args.image.now in
    let (d, first, same) = first_at (main_command_at image) _ c.in-Some.main (sym c.in-Some.is ∙ c.main_command.ensures) in
    let at = ap (λ (m : MainCommand). m.place) same in
    one_broken image rule.Entry (lit≤ tt) c.requires.kept loader.LC_MAIN (HasNoEntry image (commands_of image)) (λ p broken. broken) refl (λ p broken. broken) d first
    (subst (HasNoEntry image (commands_of image)) at (c.has_no_entry.ensures.0 c.if-has_no_entry.true)) c.at.result c.at.ensures.rule (c.at.ensures.place ∙ at)

pub returns : goal.returns
returns c =
    let image = c.args.image.now in
    let (d, first, same) = first_at (main_command_at image) _ c.in-Some.main (sym c.in-Some.is ∙ c.main_command.ensures) in
    let at = ap (λ (m : MainCommand). m.place) same in
    one_kept image rule.Entry (lit≤ tt) c.requires.kept loader.LC_MAIN (HasNoEntry image (commands_of image)) (λ p broken. broken) refl d first
    (λ none. both_ways c.has_no_entry.result c.if-has_no_entry.false (c.has_no_entry.ensures.1 (subst (HasNoEntry image (commands_of image)) (sym at) none)))
