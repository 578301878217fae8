use Rattle.std.proofs.Common.{◌∙◌, ◌++◌, ◌≤◌, List, [], ◌∷◌, refl, sym, subst}
use Rattle.std.proofs.lemmas.Bool.{false≢true}
use Rattle.macho_fields.specs.Image.{commands_of}
use Rattle.macho_image.specs.Command.{CommandView, command_of, command_at}
use Rattle.macho_rules.proofs.Searches.{Rising, ordered_map}
use Rattle.macho_rules.proofs.SegmentItems.{commands_rise}
use Rattle.macho_rules.proofs.Surveys.{walked, walked_on, walked_all, ordered_before}
use Rattle.macho_readers.specs.Order.{IsEager}
use Rattle.macho_readers.proofs.Lasts.{IsLastIn, last_none, last_more, last_kept, last_mapped}
use Rattle.macho_readers.proofs.order.last_eager.Goals as goal

pub loop-command-init : goal.loop-command-init
loop-command-init c = ([], refl, last_none (λ (v : CommandView). v.place) (λ (v : CommandView). IsEager v.cmd))

pub loop-command-preserved : goal.loop-command-preserved
loop-command-preserved c =
    let (seen, reached, last) = c.loop-command.invariant in
    let x = command_of c.in-Some.command in
    (seen ++ x ∷ [], walked_on _ seen _ x _ reached c.in-Some.ensures.steps, last_kept (λ (v : CommandView). v.place) (λ (v : CommandView). IsEager v.cmd) seen x c.loop-command.last last (λ wrong. false≢true (sym c.if-is_eager.false ∙ c.is_eager.ensures.1 wrong)))

pub loop-command-preserved-then-is_eager : goal.loop-command-preserved-then-is_eager
loop-command-preserved-then-is_eager c =
    let are = c.into_iter-command-iterator.ensures.into_iter_gives ∙ c.commands-command-items.ensures.commands in
    let (seen, reached, last) = c.loop-command.invariant in
    let x = command_of c.in-Some.command in
    let all = walked _ seen _ x _ reached c.in-Some.ensures.steps in
    let rise = ordered_before (λ (v w : CommandView). v.place ≤ w.place) seen x _ (subst (Rising (λ (v : CommandView). v.place)) all (subst (Rising (λ (v : CommandView). v.place)) (sym are) (ordered_map (λ (v w : CommandView). v.place ≤ w.place) (command_at c.args.image.now) (commands_of c.args.image.now) (commands_rise c.args.image.now c.commands-command-items.ensures.opened)))) in
    (seen ++ x ∷ [], walked_on _ seen _ x _ reached c.in-Some.ensures.steps, last_more (λ (v : CommandView). v.place) (λ (v : CommandView). IsEager v.cmd) seen x c.loop-command.last last rise (c.is_eager.ensures.0 c.if-is_eager.true))

pub returns : goal.returns
returns c =
    let image = c.args.image.now in
    let are = c.into_iter-command-iterator.ensures.into_iter_gives ∙ c.commands-command-items.ensures.commands in
    let (seen, reached, last) = c.loop-command.invariant in
    let all = walked_all _ seen _ reached c.in-None.ensures.steps.0 in
    last_mapped (λ (v : CommandView). v.place) (λ (v : CommandView). IsEager v.cmd) (command_at image) (commands_of image) c.loop-command.last (subst (λ (xs : List CommandView). IsLastIn (λ (v : CommandView). v.place) (λ (v : CommandView). IsEager v.cmd) xs c.loop-command.last) (sym all ∙ are) last)
