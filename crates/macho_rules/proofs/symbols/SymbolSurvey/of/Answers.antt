use Rattle.std.proofs.Common.{◌++◌, [], ◌∷◌, List, ℕ, None, sym, ◌∙◌, subst, lit≤, lit<}
use Rattle.macho_fields.specs.FirstPlace.{IsLeastPlace}
use Rattle.macho_fields.specs.Rules.{BreaksImage}
use Rattle.macho_fields.specs.declared.rule.Rule.TheVariants as rule
use Rattle.macho_rules.specs.Survey.{BeginsPast, LacksSection}
use Rattle.macho_rules.proofs.Judged.{keeps_opened, least_place}
use Rattle.macho_rules.proofs.Surveys.{walked, walked_on, walked_all, rising_end_by, noted_as, first_noted}
use Rattle.macho_rules.proofs.SymbolItems.{symbols_search, limit_breaks, numbers_break}
use Rattle.macho_rules.proofs.symbols.SymbolSurvey.of.Goals as goal

pub loop-symbol-preserved : goal.loop-symbol-preserved
loop-symbol-preserved c =
    let are = c.into_iter-symbol-iterator.ensures.into_iter_gives ∙ c.symbols-symbol-items.ensures in
    let (seen, reached, names, sections) = c.loop-symbol.invariant.2 in
    let s = c.in-Some.symbol in
    let here = walked _ seen _ s _ reached c.in-Some.ensures.steps in
    let after = rising_end_by _ _ seen s _ here (symbols_search c.args.image.now _ are (BeginsPast c.name_limit-limit.result)).rising in (
      tt,
      tt,
      (
        seen ++ s ∷ [],
        walked_on _ seen _ s _ reached c.in-Some.ensures.steps,
        first_noted _ (BeginsPast c.name_limit-limit.result) seen s _ _ after (noted_as c.has_endless_name.result c.has_endless_name.ensures s.place _ _ c.note_if.ensures) names,
        first_noted _ (LacksSection c.args.sections) seen s _ _ after (noted_as c.is_in_no_section.result c.is_in_no_section.ensures s.place _ _ c.note_if-in-loop-symbol.ensures) sections,
      ),
    )

pub invariant_of-result : goal.invariant_of-result
invariant_of-result c =
    let image = c.args.image.now in
    let opened = keeps_opened image rule.SymbolName (lit≤ tt) c.requires.kept in
    let (seen, reached, names, sections) = c.loop-symbol.invariant.2 in
    let are = sym (walked_all _ seen _ reached c.in-None.ensures.steps.0) ∙ (c.into_iter-symbol-iterator.ensures.into_iter_gives ∙ c.symbols-symbol-items.ensures) in
    subst (λ (bytes : List ℕ). IsLeastPlace (BreaksImage bytes None rule.SymbolName) c.loop-symbol.name × IsLeastPlace (BreaksImage bytes None rule.SymbolSection) c.loop-symbol.section) (sym c.bytes.ensures.bytes) (
      least_place image opened rule.SymbolName (lit≤ tt) _ _ seen (limit_breaks image seen are rule.SymbolName (lit< tt) c.requires.kept c.name_limit-limit.result c.name_limit-limit.ensures)
          c.loop-symbol.name names,
      least_place image opened rule.SymbolSection (lit≤ tt) _ _ seen (numbers_break image seen are rule.SymbolName (lit< tt) c.requires.kept c.args.sections c.requires.sections)
          c.loop-symbol.section sections,
    )
