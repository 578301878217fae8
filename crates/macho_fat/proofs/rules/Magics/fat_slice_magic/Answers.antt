use Rattle.std.proofs.Common.{List, ℕ, sym, subst}
use Rattle.macho_fields.specs.FirstPlace.{IsLeastPlace}
use Rattle.macho_fields.specs.Rules.{BreaksFile}
use Rattle.macho_fields.specs.declared.rule.Rule.TheVariants as rule
use Rattle.macho_fields.proofs.FirstPlaces.{first_judged}
use Rattle.macho_fat.specs.TableWalk.{AreMagics}
use Rattle.macho_fat.proofs.rules.Magics.fat_slice_magic.Goals as goal

pub returns : goal.returns
returns c =
    let file = c.args.self.now in
    let known = subst (λ (file : List ℕ). AreMagics file c.self.inside.foreign c.self.inside.has_image) c.self.view_is c.self.invariant in
    first_judged (BreaksFile file) rule.FatSliceMagic c.of.result c.judge.result c.requires
    (subst (IsLeastPlace (BreaksFile file rule.FatSliceMagic)) (sym c.of.ensures) known.least) c.judge.ensures
