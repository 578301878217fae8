use Rattle.std.proofs.Common.{◌≡◌, List, ℕ, refl, subst, arith}
use Rattle.std.proofs.lemmas.Bool.{both_ways}
use Rattle.macho_fields.specs.Universal.{IsImage, entry_count, slice_bytes}
use Rattle.macho_fields.specs.Rules.{BreaksFile}
use Rattle.macho_fields.specs.declared.rule.Rule.TheVariants as rule
use Rattle.macho_fields.proofs.Layers.{kept_more, least_at}
use Rattle.macho_fields.proofs.Magics.{empty_broken}
use Rattle.macho_fields.proofs.Slices.{each_entry}
use Rattle.macho_fat.specs.TableWalk.{AreMagics}
use Rattle.macho_fat.proofs.rules.Magics.fat_empty.Goals as goal

pub returns-then-self : goal.returns-then-self
returns-then-self c =
    let file = c.args.self.now in
    let known = subst (λ (file : List ℕ). AreMagics file c.self.inside.foreign c.self.inside.has_image) c.self.view_is c.self.invariant in
    let (k, less, read) = known.image.0 c.if-self.true in
    kept_more (BreaksFile file) rule.FatEmpty c.requires (λ place broken. each_entry file (λ slice. ¬ IsImage (slice_bytes file slice)) known.universal broken.2 k less read)

pub returns-else-self : goal.returns-else-self
returns-else-self c =
    let file = c.args.self.now in
    let known = subst (λ (file : List ℕ). AreMagics file c.self.inside.foreign c.self.inside.has_image) c.self.view_is c.self.invariant in
    let broken = empty_broken file (entry_count file) c.at.result.place c.at.ensures.place refl known.universal
    (λ k less read. both_ways c.self.inside.has_image c.if-self.false (known.image.1 (k, less, read))) in
    least_at (BreaksFile file) rule.FatEmpty c.at.result c.requires (c.at.ensures.rule, broken, λ place other. let same : place ≡ 4 = other.0 in omega (arith, same, c.at.ensures.place))
