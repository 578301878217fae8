use Rattle.std.proofs.Common.{◌≡◌, ◌∙◌, All, List, ℕ, map, sym, ap, subst}
use Rattle.macho_fields.specs.Image.{commands_of}
use Rattle.macho_image.specs.Symbol.{indirects_of}
use Rattle.macho_image.specs.declared.indirect.Indirect.{Indirect}
use Rattle.macho_verified.specs.Image.{indirect_view}
use Rattle.macho_verified.specs.Accepted.{IsAccepted, IsVerifiedIndirect}
use Rattle.macho_verified.proofs.Counted.{indirects_hold, indirects_whole, indirect_views_of}
use Rattle.macho_verified.proofs.image.VerifiedImage.indirects.Goals as goal

pub invariant_of-result : goal.invariant_of-result
invariant_of-result c =
    subst (λ (i : List ℕ). All (IsVerifiedIndirect i) c.indirects-entries.result) c.self.view_is
    (subst (All (IsVerifiedIndirect c.self.inside.image)) (sym c.indirects-entries.ensures) (indirects_hold c.self.inside.image c.self.invariant))

pub returns-clause-indirects : goal.returns-clause-indirects
returns-clause-indirects c =
    let image = c.self.inside.image in
    subst (λ (i : List ℕ). map (λ (entry : Indirect). indirect_view i entry.place) c.indirects-entries.result ≡ map (indirect_view i) (indirects_of i (commands_of i))) c.self.view_is
    (ap (map (λ (entry : Indirect). indirect_view image entry.place)) c.indirects-entries.ensures ∙ indirect_views_of image (indirects_of image (commands_of image)))

pub returns-clause-whole : goal.returns-clause-whole
returns-clause-whole c = indirects_whole c.args.self.now (subst IsAccepted c.self.view_is c.self.invariant) _ (returns-clause-indirects c)
