use Rattle.std.proofs.Common.{◌≡◌, ◌∙◌, List, ℕ, IfSome, sym, ap, ap₂, subst}
use Rattle.std.proofs.lemmas.Bool.{and_parts, eqb-true}
use Rattle.macho_fields.specs.Bytes.{bytes_of}
use Rattle.macho_fields.specs.Field.{part}
use Rattle.macho_fat.specs.Slices.{slices_in}
use Rattle.macho_image.specs.Walk.{HasLandmarks}
use Rattle.macho_rules.specs.Verdict.{WasFound}
use Rattle.macho_rules.proofs.Verdicts.{unbroken_opened, verified_found}
use Rattle.macho_rules.proofs.verdict.Verified.reopen.Goals as goal

pub with_landmarks-requires : goal.with_landmarks-requires
with_landmarks-requires c =
    let file = bytes_of c.self.inside.file in
    let was = verified_found file (slices_in c.self.inside.slices) c.self.inside.found c.self.invariant in
    let found : WasFound file c.in-Some.found = subst (λ o. IfSome o (WasFound file)) c.in-Some.is was in
    let (starts, lens) = and_parts _ _ (sym c.if-eq.ensures) in
    let same : part c.in-Some.found.span.start c.in-Some.found.span.len file ≡ bytes_of c.args.bytes =
    ap₂ (λ start len. part start len file) (eqb-true c.in-Some.found.span.start c.args.span.start starts) (eqb-true c.in-Some.found.span.len c.args.span.len lens)
    ∙ (ap (part c.args.span.start c.args.span.len) c.self.view_is ∙ sym c.requires.bytes) in
    subst (λ (bytes : List ℕ). HasLandmarks bytes c.in-Some.found.landmarks) same found

pub reopen-requires : goal.reopen-requires
reopen-requires c = unbroken_opened (bytes_of c.args.bytes) c.requires.unbroken
