use Rattle.std.proofs.Common.{◌≡◌, ℕ, None, Some, Any, Bool, true, false, IsTrue, ◌↔◌, List, refl, sym, ◌∙◌, subst, arith}
use Rattle.std.proofs.lemmas.Bool.{true≢false}
use Rattle.macho_fields.specs.FirstPlace.{IsLeastPlace}
use Rattle.macho_fields.specs.declared.rule.Rule.TheVariants as rule
use Rattle.macho_fields.proofs.FirstPlaces.{first_judged}
use Rattle.macho_strict.specs.Rules.{BreaksStrictImage, HoldsHeaders, all_segments}
use Rattle.macho_strict.proofs.segments.header_segment.Goals as goal
use Rattle.macho_strict.proofs.segments.header_segment.Goals.{then-some_has_headers, else-some_has_headers}

module _ (image : List ℕ) (has : Bool) (found : IsTrue has ↔ Any (HoldsHeaders image) (all_segments image)) where
  with_headers : has ≡ true → IsLeastPlace (BreaksStrictImage image rule.HeaderSegment) None
  with_headers is = λ place (at, none). none (found.0 is)

  without_headers : has ≡ false → IsLeastPlace (BreaksStrictImage image rule.HeaderSegment) (Some 20)
  without_headers unset = ((refl, λ some. true≢false (sym (found.1 some) ∙ unset)), λ place (at, none). omega (arith, at))

pub returns : goal.returns
returns c =
    let image = c.args.image.now in
    let found = c.some_has_headers.ensures in
    let least : IsLeastPlace (BreaksStrictImage image rule.HeaderSegment) c.if-some_has_headers.broken = elim c.if-some_has_headers.branch [
      | then-some_has_headers w ↦ subst (IsLeastPlace (BreaksStrictImage image rule.HeaderSegment)) (sym w.broken-is) (with_headers image c.some_has_headers.result found w.if-some_has_headers.true)
      | else-some_has_headers w ↦ subst (IsLeastPlace (BreaksStrictImage image rule.HeaderSegment)) (sym w.broken-is) (without_headers image c.some_has_headers.result found w.if-some_has_headers.false)
    ] in
    first_judged (BreaksStrictImage image) rule.HeaderSegment c.if-some_has_headers.broken c.judge.result c.requires least c.judge.ensures
