-- What one walk over the elements of an image finds.
use Rattle.std.specs.Prelude.{◌≡◌, ℕ, min, List, map, Option, Some, None, ⊤}
use Rattle.macho_fields.specs.FirstPlace.{IsLeastPlace}
use Rattle.macho_fields.specs.declared.rule.Rule.TheVariants as rule
use Rattle.macho_strict.specs.Gaps.{IsStray}
use Rattle.macho_strict.specs.Passed.{AreCounted, occupied, IsByStart}
use Rattle.macho_strict.specs.Rules.{BreaksStrictImage}
use Rattle.macho_strict.specs.Verdict.{element_spans}
use Rattle.macho_strict.specs.declared.claims.Claims.{Claims}
use Rattle.macho_strict.specs.declared.claims.Noted.{Noted}
use Rattle.macho_strict.specs.declared.claims.Noted.TheVariants as noted
use Rattle.macho_strict.specs.declared.elements.Element.{Element}
use Rattle.macho_strict.specs.declared.gaps.Wanted.TheVariants as wanted

-- the lesser of two numbers, either of them possibly missing
abbrev pub least_option : Option ℕ → Option ℕ → Option ℕ
least_option (Some a) (Some b) = Some (min a b)
least_option (Some a) None = Some a
least_option None (Some b) = Some b
least_option None None = None

-- what was noted about the elements
abbrev pub AreNoted : List ℕ → List Element → Noted → Type 0
AreNoted image elements (noted.Listed list) =
    list.spans ≡ occupied (map (λ element. element.span) elements)
AreNoted image elements noted.Unlisted = ⊤
AreNoted image elements (noted.Passed counted) =
    AreCounted wanted.NonZero image (map (λ element. element.span) elements) counted

-- what is found of the elements of an image: where they break their rule, the least place of a byte that
-- is not zero and lies in none of them, and their order
pub record AreClaims (image : List ℕ) (claims : Claims) : Type 0 where
  pub broken : IsLeastPlace (BreaksStrictImage image rule.ElementOverlap) claims.broken
  pub loose : IsLeastPlace (IsStray wanted.NonZero image (element_spans image)) claims.loose
  pub by_start : IsByStart (element_spans image) claims.sorted
