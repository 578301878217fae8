-- An image that is opened, or not.
use Rattle.std.proofs.Common.{◌≡◌, ◌∙◌, ℕ, List, Option, None, Result, Ok, Err, sym, subst}
use Rattle.std.specs.Prelude.{IfOk, MatchOption}
use Rattle.std.specs.Result.{result_ok}
use Rattle.macho_fields.specs.Layers.{Continues, StopsAt}
use Rattle.macho_fields.specs.Rules.{BreaksImage}
use Rattle.macho_fields.specs.declared.rule.Break.{Break}
use Rattle.macho_fields.specs.declared.rule.Rule.TheVariants as rule
use Rattle.macho_rows.specs.Rows.{IsBrokenImage, HasUnbrokenHeaders}

-- Image::open refuses only what breaks a rule of the headers, and opens only what breaks none
pub opened : (bytes file : List ℕ) (answer : Result (List ℕ) Break) (image : Option (List ℕ)) → bytes ≡ file → image ≡ result_ok answer → Continues (BreaksImage bytes None) rule.Name answer → StopsAt rule.Name answer → IfOk answer (λ held. held ≡ bytes)
    → MatchOption image (IsBrokenImage file None) (λ held. HasUnbrokenHeaders file None × (held ≡ file))
opened bytes file (Ok held) image same is decides stops holds =
    subst (λ o. MatchOption o (IsBrokenImage file None) (λ held. HasUnbrokenHeaders file None × (held ≡ file))) (sym is) (subst (λ b. HasUnbrokenHeaders b None) same decides, holds ∙ same)
opened bytes file (Err b) image same is decides stops holds =
    subst (λ o. MatchOption o (IsBrokenImage file None) (λ held. HasUnbrokenHeaders file None × (held ≡ file))) (sym is) (subst (λ b. IsBrokenImage b None) same (b.rule, b.place, stops, decides.0))
