use Rattle.std.proofs.Common.{◌≡◌, ◌∙◌, ℕ, None, Option, Some, ap, subst, sym}
use Rattle.std.specs.Prelude.{MatchOption}
use Rattle.macho_fields.specs.Bytes.{bytes_of}
use Rattle.macho_fields.specs.Image.{command_cmd}
use Rattle.macho_explain.specs.Explain.{platform_shown}
use Rattle.macho_explain.specs.Readers.{IsOfSameKind}
use Rattle.macho_explain.specs.declared.walk.Sought.TheVariants as sought
use Rattle.macho_explain.proofs.Sought.{no_earlier}
use Rattle.macho_explain.proofs.command.command_once.Goals as goal

pub returns-in_err-repeated : goal.returns-in_err-repeated
returns-in_err-repeated c =
    let image = bytes_of c.args.sliced.now.held.bytes in
    let place = c.args.sliced.now.place in
    let walked = c.in_ok-at.walked in
    let is = c.in_ok-at.ensures.1 in
    let cmd : walked.load.cmd ≡ command_cmd image place = is.load.cmd ∙ ap (command_cmd image) is.meets in
    let none : platform_shown image place ≡ None = ap (platform_shown image) (sym is.meets) ∙ (sym c.platform_of.ensures ∙ c.in_default.is) in
    rw c.from_residual-in_err-repeated.ensures (no_earlier image place (sought.First walked.load.cmd) (IsOfSameKind image place) walked is
    (λ other same. subst (λ (o : Option ℕ). MatchOption o (command_cmd image other ≡ command_cmd image place) (λ platform. platform_shown image other ≡ Some platform)) none same ∙ sym cmd) c.in_err-repeated.ensures.none)

pub returns-in_err-repeated-2 : goal.returns-in_err-repeated-2
returns-in_err-repeated-2 c =
    let image = bytes_of c.args.sliced.now.held.bytes in
    let place = c.args.sliced.now.place in
    let walked = c.in_ok-at.walked in
    let is = c.in_ok-at.ensures.1 in
    let platform = c.in-Some.platform in
    let some : platform_shown image place ≡ Some platform = ap (platform_shown image) (sym is.meets) ∙ (sym c.platform_of.ensures ∙ c.in-Some.is) in
    rw c.from_residual-in_err-repeated-2.ensures (no_earlier image place (sought.OfPlatform platform) (IsOfSameKind image place) walked is
    (λ other same. subst (λ (o : Option ℕ). MatchOption o (command_cmd image other ≡ command_cmd image place) (λ p. platform_shown image other ≡ Some p)) some same) c.in_err-repeated-2.ensures.none)
