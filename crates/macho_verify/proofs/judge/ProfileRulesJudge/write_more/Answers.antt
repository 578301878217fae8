use Rattle.std.proofs.Common.{◌≡◌, [], ap, inl, inr}
use Rattle.macho_text.proofs.Holding.{holds_nothing}
use Rattle.macho_verify.specs.Judge.{said_by}
use Rattle.macho_verify.proofs.judge.ProfileRulesJudge.write_more.Goals as goal

pub returns-in-Layout : goal.returns-in-Layout
returns-in-Layout g c =
    let none : said_by c.args.self.now.profile c.args.image.now ≡ [] = elim c.in-Layout.is [
      | inl layout ↦ ap (λ profile. said_by profile c.args.image.now) layout
      | inr (inl strict) ↦ ap (λ profile. said_by profile c.args.image.now) strict
      | inr (inr (inl linked)) ↦ ap (λ profile. said_by profile c.args.image.now) linked
      | inr (inr (inr unambiguous)) ↦ ap (λ profile. said_by profile c.args.image.now) unambiguous
    ] in
    holds_nothing none
