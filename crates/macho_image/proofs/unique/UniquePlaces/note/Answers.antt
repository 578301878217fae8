use Rattle.std.proofs.Common.{is_some, ap, refl, sym, ◌∙◌}
use Rattle.std.proofs.lemmas.Bool.{false≢true}
use Rattle.macho_image.proofs.FirstWithCmd.{index_is_unique, no_index_is_unique, first_kept, first_noted, second_noted, none_at, some_at}
use Rattle.macho_image.proofs.unique.UniquePlaces.note.Goals as goal

pub returns-in_default : goal.returns-in_default
returns-in_default c =
    let other = no_index_is_unique c.args.command.cmd (sym c.unique_index.ensures.index ∙ c.in_default.is) in record {
      first = λ image commands cmd after first. first_kept image commands c.args.self.now first c.args.command.cmd c.args.command.place other cmd after;
      second = λ image commands first. (λ h. absurd (false≢true h), λ (unique, some). absurd (other unique));
    }

pub returns-then-self-index-ne0-clause-first : goal.returns-then-self-index-ne0-clause-first
returns-then-self-index-ne0-clause-first c = λ image commands cmd after first.
    let is = sym c.unique_index.ensures.index ∙ c.in-Some.is in
    second_noted image commands c.args.self.now first c.args.command.cmd c.in-Some.index is c.args.command.place cmd after c.if-self-index-ne0.true

pub returns-then-self-index-ne0-clause-second : goal.returns-then-self-index-ne0-clause-second
returns-then-self-index-ne0-clause-second c = λ image commands first.
    let is = sym c.unique_index.ensures.index ∙ c.in-Some.is in
    let found = some_at image commands c.args.self.now first c.args.command.cmd c.in-Some.index is c.if-self-index-ne0.true in
    (λ h. (index_is_unique c.args.command.cmd c.in-Some.index is, ap is_some found), λ both. refl)

pub returns-clause-first : goal.returns-clause-first
returns-clause-first c = λ image commands cmd after first.
    let is = sym c.unique_index.ensures.index ∙ c.in-Some.is in
    first_noted image commands c.args.self.now first c.args.command.cmd c.in-Some.index is c.args.command.place cmd after c.if-self-index-ne0.false

pub returns-clause-second : goal.returns-clause-second
returns-clause-second c = λ image commands first.
    let is = sym c.unique_index.ensures.index ∙ c.in-Some.is in
    let none = none_at image commands c.args.self.now first c.args.command.cmd c.in-Some.index is c.if-self-index-ne0.false in
    (λ h. absurd (false≢true h), λ (unique, some). absurd (false≢true (sym (ap is_some none) ∙ some)))
