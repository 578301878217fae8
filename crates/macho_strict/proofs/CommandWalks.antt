-- What was noted of the load commands of an image that were passed.
use Rattle.std.proofs.Common.{◌≡◌, ℕ, ◌+◌, List, [], ◌∷◌, ◌++◌, ◌≤◌, length, map, false, All, Option, None, Some, MatchOption, sym, ap, ◌∙◌, subst, inl, inr, arith}
use Rattle.std.specs.Prelude.{IsTrue}
use Rattle.std.proofs.lemmas.Bool.{cases_Bool, false≢true}
use Rattle.std.proofs.lemmas.List.{append-nil, append_assoc}
use Rattle.macho_fields.specs.FirstPlace.{IsLeastPlace}
use Rattle.macho_fields.specs.Image.{commands_of}
use Rattle.macho_fields.specs.declared.rule.Rule.TheVariants as rule
use Rattle.macho_image.specs.Command.{CommandView, command_at}
use Rattle.macho_image.specs.Opened.{IsOpened, IsCommandOf}
use Rattle.macho_fields.proofs.Opened.{command_inside}
use Rattle.macho_image.proofs.Opened.{opened_keeps}
use Rattle.macho_image.proofs.OpenedWalk.{opened_commands}
use Rattle.macho_image.proofs.WithOneCmd.{first_has, rest_has}
use Rattle.macho_rules.proofs.Searches.{Searching, search_next, none_left}
use Rattle.macho_strict.specs.Claims.{AreNoted}
use Rattle.macho_strict.specs.Commands.{NotesOne, IsNotedOf}
use Rattle.macho_strict.specs.Elements.{headers, command_elements, elements_of}
use Rattle.macho_strict.specs.ElementWalk.{elements_left}
use Rattle.macho_strict.specs.Encrypted.{IsEncrypted}
use Rattle.macho_strict.specs.Rules.{BreaksStrictImage}
use Rattle.macho_strict.specs.Slack.{IsNonZeroSlack}
use Rattle.macho_strict.specs.Verdict.{HasEncrypted}
use Rattle.macho_strict.specs.declared.claims.Noted.{Noted}
use Rattle.macho_strict.specs.declared.commands.NotedCommands.{NotedCommands}
use Rattle.macho_strict.specs.declared.elements.Element.{Element}
use Rattle.macho_strict.proofs.CommandsEnd.{AreLeft, all_left, left_after, ends}
use Rattle.macho_strict.proofs.ElementWalks.{elements_begun, commands_of_image}
use Rattle.macho_strict.proofs.Encryptions.{commands_search, some_encrypted, of_encrypted}
use Rattle.macho_strict.proofs.Slacks.{HasSlack, slack_search, slack_found, slack_ended}

-- the elements that were passed, and that they are noted
pub record AreSeen (image : List ℕ) (left : List CommandView) (noted : Noted) : Type 0 where
  pub seen : List Element
  pub all : seen ++ elements_left image left ≡ elements_of image
  pub are : AreNoted image seen noted

-- what is noted of an image's commands, while these are left
pub record AreNotedTo (image : List ℕ) (all left : List CommandView) (noted : NotedCommands) : Type 0 where
  pub listed : All (IsCommandOf image) left
  pub end : AreLeft image noted.end left
  pub slack : MatchOption noted.slack (Searching (λ v. v.place) (HasSlack image) all left) (λ place. IsLeastPlace (BreaksStrictImage image rule.CommandSlack) (Some place))
  pub encrypted : IsTrue noted.encrypted → HasEncrypted image
  pub search : ¬ IsTrue noted.encrypted → Searching (λ v. v.place) (IsEncrypted image) all left
  pub elements : AreSeen image left noted.elements

module _ (image : List ℕ) (opened : IsOpened image) (all : List CommandView) (are : all ≡ map (command_at image) (commands_of image)) where
  -- none was passed
  pub none_noted : (noted : NotedCommands) → noted.end ≡ 32 → noted.slack ≡ None → noted.encrypted ≡ false → AreNoted image (headers image ∷ []) noted.elements → AreNotedTo image all all noted
  none_noted noted end slack encrypted elements = record {
    listed = commands_of_image image all opened are;
    end = subst (λ (n : ℕ). AreLeft image n all) (sym end) (all_left image all are);
    slack = rw slack (slack_search image opened all are (HasSlack image));
    encrypted = λ is. absurd (false≢true (sym encrypted ∙ is));
    search = λ not. commands_search image all opened are (IsEncrypted image);
    elements = record {
      seen = headers image ∷ [];
      all = elements_begun image all are;
      are = elements;
    };
  }

  module _ (left rest : List CommandView) (x : CommandView) (is : left ≡ x ∷ rest) (old new : NotedCommands) (noted : AreNotedTo image all left old) where
    pub is_listed : IsCommandOf image x
    is_listed = first_has (IsCommandOf image) left rest x is noted.listed

    module _ (one : NotesOne image x old new) where
      slack_more : (o n : Option ℕ) → MatchOption o (Searching (λ v. v.place) (HasSlack image) all left) (λ place. IsLeastPlace (BreaksStrictImage image rule.CommandSlack) (Some place))
          → MatchOption o (IsLeastPlace (IsNonZeroSlack image x.place) n) (λ place. n ≡ Some place)
          → MatchOption n (Searching (λ v. v.place) (HasSlack image) all rest) (λ place. IsLeastPlace (BreaksStrictImage image rule.CommandSlack) (Some place))
      slack_more (Some place) n held same = rw same held
      slack_more None (Some place) search least = slack_found image opened all are left rest x is search place least
      slack_more None None search none = search_next (λ v. v.place) (HasSlack image) all left rest x is search (λ (p, slack). none p slack)

      encrypted_more : IsTrue new.encrypted → HasEncrypted image
      encrypted_more now = elim (one.encrypted.0 now) [ inl before ↦ noted.encrypted before | inr here ↦ some_encrypted image all opened are x is_listed here ]

      seen_more : AreSeen image left old.elements → AreSeen image rest new.elements
      seen_more before = record {
        seen = before.seen ++ command_elements image x.place;
        all = append_assoc before.seen (command_elements image x.place) (elements_left image rest) ∙ (ap (λ more. before.seen ++ elements_left image more) (sym is) ∙ before.all);
        are = one.elements before.seen before.are;
      }

      pub one_noted : AreNotedTo image all rest new
      one_noted = record {
        listed = rest_has (IsCommandOf image) left rest x is noted.listed;
        end = subst (λ (n : ℕ). AreLeft image n rest) (sym one.end) (left_after image old.end left noted.end x rest is);
        slack = slack_more old.slack new.slack noted.slack one.slack;
        encrypted = encrypted_more;
        search = λ not. search_next (λ v. v.place) (IsEncrypted image) all left rest x is (noted.search (λ before. not (one.encrypted.1 (inl before)))) (λ here. not (one.encrypted.1 (inr here)));
        elements = seen_more noted.elements;
      }

  module _ (left : List CommandView) (is : left ≡ []) (noted : NotedCommands) (to : AreNotedTo image all left noted) where
    slack_all : (o : Option ℕ) → MatchOption o (Searching (λ v. v.place) (HasSlack image) all left) (λ place. IsLeastPlace (BreaksStrictImage image rule.CommandSlack) (Some place)) → IsLeastPlace (BreaksStrictImage image rule.CommandSlack) o
    slack_all None search = slack_ended image opened all are left is search
    slack_all (Some place) least = least

    encrypted_all : HasEncrypted image → IsTrue noted.encrypted
    encrypted_all has = elim (cases_Bool noted.encrypted) [
      | inl it ↦ it
      | inr not ↦
          let (v, among, here) = of_encrypted image all opened are has in
          absurd (none_left (λ w. w.place) (IsEncrypted image) all left is (to.search (λ it. false≢true (sym not ∙ it))) v among here)
    ]

    elements_all : AreSeen image left noted.elements → AreNoted image (elements_of image) noted.elements
    elements_all seen =
        subst (λ (es : List Element). AreNoted image es noted.elements)
        (sym (append-nil seen.seen) ∙ (ap (λ more. seen.seen ++ elements_left image more) (sym is) ∙ seen.all)) seen.are

    -- all were passed
    pub all_noted : IsNotedOf image noted
    all_noted = record {
      opened = opened;
      end = ends image noted.end left to.end is (opened_commands image opened);
      slack = slack_all noted.slack to.slack;
      encrypted = (to.encrypted, encrypted_all);
      elements = elements_all to.elements;
    }

-- a command of an image ends inside it
pub ends_inside : (image : List ℕ) (command : CommandView) → IsCommandOf image command → command.place + command.size ≤ length image
ends_inside image command of =
    let inside = command_inside image (commands_of image) (opened_keeps image of.opened) (opened_commands image of.opened) command.place of.listed in
    omega (arith, inside, sym (ap (λ (v : CommandView). v.size) of.same))
