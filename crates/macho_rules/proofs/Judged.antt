-- A rule of an opened image that a search decides, where the rules before it are unbroken.
use Rattle.std.proofs.Common.{◌≡◌, ℕ, ◌+◌, ◌≤◌, List, [], ◌∷◌, Option, None, Some, Result, subst, sym, arith, inl, inr}
use Rattle.macho_fields.specs.Image.{commands_of}
use Rattle.macho_fields.specs.Rules.{BreaksCommands, BreaksImage}
use Rattle.macho_fields.specs.First.{rank}
use Rattle.macho_fields.specs.Layers.{KeptBelow, IsLeast}
use Rattle.macho_fields.specs.declared.rule.Rule.{Rule}
use Rattle.macho_fields.specs.declared.rule.Rule.TheVariants as rule
use Rattle.macho_fields.specs.declared.rule.Break.{Break}
use Rattle.macho_fields.proofs.Chains.{counted_off}
use Rattle.macho_fields.proofs.Layers.{kept_more, least_at}
use Rattle.macho_fields.proofs.Ranks.{header_rule_rank}
use Rattle.macho_image.specs.Opened.{IsOpened}
use Rattle.macho_image.proofs.Opened.{may_open}
pub use Rattle.macho_image.proofs.Opened.{opened_keeps as opened_facts, opened_below as opened_keeps}
pub use Rattle.macho_image.proofs.OpenedWalk.{opened_commands}
use Rattle.macho_rules.specs.Check.{KeptBefore, JudgesUpTo, AnswersAt}
use Rattle.macho_fields.specs.FirstPlace.{IsFirstOf, IsLeastPlace}
use Rattle.macho_fields.proofs.FirstPlaces.{AreBreaks, first_breaks, first_judged}
use Rattle.macho_rules.proofs.Searches.{Searching, search_found, search_ended}

-- only an opened image keeps the rules before the rules of segments
pub keeps_opened : (image : List ℕ) (r : Rule) → rank rule.SegmentAddress ≤ rank r → KeptBefore image r → IsOpened image
keeps_opened image r late below = may_open image (λ other place early broken. below other place (omega (arith, late)) broken)

-- a rule that is broken past the walk is broken by the commands
pub by_commands : (image : List ℕ) (r : Rule) (place : ℕ) → rank rule.SegmentAddress ≤ rank r → BreaksImage image None r place → BreaksCommands image (commands_of image) r place
by_commands image r place late (inl header) = let early = header_rule_rank image None r place header in absurd (omega (arith, late))
by_commands image r place late (inr (commands, are, broken)) = subst (λ cs. BreaksCommands image cs r place) (counted_off image commands are) broken

module _ (image : List ℕ) (r : Rule) (late : rank rule.SegmentAddress ≤ rank r) (below : KeptBefore image r) where
  of_commands : (place : ℕ) → BreaksCommands image (commands_of image) r place → BreaksImage image None r place
  of_commands place broken = inr (commands_of image, opened_commands image (keeps_opened image r late below), broken)

  -- a least break of the commands is the first of all
  pub judged_broken : (b : Break) (place : ℕ) → b.rule ≡ r → b.place ≡ place → BreaksCommands image (commands_of image) r place
      → ((p : ℕ) → BreaksCommands image (commands_of image) r p → place ≤ p) → IsLeast (BreaksImage image None) b
  judged_broken b place named at here least =
      least_at (BreaksImage image None) r b below
      (named, subst (BreaksImage image None r) (sym at) (of_commands place here), λ p broken. let low = least p (by_commands image r p late broken) in omega (arith, at, low))

  pub judged_kept : ((p : ℕ) → ¬ BreaksCommands image (commands_of image) r p) → KeptBelow (BreaksImage image None) (rank r + 1)
  judged_kept none = kept_more (BreaksImage image None) r below (λ p broken. none p (by_commands image r p late broken))

  module _ {X : Type 0} (place : X → ℕ) (P : X → Type 0) (all : List X) (breaking : AreBreaks (BreaksCommands image (commands_of image) r) place P all) (left : List X)
      (search : Searching place P all left) where
    -- the first item that breaks the rule
    pub judged_found : (x : X) (rest : List X) → left ≡ x ∷ rest → P x → (b : Break) → b.rule ≡ r → b.place ≡ place x → IsLeast (BreaksImage image None) b
    judged_found x rest is here b named at =
        let (broken, least) = search_found (BreaksCommands image (commands_of image) r) place P all left rest x is breaking search here in
        judged_broken b (place x) named at broken least

    -- where no item is left, the rule is kept
    pub judged_ended : left ≡ [] → KeptBelow (BreaksImage image None) (rank r + 1)
    judged_ended is = judged_kept (search_ended (BreaksCommands image (commands_of image) r) place P all left is breaking search)

-- of an opened image, the first item that breaks the rule has its least place
pub least_place : {X : Type 0} (image : List ℕ) (opened : IsOpened image) (r : Rule) (late : rank rule.SegmentAddress ≤ rank r) (place : X → ℕ) (P : X → Type 0) (all : List X)
    → AreBreaks (BreaksCommands image (commands_of image) r) place P all → (found : Option ℕ) → IsFirstOf place P all found → IsLeastPlace (BreaksImage image None r) found
least_place image opened r late place P all breaking None first =
    let none = first_breaks (BreaksCommands image (commands_of image) r) place P all None breaking first in λ p broken. none p (by_commands image r p late broken)
least_place image opened r late place P all breaking (Some found) first =
    let (broken, least) = first_breaks (BreaksCommands image (commands_of image) r) place P all (Some found) breaking first in
    (inr (commands_of image, opened_commands image opened, broken), λ p other. least p (by_commands image r p late other))

-- what a survey answers of a rule, where it is of the image
pub judged_first : {T : Type 0} (surveyed image : List ℕ) → surveyed ≡ image → (r : Rule) → KeptBefore image r → (found : Option ℕ) → IsLeastPlace (BreaksImage surveyed None r) found → (answer : Result T Break)
    → AnswersAt r found answer → JudgesUpTo image r answer
judged_first surveyed image same r below found least answer is =
    first_judged (BreaksImage image None) r found answer below (subst (λ (bytes : List ℕ). IsLeastPlace (BreaksImage bytes None r) found) same least) is
