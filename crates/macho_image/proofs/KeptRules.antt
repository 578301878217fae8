-- What holds of an image where the rules up to some rank are unbroken, and how a rule goes on.
use Rattle.std.proofs.Common.{◌≡◌, ℕ, ◌+◌, ◌≤◌, ◌<◌, List, length, Contains, None, Option, refl, arith, subst, inl, inr, ⊎_elim}
use Rattle.std.proofs.lemmas.Bool.{cases_lt}
use Rattle.macho_fields.specs.Image.{commands_end, commands_of, AreCommands}
use Rattle.macho_fields.specs.Command.{IsShort}
use Rattle.macho_fields.specs.Rules.{BreaksHeader, BreaksCommands, BreaksImage}
use Rattle.macho_fields.specs.First.{rank}
use Rattle.macho_fields.specs.Layers.{KeptBelow, IsLeast}
use Rattle.macho_fields.specs.declared.rule.Rule.TheVariants as rule
use Rattle.macho_fields.specs.declared.rule.Rule.{Rule}
use Rattle.macho_fields.specs.declared.rule.Break.{Break}
use Rattle.macho_fields.proofs.Chains.{commands_unique, counted_off}
use Rattle.macho_fields.proofs.Layers.{kept_more, least_at}
use Rattle.macho_fields.proofs.Parts.{commands_exist}
use Rattle.macho_fields.proofs.Ranks.{image_alone, image_rule_rank}

module _ (image : List ℕ) (arch : Option (ℕ × ℕ)) where
  -- the rules before the rank are unbroken
  abbrev pub Kept : ℕ → Type 0
  Kept n = KeptBelow (BreaksImage image arch) n

  -- no image breaks a rule of the file
  pub kept_none : Kept (rank rule.HeaderTruncated)
  kept_none r place less broken = let late = image_rule_rank image arch r place broken in absurd (omega arith)

  -- an earlier rank
  pub kept_less : (m n : ℕ) → m ≤ n → Kept n → Kept m
  kept_less m n most below r place before = below r place (omega arith)

  pub has_header : (n : ℕ) → rank rule.HeaderTruncated < n → Kept n → 32 ≤ length image
  has_header n late below = elim (cases_lt (length image) 32) [ inl short ↦ absurd (below rule.HeaderTruncated 0 (omega arith) (inl (refl, short))) | inr most ↦ most ]

  pub commands_inside : (n : ℕ) → rank rule.CommandsOutside < n → Kept n → commands_end image ≤ length image
  commands_inside n late below = elim (cases_lt (length image) (commands_end image)) [ inl short ↦ absurd (below rule.CommandsOutside 20 (omega arith) (inl (refl, short))) | inr most ↦ most ]

  pub has_commands : (n : ℕ) → rank rule.CommandWalk < n → Kept n → AreCommands image (commands_of image)
  has_commands n late below =
      let (commands, are) = commands_exist image arch (λ place broken. below rule.CommandWalk place (omega arith) (inl broken)) in
      subst (AreCommands image) (counted_off image commands are) are

  pub none_short : (n : ℕ) → rank rule.CommandShort < n → Kept n → (command : ℕ) → Contains (commands_of image) command → ¬ IsShort image command
  none_short n late below command has short = below rule.CommandShort command (omega arith) (inr (commands_of image, has_commands n (omega arith) below, (has, short)))

  -- what is unbroken for an architecture is unbroken where none is compared
  pub kept_alone : (n : ℕ) → Kept n → KeptBelow (BreaksImage image None) n
  kept_alone n below r place less broken = below r place less (image_alone image arch r place broken)

  -- a rule that no command breaks is broken where the header breaks it
  module _ (r : Rule) (never : (commands : List ℕ) (place : ℕ) → ¬ BreaksCommands image commands r place) (below : Kept (rank r)) where
    pub header_kept : ((place : ℕ) → ¬ BreaksHeader image arch r place) → Kept (rank r + 1)
    header_kept none = kept_more (BreaksImage image arch) r below (λ place broken. ⊎_elim (none place) (λ h. never h.0 place h.2) broken)

    pub header_broken : (b : Break) → b.rule ≡ r → BreaksHeader image arch r b.place → ((place : ℕ) → BreaksHeader image arch r place → b.place ≤ place) → IsLeast (BreaksImage image arch) b
    header_broken b is here least = least_at (BreaksImage image arch) r b below (is, inl here, λ place broken. ⊎_elim (least place) (λ h. absurd (never h.0 place h.2)) broken)

  -- a rule that no header breaks is broken where the commands break it
  module _ (r : Rule) (never : (place : ℕ) → ¬ BreaksHeader image arch r place) (late : rank rule.CommandWalk < rank r) (below : Kept (rank r)) where
    of_commands : (place : ℕ) → BreaksImage image arch r place → BreaksCommands image (commands_of image) r place
    of_commands place (inl h) = absurd (never place h)
    of_commands place (inr h) = subst (λ others. BreaksCommands image others r place) (commands_unique image h.0 (commands_of image) h.1 (has_commands (rank r) late below)) h.2

    pub commands_kept : ((place : ℕ) → ¬ BreaksCommands image (commands_of image) r place) → Kept (rank r + 1)
    commands_kept none = kept_more (BreaksImage image arch) r below (λ place broken. none place (of_commands place broken))

    pub commands_broken : (b : Break) → b.rule ≡ r → BreaksCommands image (commands_of image) r b.place
        → ((place : ℕ) → BreaksCommands image (commands_of image) r place → b.place ≤ place) → IsLeast (BreaksImage image arch) b
    commands_broken b is here least =
        least_at (BreaksImage image arch) r b below (is, inr (commands_of image, has_commands (rank r) late below, here), λ place broken. least place (of_commands place broken))
