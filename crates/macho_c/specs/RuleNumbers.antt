-- The rules by number.
use Rattle.std.specs.Prelude.{◌≡◌, ℕ, List}
use Rattle.macho_fields.specs.RuleList.{rule_number, name_of, profile_of, profile_number}
use Rattle.macho_fields.specs.declared.rule.Rule.{Rule}

-- the rule with this number has this name
abbrev pub IsNumbered : ℕ → List ℕ → Type 0
IsNumbered n name = (r : Rule) × (n ≡ rule_number r) × (name ≡ name_of r)

-- no rule has this number
abbrev pub IsNoNumber : ℕ → Type 0
IsNoNumber n = (r : Rule) → ¬ (n ≡ rule_number r)

-- the rule with this number belongs to the profile with that number
abbrev pub IsProfileOf : ℕ → ℕ → Type 0
IsProfileOf n profile =
    (r : Rule) × (n ≡ rule_number r) × (profile ≡ profile_number (profile_of r))
