-- What a verdict says of a file.
use Rattle.std.specs.Prelude.{◌≡◌, ℕ, ℤ, pos, ◌⊎◌, List, length}
use Rattle.macho_fields.specs.RuleList.{rule_number}
use Rattle.macho_fields.specs.Universal.{slices_of}
use Rattle.macho_fields.specs.declared.rule.Break.{Break}
use Rattle.macho_fields.specs.declared.rule.Profile.{Profile}
use Rattle.macho_profiles.specs.Profiles.{IsAcceptedBy, IsRefusedBy}
use Rattle.macho_rules.specs.declared.refusal.Refusal.TheVariants as refusal
use Rattle.macho_c.specs.Status.{KESVUOT_OK, KESVUOT_REFUSED, KESVUOT_NO_MEMORY}
use Rattle.macho_c.specs.declared.verdict.KesvuotVerdict.{KesvuotVerdict}

-- the numbers of a verdict
abbrev pub Has : KesvuotVerdict → ℕ → ℕ → ℕ → Type 0
Has v rule place slices =
    (v.rule ≡ rule) × (v.place ≡ place) × (v.slices ≡ slices) × (v.reserved ≡ 0)

-- The profile accepts the file, and the verdict has the number of its slices.
abbrev pub IsAccepted : Profile → List ℕ → KesvuotVerdict → Type 0
IsAccepted profile file v = IsAcceptedBy profile file × Has v 0 0 (length (slices_of file))

-- The verdict has the first broken rule of the file, among the rules of the profiles up to this one.
abbrev pub IsRefused : Profile → List ℕ → KesvuotVerdict → Type 0
IsRefused profile file v =
    (b : Break) × IsRefusedBy profile file (refusal.Broken b) × Has v (rule_number b.rule) b.place 0

-- There was no memory. That is answered only if the verdict of the profile takes some.
abbrev pub IsUndecided : Profile → List ℕ → KesvuotVerdict → Type 0
IsUndecided profile file v = IsRefusedBy profile file refusal.Memory × Has v 0 0 0

-- the answer on a file
abbrev pub IsVerdict : Profile → List ℕ → ℤ → KesvuotVerdict → Type 0
IsVerdict profile file status v =
    ((status ≡ pos KESVUOT_OK) × IsAccepted profile file v)
    ⊎ ((status ≡ pos KESVUOT_REFUSED) × IsRefused profile file v)
    ⊎ ((status ≡ pos KESVUOT_NO_MEMORY) × IsUndecided profile file v)
