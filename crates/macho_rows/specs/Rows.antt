-- The headers of an image, and the strings in bytes.
use Rattle.std.specs.Prelude.{◌≡◌, ℕ, ◌+◌, ◌⊎◌, List, [], Option, Some, None, ◌==◌, if◌then◌else◌}
use Rattle.std.specs.List.{before_first, list_any}
use Rattle.macho_fields.specs.First.{rank}
use Rattle.macho_fields.specs.Layers.{BreaksUpTo, KeptBelow}
use Rattle.macho_fields.specs.Rules.{BreaksImage}
use Rattle.macho_fields.specs.declared.rule.Rule.TheVariants as rule

-- the bytes break a rule of the headers of an image, up to name
abbrev pub IsBrokenImage : List ℕ → Option (ℕ × ℕ) → Type 0
IsBrokenImage image arch = BreaksUpTo (BreaksImage image arch) rule.Name

-- they break no such rule
abbrev pub HasUnbrokenHeaders : List ℕ → Option (ℕ × ℕ) → Type 0
HasUnbrokenHeaders image arch = KeptBelow (BreaksImage image arch) (rank rule.Name + 1)

-- What is found in an image, of which P holds. Nothing is found where it breaks a rule of the headers.
abbrev pub IsOfImage : {T : Type 0} → List ℕ → (Option T → Type 0) → Option T → Type 0
IsOfImage image P found =
    (HasUnbrokenHeaders image None × P found) ⊎ (IsBrokenImage image None × (found ≡ None))

-- the bytes before the first zero byte, if some byte is zero
abbrev pub first_string : List ℕ → Option (List ℕ)
first_string bytes =
    if list_any (λ byte. byte == 0) bytes
    then Some (before_first (λ byte. byte == 0) bytes) else None

-- the same, and none where no byte is zero
abbrev pub ended_string : List ℕ → List ℕ
ended_string bytes =
    if list_any (λ byte. byte == 0) bytes then before_first (λ byte. byte == 0) bytes else []
