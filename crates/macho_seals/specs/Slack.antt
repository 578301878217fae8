-- The slack after the start of a signature, by its places in the image.
use Rattle.std.specs.Prelude.{◌≡◌, ℕ, ◌+◌, List}
use Rattle.macho_seals.specs.Signature.{NonZeroSlack}

abbrev pub IsSlackAt : List ℕ → ℕ → List ℕ → ℕ → Type 0
IsSlackAt image start signature place =
    (offset : ℕ) × (place ≡ start + offset) × NonZeroSlack image start signature offset
