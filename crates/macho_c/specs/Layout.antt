-- The layout of an accepted file as text, in a buffer of the caller.
use Rattle.std.specs.Prelude.{◌≡◌, ℕ, ◌⊎◌, List, ◌++◌, length, take, drop}
use Rattle.macho_fields.specs.First.{IsFirstBroken, IsUnbroken}
use Rattle.macho_fields.specs.declared.rule.Break.{Break}
use Rattle.macho_lines.specs.Layout.{layout_text}
use Rattle.macho_rules.specs.Verdict.{FileTakesMemory}
use Rattle.macho_rules.specs.declared.refusal.Refusal.{Refusal}
use Rattle.macho_rules.specs.declared.refusal.Refusal.TheVariants as refusal
use Rattle.macho_c.specs.Status.{KESVUOT_OK, KESVUOT_REFUSED, KESVUOT_NO_MEMORY}

-- The buffer was `old`: it now begins with the first bytes of the text, as many as it has room for,
-- and its other bytes are as they were.
abbrev pub begun_with : List ℕ → List ℕ → List ℕ
begun_with text old = take (length old) text ++ drop (length text) old

-- The file breaks no rule. Its layout is in the buffer, and needs so many bytes.
abbrev pub IsWritten : List ℕ → ℕ → List ℕ → List ℕ → Type 0
IsWritten file needed old new =
    IsUnbroken file × (needed ≡ length (layout_text file))
    × (new ≡ begun_with (layout_text file) old)

-- nothing is written
abbrev pub IsUnwritten : ℕ → List ℕ → List ℕ → Type 0
IsUnwritten needed old new = (needed ≡ 0) × (new ≡ old)

-- Why a file has no layout: its first broken rule, or that there was no memory. That is returned only if
-- the verdict takes memory, or the layout of an accepted file does.
abbrev pub IsLayoutRefusal : List ℕ → Refusal → Type 0
IsLayoutRefusal file (refusal.Broken b) = IsFirstBroken file b
IsLayoutRefusal file refusal.Memory = FileTakesMemory file ⊎ IsUnbroken file

-- the answer on a file
abbrev pub IsLayout : List ℕ → ℕ → ℕ → List ℕ → List ℕ → Type 0
IsLayout file status needed old new =
    ((status ≡ KESVUOT_OK) × IsWritten file needed old new)
    ⊎ ((status ≡ KESVUOT_REFUSED) × ((b : Break) × IsFirstBroken file b) × IsUnwritten needed old new)
    ⊎ ((status ≡ KESVUOT_NO_MEMORY) × IsLayoutRefusal file refusal.Memory × IsUnwritten needed old new)
