-- What a run says of an address of an image.
use Rattle.std.specs.Prelude.{◌≡◌, ◌≢◌, ℕ, ◌≤◌, List, [], ◌∷◌, length, codes, slice_get, Option, Some, None, IfSome, IsSomeAnd}
use Rattle.macho_fields.specs.First.{IsUnbroken, IsFirstBroken}
use Rattle.macho_fields.specs.Segment.{Source, File, Zero, IsAtAddress}
use Rattle.macho_fields.specs.Universal.{slices_of, slice_bytes, HasImage}
use Rattle.macho_fields.specs.declared.rule.Break.{Break}
use Rattle.macho_text.specs.Stream.{Wrote, WrotePrefix, joined}
use Rattle.macho_text.specs.Number.{prefixed_hex}
use Rattle.macho_lines.specs.Text.{break_text}
use Rattle.macho_report.specs.declared.address.WhereOutcome.{WhereOutcome}
use Rattle.macho_report.specs.declared.address.WhereOutcome.TheVariants.{Told, Refused, NoImage}

-- the line of what is at an address: a place of the slice, a zero, or nothing
abbrev pub where_text : Option Source → List ℕ
where_text (Some (File place)) = joined (codes "file " ∷ prefixed_hex place ∷ codes "\n" ∷ [])
where_text (Some Zero) = codes "zero\n"
where_text None = codes "unmapped\n"

-- the text is the line of what is at an address of the image in the slice with this index
abbrev pub TellsWhere : List ℕ → ℕ → ℕ → List ℕ → Type 0
TellsWhere file index address text =
    IsSomeAnd (slice_get (slices_of file) index) (λ slice. (given : Option Source)
    × IsAtAddress (slice_bytes file slice) address given × (text ≡ where_text given))

-- the outcome is right for the file, the index of a slice and an address, and this is its text
abbrev pub IsWhere : List ℕ → ℕ → ℕ → WhereOutcome → List ℕ → Type 0
IsWhere file index address Told text =
    IsUnbroken file × HasImage file index × TellsWhere file index address text
IsWhere file index address Refused text = (b : Break) × IsFirstBroken file b × (text ≡ break_text b)
IsWhere file index address NoImage text = IsUnbroken file × (¬ HasImage file index) × (text ≡ [])

-- the input is within the limit, and the text of the outcome, which is right for it, was written
abbrev pub WroteWhere : Option (List ℕ) → ℕ → ℕ → ℕ → WhereOutcome → Option (List ℕ) → Option (List ℕ) → Type 0
WroteWhere input limit index address outcome old new =
    IfSome input (λ file. (length file ≤ limit)
    × ((text : List ℕ) × IsWhere file index address outcome text × Wrote old new text))

-- the same of a prefix of the text, where there is one
abbrev pub WroteWherePrefix : Option (List ℕ) → ℕ → ℕ → ℕ → Option (List ℕ) → Option (List ℕ) → Type 0
WroteWherePrefix input limit index address old new =
    IfSome input (λ file. (length file ≤ limit)
    × ((outcome : WhereOutcome) × (text : List ℕ) × IsWhere file index address outcome text × (outcome ≢ NoImage) × WrotePrefix old new text))
