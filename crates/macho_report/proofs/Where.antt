-- What is at an address of an image in a slice.
use Rattle.std.proofs.Common.{◌≡◌, ℕ, List, Option, Some, None, IfSome, IsSomeAnd, ap, subst}
use Rattle.macho_fields.specs.Segment.{Source, IsAtAddress}
use Rattle.macho_fields.specs.Universal.{FileSlice, slices_of, slice_bytes}
use Rattle.std.specs.Prelude.{◌≢◌, slice_get}
use Rattle.macho_rules.specs.Mapping.{GivesSources, sources}
use Rattle.macho_rules.specs.declared.mapping.Mapping.{Mapping}
use Rattle.macho_report.specs.Where.{TellsWhere, where_text}
use Rattle.macho_report.specs.declared.address.WhereOutcome.TheVariants.{Told, Refused, NoImage}

told_in : (file : List ℕ) (o : Option FileSlice) (address : ℕ) (given : ℕ → Option Source) (answer : Option Source)
    → IsSomeAnd o (λ slice. GivesSources (slice_bytes file slice) given) → answer ≡ given address
    → IsSomeAnd o (λ slice. (at : Option Source) × IsAtAddress (slice_bytes file slice) address at × (where_text answer ≡ where_text at))
told_in file (Some slice) address given answer gives is = (given address, gives address, ap where_text is)
told_in file None address given answer gives is = absurd gives

-- the answer of the mapping of a file's image
pub told : (file verified : List ℕ) (index address : ℕ) (answered : Option Mapping) (mapping : Mapping) (answer : Option Source) → verified ≡ file
    → answered ≡ Some mapping → IfSome answered (λ m. IsSomeAnd (slice_get (slices_of verified) index) (λ slice. GivesSources (slice_bytes verified slice) (sources m)))
    → answer ≡ sources mapping address → TellsWhere file index address (where_text answer)
told file verified index address answered mapping answer same some gives is =
    subst (λ bytes. TellsWhere bytes index address (where_text answer)) same
    (told_in verified (slice_get (slices_of verified) index) address (sources mapping) answer (rw some at gives) is)

-- where something was written, there is an image
pub told_other : Told ≢ NoImage
told_other is = cc

pub refused_other : Refused ≢ NoImage
refused_other is = cc
