-- What look-ups and symbols say of the libraries of names, by the hashes of the names.
use Rattle.std.specs.Prelude.{◌≡◌, ◌==◌, ℕ, List, Option, Some, None, map, Contains, nat_lt, if◌then◌else◌}
use Rattle.std.specs.Hash.FoldHasher.{initial, write, finish}
use Rattle.macho_fields.specs.Image.{commands_of}
use Rattle.macho_fields.specs.Symbol.{AtSymbol}
use Rattle.macho_fields.specs.declared.header.nlist.TheConstants.{DYNAMIC_LOOKUP_ORDINAL, EXECUTABLE_ORDINAL}
use Rattle.macho_image.specs.Symbol.{symbol_at}
use Rattle.macho_image.specs.declared.symbol.Symbol.{Symbol}
use Rattle.macho_symbols.specs.Nlist.{library_ordinal}
use Rattle.macho_alike.specs.Definitions.{name_of}
use Rattle.macho_alike.specs.Imports.{ImportsName}
use Rattle.macho_alike.specs.LookUps.{LookUps}
use Rattle.macho_alike.specs.declared.binds.Library.{Library}
use Rattle.macho_alike.specs.declared.binds.Library.TheVariants as library
use Rattle.macho_alike.specs.declared.claims.Claim.{Claim}
use Rattle.macho_alike.specs.declared.imports.TheConstants as special

-- the hash of a name
abbrev pub hash_of : List ℕ → ℕ
hash_of name = finish (write initial name)

-- what n_desc says of a symbol from a library, if it can say that
abbrev pub ordinal_of : Library → Option ℕ
ordinal_of (library.Ordinal number) = if nat_lt number DYNAMIC_LOOKUP_ORDINAL then Some number else None
ordinal_of (library.Special below) =
    if below == special.MAIN_EXECUTABLE then Some EXECUTABLE_ORDINAL
    else (if below == special.FLAT_LOOKUP then Some DYNAMIC_LOOKUP_ORDINAL else None)

-- that a name is from the library with an ordinal
abbrev pub claim_of : List ℕ → Option ℕ → Claim
claim_of name ordinal = record { hash = hash_of name; ordinal = ordinal }

-- what a look-up says
abbrev pub claim_by : List ℕ × Library → Claim
claim_by (name, from) = claim_of name (ordinal_of from)

-- what look-ups say
abbrev pub AreClaims : LookUps → List Claim → Type 0
AreClaims looks claims = claims ≡ map claim_by looks

-- what a symbol says of its name
abbrev pub claim_at : List ℕ → ℕ → Symbol → Claim
claim_at image symtab symbol = claim_of (name_of image symtab symbol) (Some (library_ordinal symbol))

abbrev pub AreAmong : List Claim → List Claim → Type 0
AreAmong old new = (claim : Claim) → Contains old claim → Contains new claim

-- the symbol is undefined and has a name, and its claim is missing
abbrev pub IsUnclaimed : List ℕ → List Claim → ℕ → Symbol → Type 0
IsUnclaimed image claims symtab symbol = ImportsName symbol × ¬ Contains claims (claim_at image symtab symbol)

abbrev pub NoneIsUnclaimed : List ℕ → List Claim → Type 0
NoneIsUnclaimed image claims =
    (place : ℕ)
    → ¬ AtSymbol image (commands_of image) (λ symtab symbol. IsUnclaimed image claims symtab (symbol_at image symbol)) place

-- two of one hash have one ordinal, or no ordinal
abbrev pub AgreesWith : Claim → Claim → Type 0
AgreesWith one other = one.hash ≡ other.hash → one.ordinal ≡ other.ordinal

abbrev pub Agree : List Claim → Type 0
Agree claims = (one other : Claim) → Contains claims one → Contains claims other → AgreesWith one other
