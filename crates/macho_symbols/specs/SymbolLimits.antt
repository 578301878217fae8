-- What the symbols of an image are compared with.
use Rattle.std.specs.Prelude.{◌≡◌, ℕ, ◌≤◌, ◌↔◌, List, IsTrue}
use Rattle.macho_image.specs.declared.symbol.Symbol.{Symbol}
use Rattle.macho_rules.specs.Survey.{IsNameLimit}
use Rattle.macho_symbols.specs.Addresses.{AreNearAddresses}
use Rattle.macho_symbols.specs.Header.{IsTwoLevel}
use Rattle.macho_symbols.specs.Nlist.{HasType}
use Rattle.macho_symbols.specs.Sections.{AreMappedSections}
use Rattle.macho_fields.specs.declared.header.nlist.TheConstants.{N_INDR}
use Rattle.macho_symbols.specs.declared.symbols.Limits.{Limits}
use Rattle.macho_tables.specs.Limits.{library_count}

-- they are the image's
pub record AreLimits (image : List ℕ) (limits : Limits) : Type 0 where
  pub two_level : IsTrue limits.is_two_level ↔ IsTwoLevel image
  pub libraries : limits.libraries ≡ library_count image
  pub sections : AreMappedSections image limits.sections
  pub addresses : AreNearAddresses image limits.addresses
  pub names_end : IsNameLimit image limits.names_end

-- it is another name, which begins at the limit or past it
abbrev pub NamesPast : ℕ → Symbol → Type 0
NamesPast limit symbol = HasType N_INDR symbol × (limit ≤ symbol.value)
