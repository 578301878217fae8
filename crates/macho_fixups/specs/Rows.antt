-- The rows of fixups.
use Rattle.std.specs.Prelude.{ℕ, pos}
use Rattle.macho_fixups.specs.declared.row.KesvuotFixup.{KesvuotFixup}

-- a row in which only its kind is set
abbrev pub row_of_kind : ℕ → KesvuotFixup
row_of_kind kind = record {
  address = 0;
  offset = 0;
  target = 0;
  import = 0;
  addend = pos 0;
  segment = 0;
  kind = kind;
  diversity = 0;
  address_diversity = 0;
  key = 0;
  authenticated = 0;
}
