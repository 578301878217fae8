-- The external symbols of an image that have names, and the order of their names. (mach-o/nlist.h: nlist_64;
-- mach-o/loader.h: symtab_command)
use Rattle.std.specs.Prelude.{◌≡◌, ◌≢◌, ℕ, ◌+◌, List, length, Option, Some, None, nat_le, if◌then◌else◌}
use Rattle.std.specs.Cmp.Lexicographic.{slice_cmp}
use Rattle.std.specs.List.Sorted.{IsSorted}
use Rattle.std.specs.Option.{option_cmp}
use Rattle.std.specs.Ordering.{nat_cmp, ordering_then}
use Rattle.std.specs.declared.cmp.Ordering.{Ordering}
use Rattle.macho_fields.specs.Field.{part, string_from}
use Rattle.macho_fields.specs.Image.{commands_of}
use Rattle.macho_fields.specs.Symbol.{stroff, AtSymbol}
use Rattle.macho_image.specs.Symbol.{symbol_at}
use Rattle.macho_image.specs.declared.symbol.Symbol.{Symbol}
use Rattle.macho_spans.specs.Span.{end_of}
use Rattle.macho_spans.specs.declared.span.Span.{Span}
use Rattle.macho_alike.specs.Symbols.{IsExternal}
use Rattle.macho_alike.specs.declared.names.Named.{Named}

-- it is external, defined or not, and n_strx is not 0
abbrev pub HasExternalName : Symbol → Type 0
HasExternalName symbol = IsExternal symbol.kind × (symbol.strx ≢ 0)

-- the symbol is external, and its name is the bytes of the span: from stroff + n_strx on, up to the first zero byte
pub record IsNameOf (image : List ℕ) (symtab : ℕ) (symbol : Symbol) (name : Span) : Type 0 where
  pub external : HasExternalName symbol
  pub start : name.start ≡ stroff image symtab + symbol.strx
  pub len : name.len ≡ length (string_from name.start image)

-- it stands for the symbol of the table at its place
abbrev pub IsNamed : List ℕ → Named → Type 0
IsNamed image one =
    AtSymbol image (commands_of image) (λ symtab place. IsNameOf image symtab (symbol_at image place) one.name) one.place

-- the bytes of the name
abbrev pub text_of : List ℕ → Named → List ℕ
text_of image one = part one.name.start one.name.len image

-- by the bytes of their names, and those with the same by their places
abbrev pub by_name : List ℕ → Named → Named → Ordering
by_name image one other =
    ordering_then (slice_cmp nat_cmp (text_of image one) (text_of image other)) (nat_cmp one.place other.place)

-- no name is less than the one before it, and the places of equal names do not fall
abbrev pub AreByName : List ℕ → List Named → Type 0
AreByName image names = IsSorted (by_name image) names

-- the same, where names that end past the image are less than others
abbrev pub text_in : List ℕ → Named → Option (List ℕ)
text_in image one = if nat_le (end_of one.name) (length image) then Some (text_of image one) else None

abbrev pub by_text : List ℕ → Named → Named → Ordering
by_text image one other =
    ordering_then (option_cmp (slice_cmp nat_cmp) (text_in image one) (text_in image other)) (nat_cmp one.place other.place)
