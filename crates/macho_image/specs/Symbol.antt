-- The symbols of an opened image, their names, and the indirect entries.
-- (mach-o/loader.h: symtab_command, dysymtab_command; mach-o/nlist.h: nlist_64)
use Rattle.std.specs.Prelude.{◌≡◌, ◌≢◌, ℕ, ◌+◌, ◌*◌, ◌≤◌, List, [], map, length, nat_le, IsSomeAnd}
use Rattle.std.specs.Prelude.{zero, suc, ◌∷◌, if◌then◌else◌}
use Rattle.std.specs.List.{range_with_len}
use Rattle.std.specs.Option.{option_map_or}
use Rattle.macho_fields.specs.Field.{string_from, HasZero}
use Rattle.macho_fields.specs.Image.{word}
use Rattle.macho_fields.specs.Symbol.{symoff, nsyms, stroff, strsize}
use Rattle.macho_fields.specs.Symbol.{ilocalsym, nlocalsym, iextdefsym, nextdefsym, iundefsym}
use Rattle.macho_fields.specs.Symbol.{nundefsym}
use Rattle.macho_fields.specs.Symbol.{tocoff, ntoc, modtaboff, nmodtab, extrefsymoff, nextrefsyms}
use Rattle.macho_fields.specs.Symbol.{indirectsymoff, nindirectsyms, extreloff, nextrel, locreloff}
use Rattle.macho_fields.specs.Symbol.{nlocrel}
use Rattle.macho_fields.specs.Symbol.{n_strx, n_type, n_sect, n_desc, n_value}
use Rattle.macho_fields.specs.declared.header.loader.TheConstants as loader
use Rattle.macho_fields.specs.declared.header.nlist.TheConstants as nlist
use Rattle.macho_image.specs.Command.{first_with_cmd}
use Rattle.macho_image.specs.declared.symtab.Symtab.{Symtab}
use Rattle.macho_image.specs.declared.dysymtab.Dysymtab.{Dysymtab}
use Rattle.macho_image.specs.declared.symbol.Symbol.{Symbol}
use Rattle.macho_image.specs.declared.indirect.Indirect.{Indirect}

-- symtab_command
abbrev pub symtab_at : List ℕ → ℕ → Symtab
symtab_at image command = record {
  place = command;
  symoff = symoff image command;
  nsyms = nsyms image command;
  stroff = stroff image command;
  strsize = strsize image command;
}

-- dysymtab_command
abbrev pub dysymtab_at : List ℕ → ℕ → Dysymtab
dysymtab_at image command = record {
  place = command;
  ilocalsym = ilocalsym image command;
  nlocalsym = nlocalsym image command;
  iextdefsym = iextdefsym image command;
  nextdefsym = nextdefsym image command;
  iundefsym = iundefsym image command;
  nundefsym = nundefsym image command;
  tocoff = tocoff image command;
  ntoc = ntoc image command;
  modtaboff = modtaboff image command;
  nmodtab = nmodtab image command;
  extrefsymoff = extrefsymoff image command;
  nextrefsyms = nextrefsyms image command;
  indirectsymoff = indirectsymoff image command;
  nindirectsyms = nindirectsyms image command;
  extreloff = extreloff image command;
  nextrel = nextrel image command;
  locreloff = locreloff image command;
  nlocrel = nlocrel image command;
}

-- the places of the items of a table, where it lies inside the image, and none otherwise
abbrev pub items_inside : List ℕ → ℕ → ℕ → ℕ → List ℕ
items_inside image start each count =
    if nat_le (start + each * count) (length image)
    then map (λ k. start + each * k) (range_with_len 0 count) else []

-- the symbols of an image, from its symbol table
abbrev pub symbols_of : List ℕ → List ℕ → List ℕ
symbols_of image commands =
    option_map_or (λ symtab.
    items_inside image (symoff image symtab) nlist.NLIST_64_SIZE (nsyms image symtab))
    (first_with_cmd image loader.LC_SYMTAB commands) []

-- nlist_64
abbrev pub symbol_at : List ℕ → ℕ → Symbol
symbol_at image symbol = record {
  place = symbol;
  strx = n_strx image symbol;
  kind = n_type image symbol;
  sect = n_sect image symbol;
  desc = n_desc image symbol;
  value = n_value image symbol;
}

-- the indirect entries of an image
abbrev pub indirects_of : List ℕ → List ℕ → List ℕ
indirects_of image commands =
    option_map_or (λ dysymtab.
    items_inside image (indirectsymoff image dysymtab) loader.INDIRECT_ENTRY_SIZE
    (nindirectsyms image dysymtab))
    (first_with_cmd image loader.LC_DYSYMTAB commands) []

abbrev pub indirect_at : List ℕ → ℕ → Indirect
indirect_at image entry = record { place = entry; value = word image entry }

-- strings of this size lie inside the image, and the name at strx ends in them
abbrev pub EndsInStrings : List ℕ → ℕ → ℕ → ℕ → Type 0
EndsInStrings image start size strx =
    (start + size ≤ length image) × HasZero image (start + strx) (start + size)

-- strx is not 0, the strings of LC_SYMTAB lie inside the image, and the one at strx ends in them
abbrev pub HasName : List ℕ → List ℕ → ℕ → Type 0
HasName image commands strx =
    (strx ≢ 0) × IsSomeAnd (first_with_cmd image loader.LC_SYMTAB commands) (λ symtab.
    EndsInStrings image (stroff image symtab) (strsize image symtab) strx)

-- the name at strx in the strings: the bytes up to the first zero byte
abbrev pub IsNameAt : List ℕ → List ℕ → ℕ → List ℕ → Type 0
IsNameAt image commands strx name =
    IsSomeAnd (first_with_cmd image loader.LC_SYMTAB commands) (λ symtab.
    name ≡ string_from (stroff image symtab + strx) image)

-- the places of `left` items of a table that begins at `place`
abbrev pub items_from : ℕ → ℕ → ℕ → List ℕ
items_from each place zero = []
items_from each place (suc left) = place ∷ items_from each (place + each) left
