-- The code directory that a blob of a code signature is. (cs_blobs.h: CS_CodeDirectory)
use Rattle.std.specs.Prelude.{ℕ, ◌+◌, ◌-◌, ◌*◌, ◌==◌, nat_le, List, drop, if◌then◌else◌}
use Rattle.std.specs.Option.{option_map}
use Rattle.macho_signature.specs.CodeDirectories.{code_directory}
use Rattle.macho_signature.specs.declared.code_directory.CodeDirectory.{CodeDirectory}
use Rattle.macho_rows.specs.Rows.{ended_string}
use Rattle.macho_rows.specs.Spans.{part_or_none, span_at, span_of}
use Rattle.macho_c.specs.Status.{Answers}
use Rattle.macho_c.specs.declared.code_directory.KesvuotCodeDirectory.{KesvuotCodeDirectory}
use Rattle.macho_rows.specs.declared.span.KesvuotSpan.{KesvuotSpan}

-- where a name lies in the file, at an offset of a blob that begins at `place` in the file: without the zero byte
-- that ends it, and nowhere where none does, or the offset is 0
abbrev pub name_span : ℕ → List ℕ → ℕ → KesvuotSpan
name_span place blob offset =
    if offset == 0 then span_at 0 0 else span_of (place + offset) (ended_string (drop offset blob))

-- where the hashes of the code lie, from an offset on, and the special ones, up to it: nowhere where they are not
-- all in the blob
abbrev pub code_hashes : ℕ → List ℕ → ℕ → ℕ → KesvuotSpan
code_hashes place blob offset size = span_of (place + offset) (part_or_none offset size blob)

abbrev pub special_hashes : ℕ → List ℕ → ℕ → ℕ → KesvuotSpan
special_hashes place blob offset size =
    if nat_le size offset then span_of (place + (offset - size)) (part_or_none (offset - size) size blob)
    else span_at 0 0

-- the row of a code directory
abbrev pub directory_row : ℕ → List ℕ → CodeDirectory → KesvuotCodeDirectory
directory_row place blob directory = record {
  identifier = name_span place blob directory.ident_offset;
  team = name_span place blob directory.team_offset;
  hashes = code_hashes place blob directory.hash_offset (directory.code_slots * directory.hash_size);
  special_hashes = special_hashes place blob directory.hash_offset (directory.special_slots * directory.hash_size);
  limit = directory.limit;
  version = directory.version;
  flags = directory.flags;
  code_slots = directory.code_slots;
  special_slots = directory.special_slots;
  hash_size = directory.hash_size;
  hash_type = directory.hash_type;
  page_size = directory.page_size;
}

-- of a blob that is not a code directory
abbrev pub no_directory : KesvuotCodeDirectory
no_directory = record {
  identifier = span_at 0 0;
  team = span_at 0 0;
  hashes = span_at 0 0;
  special_hashes = span_at 0 0;
  limit = 0;
  version = 0;
  flags = 0;
  code_slots = 0;
  special_slots = 0;
  hash_size = 0;
  hash_type = 0;
  page_size = 0;
}

-- the answer on a blob that begins at `place` in the file
abbrev pub IsAnswer : ℕ → List ℕ → ℕ → KesvuotCodeDirectory → Type 0
IsAnswer place blob status row =
    Answers no_directory status row (option_map (directory_row place blob) (code_directory blob))
