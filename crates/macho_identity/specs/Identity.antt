-- What a code directory says of a program. Its bytes are its blob's, an offset is one in them, and all numbers are
-- big-endian. (cs_blobs.h: CS_CodeDirectory)
use Rattle.std.specs.Prelude.{◌≡◌, ℕ, ◌≤◌, ◌==◌, nat_le, List, length, slice_index, Option, Some, None, if◌then◌else◌}
use Rattle.macho_fields.specs.Field.{string_from}
use Rattle.macho_fields.specs.declared.header.cs_blobs.TheConstants as cs
use Rattle.macho_identity.specs.declared.identity.Settings.{Settings}
use Rattle.macho_signature.specs.CodeDirectories.{fields_size, version_of, word_since, team_offset}
use Rattle.macho_signature.specs.Superblobs.{big_word, big_long}

-- all fields of its version lie in it
abbrev pub HasFields : List ℕ → Type 0
HasFields blob = fields_size (version_of blob) ≤ length blob

-- identOffset at 20; of one byte each hashType at 37, pageSize 39
abbrev pub ident_offset : List ℕ → ℕ
ident_offset blob = big_word blob 20

abbrev pub hash_type : List ℕ → ℕ
hash_type blob = slice_index blob 37

abbrev pub page_size : List ℕ → ℕ
page_size blob = slice_index blob 39

-- flags at 12; platform, of one byte, at 38; of 64 bits each execSegBase at 64, execSegLimit 72, execSegFlags 80; runtime
-- at 88. A version without the fields of the executable segment, or without runtime, has 0 there.
abbrev pub long_since : ℕ → ℕ → List ℕ → ℕ
long_since version offset blob = if nat_le version (version_of blob) then big_long blob offset else 0

-- how the program is to run
unfoldable pub settings_of : List ℕ → Settings
settings_of blob = record {
  flags = big_word blob 12;
  platform = slice_index blob 38;
  exec_seg_base = long_since cs.CS_SUPPORTSEXECSEG 64 blob;
  exec_seg_limit = long_since cs.CS_SUPPORTSEXECSEG 72 blob;
  exec_seg_flags = long_since cs.CS_SUPPORTSEXECSEG 80 blob;
  runtime = word_since cs.CS_SUPPORTSRUNTIME 88 blob;
}

-- the identifier and the team are bytes up to the first zero byte; a directory whose teamOffset is 0 has no team
unfoldable pub identifier_of : List ℕ → List ℕ
identifier_of blob = string_from (ident_offset blob) blob

unfoldable pub team_of : List ℕ → Option (List ℕ)
team_of blob = if team_offset blob == 0 then None else Some (string_from (team_offset blob) blob)

-- two directories, with these blobs, say the same
abbrev pub SayAlike : List ℕ → List ℕ → Type 0
SayAlike one other =
    (identifier_of one ≡ identifier_of other) × (team_of one ≡ team_of other) × (settings_of one ≡ settings_of other)
