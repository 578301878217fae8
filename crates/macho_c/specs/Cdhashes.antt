-- The hash of a code directory. (kesvuot.h: struct kesvuot_cdhash)
use Rattle.std.specs.Prelude.{ℕ, List, length, replicate}
use Rattle.std.specs.Option.{option_map}
use Rattle.macho_seals.specs.Cdhashes.{cdhash}
use Rattle.macho_seals.specs.Digests.{bytes_of_digest, type_of_digest}
use Rattle.macho_seals.specs.declared.digest.Digest.{Digest}
use Rattle.macho_c.specs.Layout.{begun_with}
use Rattle.macho_c.specs.Status.{Answers}
use Rattle.macho_c.specs.declared.cdhash.KesvuotCdhash.{KesvuotCdhash}

-- the row of a hash, which has 48 bytes at most: zeros are past its last
abbrev pub cdhash_row : Digest → KesvuotCdhash
cdhash_row digest = record {
  digest = begun_with (bytes_of_digest digest) (replicate 48 0);
  size = length (bytes_of_digest digest);
  hash_type = type_of_digest digest;
}

-- of a blob without one
abbrev pub no_cdhash : KesvuotCdhash
no_cdhash = record { digest = replicate 48 0; size = 0; hash_type = 0 }

-- the answer on a blob
abbrev pub IsAnswer : List ℕ → ℕ → KesvuotCdhash → Type 0
IsAnswer blob status row = Answers no_cdhash status row (option_map cdhash_row (cdhash blob))
