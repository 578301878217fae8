-- The flags of the header of an image. (mach-o/loader.h: mach_header_64)
use Rattle.std.specs.Prelude.{◌≡◌, ◌≢◌, ℕ, List, bit_and}
use Rattle.macho_fields.specs.Image.{word}
use Rattle.macho_fields.specs.declared.header.loader.TheConstants as header

-- mach_header_64: flags at 24
abbrev pub flags : List ℕ → ℕ
flags image = word image 24

-- each undefined symbol names the library that it is from
abbrev pub IsTwoLevel : List ℕ → Type 0
IsTwoLevel image = bit_and (flags image) header.MH_TWOLEVEL ≢ 0
