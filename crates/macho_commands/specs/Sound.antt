-- What holds of the load commands of an image that breaks neither the rule of threads nor the rule of the content of
-- commands.
use Rattle.std.specs.Prelude.{◌≡◌, ℕ, ◌+◌, ◌-◌, ◌*◌, ◌≤◌, ◌<◌, ⊤, List, length, Contains, Bool, true, false, IfSome, slice_index}
use Rattle.macho_fields.specs.Field.{HasZero}
use Rattle.macho_fields.specs.Image.{command_cmd, commands_of}
use Rattle.macho_fields.specs.Segment.{IsExecutable}
use Rattle.macho_fields.specs.Symbol.{number_of, table_at}
use Rattle.macho_fields.specs.Universal.{OfEachImage}
use Rattle.macho_commands.specs.Commands.{command_bytes, is_thread, is_routine, IsSoundThread}
use Rattle.macho_commands.specs.Content.{content_of, is_foreign}
use Rattle.macho_commands.specs.Described.{name_offset, module_count, modules_offset, string_count, zero_count, HasStrayByte}
use Rattle.macho_commands.specs.declared.content.Content.{Content}
use Rattle.macho_commands.specs.declared.content.Holding.{Holding}
use Rattle.macho_commands.specs.declared.content.Holding.TheVariants as holding

-- the name lies in the command, past the structure, and so does the zero byte that ends it
abbrev pub IsWholeName : ℕ → List ℕ → Type 0
IsWholeName size bytes =
    (size ≤ name_offset bytes) × HasZero bytes (name_offset bytes) (length bytes)

-- so do the bits of the modules, if there are some
abbrev pub AreWholeModules : ℕ → List ℕ → Type 0
AreWholeModules size bytes =
    0 < module_count bytes
    → (size ≤ modules_offset bytes)
    × (8 * modules_offset bytes + module_count bytes ≤ 8 * length bytes)

-- what the command describes of its own bytes is whole
abbrev pub IsWholePart : ℕ → List ℕ → Holding → Type 0
IsWholePart size bytes holding.Name = IsWholeName size bytes
IsWholePart size bytes holding.NameAndModules =
    IsWholeName size bytes × AreWholeModules size bytes
IsWholePart size bytes holding.Strings =
    size < length bytes → slice_index bytes (length bytes - 1) ≡ 0
IsWholePart size bytes holding.CountedStrings =
    string_count bytes ≤ zero_count bytes size (length bytes)
IsWholePart size bytes other = ⊤

-- what it names outside of itself is there: a range that has items lies inside the image, and a routine is at a byte
-- of the file that may be executed
abbrev pub HasTarget : List ℕ → List ℕ → Holding → Type 0
HasTarget image bytes (holding.Range fields) =
    let table = table_at bytes 0 fields in
    0 < table.1 → table.0 + table.1 * table.2 ≤ length image
HasTarget image bytes (holding.Routine width) =
    IsExecutable image (commands_of image) (number_of width bytes 8)
HasTarget image bytes other = ⊤

-- the content of a held command
pub record IsSoundContent (image bytes : List ℕ) (content : Content) : Type 0 where
  pub whole : content.size ≤ length bytes
  pub target : HasTarget image bytes content.holding
  pub part : IsWholePart content.size bytes content.holding
  pub no_other : ¬ HasStrayByte bytes content

-- no two commands of an image are of this kind
abbrev pub HasAtMostOne : List ℕ → (ℕ → Bool) → Type 0
HasAtMostOne image is_kind =
    (first second : ℕ) → Contains (commands_of image) first → Contains (commands_of image) second
    → is_kind (command_cmd image first) ≡ true → is_kind (command_cmd image second) ≡ true
    → first ≡ second

-- of an image
pub record HasSoundCommands (image : List ℕ) : Type 0 where
  pub one_thread : HasAtMostOne image is_thread
  pub one_routine : HasAtMostOne image is_routine
  pub thread : (command : ℕ) → Contains (commands_of image) command
      → is_thread (command_cmd image command) ≡ true
      → IsSoundThread image (command_bytes image command)
  pub native : (command : ℕ) → Contains (commands_of image) command
      → is_foreign (command_cmd image command) ≡ false
  pub content : (command : ℕ) → Contains (commands_of image) command
      → IfSome (content_of (command_cmd image command))
      (IsSoundContent image (command_bytes image command))

-- of a file: each 64-bit slice is such an image
abbrev pub AreSoundCommands : List ℕ → Type 0
AreSoundCommands = OfEachImage HasSoundCommands
