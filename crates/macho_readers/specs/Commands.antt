-- Where a command breaks a rule, so that two readers see another command, or bytes that are not the file's.
-- (mach-o/loader.h: load_command, encryption_info_command_64, segment_command_64, build_version_command,
-- version_min_command)
use Rattle.std.specs.Prelude.{◌≡◌, ◌≢◌, ℕ, ◌+◌, ◌<◌, ◌==◌, ◌||◌, ◌⊎◌, List, [], ◌∷◌, Any, Contains, Option, Some, None, IsSomeAnd, Bool, true, false, is_some, if◌then◌else◌}
use Rattle.std.specs.Option.{option_map_or}
use Rattle.macho_fields.specs.Image.{word, command_cmd, commands_of}
use Rattle.macho_fields.specs.LoadCommands.{structure_of}
use Rattle.macho_fields.specs.declared.header.loader.TheConstants as loader
use Rattle.macho_commands.specs.Commands.{is_thread}
use Rattle.macho_commands.specs.Content.{content_of}
use Rattle.macho_spans.specs.declared.span.Span.{Span}
use Rattle.macho_tables.specs.Kinds.{is_one_of}
use Rattle.macho_tables.specs.Segments.{is_protected}

-- Encryption

-- encryption_info_command_64: cryptid at 16, which is 0 where the bytes are not encrypted yet
abbrev pub cryptid : List ℕ → ℕ → ℕ
cryptid image command = word image (command + 16)

-- the command has a range of encrypted bytes
abbrev pub HasEncryptedRange : List ℕ → ℕ → Type 0
HasEncryptedRange image command =
    (command_cmd image command ≡ loader.LC_ENCRYPTION_INFO_64) × (cryptid image command ≢ 0)

-- it is a segment whose pages a kernel decrypts
abbrev pub IsProtectedSegment : List ℕ → ℕ → Type 0
IsProtectedSegment image command =
    (command_cmd image command ≡ loader.LC_SEGMENT_64) × (is_protected image command ≡ true)

abbrev pub HasEncrypted : List ℕ → ℕ → Type 0
HasEncrypted image command = HasEncryptedRange image command ⊎ IsProtectedSegment image command

-- the rule bytes-encrypted, at the place of a command
abbrev pub BreaksBytesEncrypted : List ℕ → ℕ → Type 0
BreaksBytesEncrypted image place = Contains (commands_of image) place × HasEncrypted image place

-- Known commands

-- a profile knows a command with this cmd: a listed command, a thread, or a held one
abbrev pub is_known : ℕ → Bool
is_known cmd = is_some (structure_of cmd) || (is_thread cmd || is_some (content_of cmd))

-- the rule command-known, at the place of a command
abbrev pub BreaksCommandKnown : List ℕ → ℕ → Type 0
BreaksCommandKnown image place =
    Contains (commands_of image) place × (is_known (command_cmd image place) ≡ false)

-- Repeated commands

-- the kinds that readers expect once, and that no earlier profile limits to one command
abbrev pub is_single : ℕ → Bool
is_single =
    is_one_of
    (loader.LC_LOAD_DYLINKER ∷ loader.LC_ID_DYLINKER ∷ loader.LC_SUB_FRAMEWORK
    ∷ loader.LC_PREBIND_CKSUM ∷ loader.LC_SEGMENT_SPLIT_INFO ∷ loader.LC_SOURCE_VERSION
    ∷ loader.LC_DYLIB_CODE_SIGN_DRS ∷ loader.LC_ENCRYPTION_INFO_64
    ∷ loader.LC_LINKER_OPTIMIZATION_HINT ∷ loader.LC_TARGET_TRIPLE ∷ [])

-- the platform of a version_min_command, by its cmd
abbrev pub version_platform : ℕ → Option ℕ
version_platform cmd =
    if cmd == loader.LC_VERSION_MIN_MACOSX then Some loader.PLATFORM_MACOS
    else (if cmd == loader.LC_VERSION_MIN_IPHONEOS then Some loader.PLATFORM_IOS
    else (if cmd == loader.LC_VERSION_MIN_TVOS then Some loader.PLATFORM_TVOS
    else (if cmd == loader.LC_VERSION_MIN_WATCHOS then Some loader.PLATFORM_WATCHOS else None)))

-- the platform whose versions a command has. build_version_command: platform at 8
abbrev pub platform_of : List ℕ → ℕ → Option ℕ
platform_of image command =
    if command_cmd image command == loader.LC_BUILD_VERSION then Some (word image (command + 8))
    else version_platform (command_cmd image command)

-- an earlier command has this cmd
abbrev pub RepeatsCmd : List ℕ → ℕ → ℕ → Type 0
RepeatsCmd image cmd command =
    Any (λ earlier. (earlier < command) × (command_cmd image earlier ≡ cmd)) (commands_of image)

-- readers take one command of the kind, and an earlier command is of the same kind
abbrev pub RepeatsSingle : List ℕ → ℕ → Type 0
RepeatsSingle image command =
    (is_single (command_cmd image command) ≡ true) × RepeatsCmd image (command_cmd image command) command

-- the one place that numbers the platform, or no place
abbrev pub platform_span : List ℕ → ℕ → Span
platform_span image command =
    option_map_or (λ platform. record { start = platform; len = 1 }) (platform_of image command)
    (record { start = 0; len = 0 })

-- an earlier command has versions of the same platform
abbrev pub RepeatsPlatform : List ℕ → ℕ → Type 0
RepeatsPlatform image command =
    IsSomeAnd (platform_of image command) (λ platform.
    Any (λ earlier. (earlier < command) × (platform_of image earlier ≡ Some platform))
    (commands_of image))

-- Whether there is more than one platform

abbrev pub HasPlatform : List ℕ → ℕ → Type 0
HasPlatform image command = is_some (platform_of image command) ≡ true

-- the command has versions of a platform, and so has an earlier one
unfoldable pub FollowsPlatform : List ℕ → ℕ → Type 0
FollowsPlatform image command =
    HasPlatform image command
    × Any (λ earlier. (earlier < command) × HasPlatform image earlier) (commands_of image)

abbrev pub HasSeveralPlatforms : List ℕ → Type 0
HasSeveralPlatforms image = Any (FollowsPlatform image) (commands_of image)

-- the rule command-once, at the place of a command
abbrev pub BreaksCommandOnce : List ℕ → ℕ → Type 0
BreaksCommandOnce image place =
    Contains (commands_of image) place × (RepeatsSingle image place ⊎ RepeatsPlatform image place)
