-- Small images that break no rule: a header alone, and one with a command that is not listed.
use Rattle.std.proofs.Common.{◌*◌, Any, ◌≡◌, ℕ, ◌+◌, ◌<◌, ◌⊎◌, List, [], ◌∷◌, ◌++◌, length, true, false, true≢false, ◌&&◌, nat_lt, Contains, None, IsSomeAnd, refl, sym, subst, arith, lit≤, inl, inr, rules}
use Rattle.std.specs.List.{list_any}
use Rattle.std.proofs.lemmas.Bool.{lt-ltb, and_from}
use Rattle.macho_fields.specs.Image.{command_size, command_cmd, file_type, AreCommands}
use Rattle.macho_fields.specs.LoadCommands.{structure_of}
use Rattle.macho_fields.specs.FileTypes.{FileTypeView, file_type_of}
use Rattle.macho_fields.specs.Command.{IsShort, IsBadName, HasBadName, HasDylibId, least_size}
use Rattle.macho_fields.specs.declared.load_command.Structure.{Structure}
use Rattle.macho_fields.specs.Symbol.{IsOutside, tables_of}
use Rattle.macho_fields.specs.Rules.{BreaksImage, BreaksCommands}
use Rattle.macho_fields.specs.First.{IsUnbroken}
use Rattle.macho_fields.specs.Universal.{is_universal, IsImage}
use Rattle.macho_fields.specs.declared.rule.Rule.{Rule}
use Rattle.macho_fields.specs.declared.rule.Rule.TheVariants as rule
use Rattle.macho_fields.proofs.Plain.{unbroken_image}
use Rattle.macho_fields.proofs.Walks.{IsHeader, breaks_by_commands}
use Rattle.macho_fields.proofs.Options.{of_none}
use Rattle.macho_fields.proofs.Lists.{any_nil, only_one, any_one, none_by_test}
use Rattle.macho_fields.proofs.ExampleHeaders.{header, four}

abbrev BadId : List ℕ → List ℕ → FileTypeView → Type 0
BadId image commands listed = ((listed.names_itself ≡ true) × ¬ HasDylibId image commands) ⊎ ((listed.names_itself ≡ false) × HasDylibId image commands)

-- an executable breaks the rule only if it names itself
executable_names : (image commands : List ℕ) → file_type image ≡ 2 → IsSomeAnd (file_type_of (file_type image)) (BadId image commands) → HasDylibId image commands
executable_names image commands kind bad =
    let wrong : IsSomeAnd (file_type_of 2) (BadId image commands) = subst (λ n. IsSomeAnd (file_type_of n) (BadId image commands)) kind bad in
    elim wrong [ inl k ↦ absurd (true≢false (sym k.0)) | inr k ↦ k.1 ]

-- an executable without commands breaks no rule
pub nothing_commanded : (image : List ℕ) → file_type image ≡ 2 → (r : Rule) (place : ℕ) → ¬ BreaksCommands image [] r place
nothing_commanded image kind rule.DylibId place h = any_nil _ (executable_names image [] kind h.1)
nothing_commanded image kind other place h = search rules

-- an image that is only a header, with bytes after it that no command counts, breaks no rule either
plain_executable : (image : List ℕ) → is_universal image ≡ false → IsImage image → IsHeader image → file_type image ≡ 2 → AreCommands image [] → IsUnbroken image
plain_executable image one is good kind no_commands = unbroken_image image one is (λ r place b. nothing_commanded image kind r place (breaks_by_commands image [] good no_commands r place b))

abbrev bare : List ℕ
bare = header 2 0 0

-- a header alone, with no command
pub bare_header : IsUnbroken bare
bare_header = plain_executable bare refl (lit≤ tt, refl) (record { long_enough = lit≤ tt; kind = refl; commands_inside = lit≤ tt }) refl (refl, 32, refl)

-- a header that counts no command, and eight bytes after it
abbrev left_over : List ℕ
left_over = header 2 0 8 ++ four 0x99 ++ four 8

pub bytes_left_over : IsUnbroken left_over
bytes_left_over = plain_executable left_over refl (lit≤ tt, refl) (record { long_enough = lit≤ tt; kind = refl; commands_inside = lit≤ tt }) refl (refl, 32, refl)

-- What one command of a kind without name, library or repetition cannot break.
module _ (image : List ℕ) (at : ℕ) where
  pub alone : Contains (32 ∷ []) at → 32 ≡ at
  alone h = only_one 32 at h

  pub not_repeated : ¬ BreaksCommands image (32 ∷ []) rule.CommandRepeated at
  not_repeated h =
      let here : 32 ≡ at = only_one 32 at h.0 in
      let (before, same) = any_one (λ earlier. (earlier < at) × (command_cmd image earlier ≡ command_cmd image at)) 32 h.1.1 in
      let less : 32 < at = before in absurd (omega arith)

  pub keeps_size : structure_of (command_cmd image 32) ≡ None → ¬ BreaksCommands image (32 ∷ []) rule.CommandShort at
  keeps_size unlisted h =
      let short : Structure → Type 0 = λ structure. command_size image 32 < least_size image 32 structure in
      of_none short (structure_of (command_cmd image 32)) unlisted (subst (IsShort image) (sym (only_one 32 at h.0)) h.1)

  pub no_library : file_type image ≡ 2 → ¬ (command_cmd image 32 ≡ 0xd) → ¬ BreaksCommands image (32 ∷ []) rule.DylibId at
  no_library kind other h = other (any_one (λ command. command_cmd image command ≡ 0xd) 32 (executable_names image (32 ∷ []) kind h.1))

  pub no_name : structure_of (command_cmd image 32) ≡ None → ¬ BreaksCommands image (32 ∷ []) rule.Name at
  no_name unlisted h = of_none (IsBadName image 32) (structure_of (command_cmd image 32)) unlisted (subst (HasBadName image) (sym (only_one 32 at h.0)) h.1)

none_outside : (image : List ℕ) (at : ℕ)
    → list_any (λ table. nat_lt 0 table.1 && nat_lt (length image) (table.0 + table.1 * table.2)) (tables_of image 32) ≡ false
    → ¬ BreaksCommands image (32 ∷ []) rule.TableRange at
none_outside image at e h =
    none_by_test (IsOutside image) (λ table. nat_lt 0 table.1 && nat_lt (length image) (table.0 + table.1 * table.2)) (tables_of image 32)
    (λ table out. and_from (nat_lt 0 table.1) (nat_lt (length image) (table.0 + table.1 * table.2)) (lt-ltb 0 table.1 out.0) (lt-ltb (length image) (table.0 + table.1 * table.2) out.1)) e
    (subst (λ place. Any (IsOutside image) (tables_of image place)) (sym (only_one 32 at h.0)) h.1)

-- a command that is not listed is walked over
abbrev unlisted : List ℕ
unlisted = header 2 1 8 ++ four 0x99 ++ four 8

unlisted_keeps : (r : Rule) (at : ℕ) → ¬ BreaksCommands unlisted (32 ∷ []) r at
unlisted_keeps rule.CommandShort at h = keeps_size unlisted at refl h
unlisted_keeps rule.CommandRepeated at h = not_repeated unlisted at h
unlisted_keeps rule.DylibId at h = no_library unlisted at refl (λ e. absurd (omega arith)) h
unlisted_keeps rule.Name at h = no_name unlisted at refl h
unlisted_keeps rule.TableRange at h = none_outside unlisted at refl h
unlisted_keeps other at h = search rules

pub unlisted_command : IsUnbroken unlisted
unlisted_command = unbroken_image unlisted refl (lit≤ tt, refl) none
  where
    good : IsHeader unlisted
    good = record { long_enough = lit≤ tt; kind = refl; commands_inside = lit≤ tt }

    are : AreCommands unlisted (32 ∷ [])
    are = (refl, 40, (refl, record { head = lit≤ tt; whole = refl; least = lit≤ tt; inside = lit≤ tt }, refl))

    none : (r : Rule) (place : ℕ) → ¬ BreaksImage unlisted None r place
    none r place b = unlisted_keeps r place (breaks_by_commands unlisted (32 ∷ []) good are r place b)
