-- The commands of an image whose walk does not break.
use Rattle.std.proofs.Common.{◌≡◌, ℕ, suc, zero, ◌+◌, ◌≤◌, ◌==◌, List, [], ◌∷◌, ◌++◌, length, Bool, filter, true, All, Contains, Option, refl, sym, subst, arith, inl, inr, length-append, le_refl}
use Rattle.std.proofs.lemmas.Bool.{eqb-true}
use Rattle.std.proofs.lemmas.List.Elements.{All-contains, filter_passes, All-filter, All-contains_itself}
use Rattle.macho_fields.specs.Image.{command_size, command_count, command_cmd, IsGood, Follow, IsChain, AreCommands, commands_of, with_cmd}
use Rattle.macho_fields.specs.Rules.{BreaksHeader}
use Rattle.macho_fields.specs.declared.rule.Rule.TheVariants as rule
use Rattle.macho_fields.proofs.Chains.{counted_off}
use Rattle.macho_fields.proofs.Decided.{good_or_not}

pub follow_more : (image : List ℕ) (start : ℕ) (xs : List ℕ) (m : ℕ) → Follow image start xs m → IsGood image m → Follow image start (xs ++ m ∷ []) (m + command_size image m)
follow_more image start [] m f good = (sym f, good, refl)
follow_more image start (x ∷ xs) m f good = (f.0, f.1, follow_more image (x + command_size image x) xs m f.2 good)

walk_goes_on : (image : List ℕ) (arch : Option (ℕ × ℕ)) → ((place : ℕ) → ¬ BreaksHeader image arch rule.CommandWalk place)
    → (n : ℕ) → n ≤ command_count image → (xs : List ℕ) × (length xs ≡ n) × ((next : ℕ) × IsChain image xs next)
walk_goes_on image arch keeps zero most = ([], refl, (32, refl))
walk_goes_on image arch keeps (suc n) most = one_more (walk_goes_on image arch keeps n (omega arith))
  where
    one_more : (xs : List ℕ) × (length xs ≡ n) × ((next : ℕ) × IsChain image xs next) → (xs : List ℕ) × (length xs ≡ suc n) × ((next : ℕ) × IsChain image xs next)
    one_more (xs, e, (next, chain)) =
        elim (good_or_not image next) [
          | inl good ↦
              (xs ++ next ∷ [], omega (arith, length-append xs (next ∷ [])), (next + command_size image next, follow_more image 32 xs next chain good))
          | inr bad ↦ absurd (keeps next (xs, omega arith, chain, bad))
        ]

-- an image whose walk does not break has its commands
pub commands_exist : (image : List ℕ) (arch : Option (ℕ × ℕ)) → ((place : ℕ) → ¬ BreaksHeader image arch rule.CommandWalk place) → (commands : List ℕ) × AreCommands image commands
commands_exist image arch keeps = whole (walk_goes_on image arch keeps (command_count image) (le_refl (command_count image)))
  where
    whole : (xs : List ℕ) × (length xs ≡ command_count image) × ((next : ℕ) × IsChain image xs next) → (commands : List ℕ) × AreCommands image commands
    whole (xs, e, (next, chain)) = (xs, (e, next, chain))

-- they are those that are counted off by their sizes
pub commands_of_walk : (image : List ℕ) (arch : Option (ℕ × ℕ)) → ((place : ℕ) → ¬ BreaksHeader image arch rule.CommandWalk place) → AreCommands image (commands_of image)
commands_of_walk image arch keeps =
    let (commands, are) = commands_exist image arch keeps in
    subst (AreCommands image) (counted_off image commands are) are

commands_good : (image : List ℕ) (start : ℕ) (xs : List ℕ) (m : ℕ) → Follow image start xs m → All (IsGood image) xs
commands_good image start [] m f k d h = absurd (omega arith)
commands_good image start (x ∷ xs) m f zero d h = f.1
commands_good image start (x ∷ xs) m f (suc k) d h = commands_good image (x + command_size image x) xs m f.2 k d (omega arith)

pub command_good : (image commands : List ℕ) (command : ℕ) → AreCommands image commands → Contains commands command → IsGood image command
command_good image commands command (e, next, chain) has = All-contains (IsGood image) commands command (commands_good image 32 commands next chain) has

pub with_cmd_is : (image commands : List ℕ) (cmd command : ℕ) → Contains (with_cmd image cmd commands) command → command_cmd image command ≡ cmd
with_cmd_is image commands cmd command has =
    let test : ℕ → Bool = λ c. command_cmd image c == cmd in
    eqb-true (command_cmd image command) cmd (All-contains (λ c. test c ≡ true) (filter test commands) command (filter_passes test commands) has)

pub with_cmd_among : (image commands : List ℕ) (cmd command : ℕ) → Contains (with_cmd image cmd commands) command → Contains commands command
with_cmd_among image commands cmd command has =
    let test : ℕ → Bool = λ c. command_cmd image c == cmd in
    All-contains (Contains commands) (filter test commands) command (All-filter test (Contains commands) commands (All-contains_itself commands)) has
