-- The commands of an image follow one another, in one way only.
use Rattle.std.proofs.Common.{◌≡◌, ℕ, suc, zero, ◌+◌, ◌≤◌, ◌<◌, List, [], ◌∷◌, length, All, AllPairs, refl, sym, ap, ap₂, ◌∙◌, subst, arith}
use Rattle.std.specs.List.Sorted.{IsStrictlyIncreasing}
use Rattle.macho_fields.specs.Image.{command_size, places_from, commands_of, Follow, AreCommands}

pub follow_unique : (image : List ℕ) (start : ℕ) (xs ys : List ℕ) (m n : ℕ) → length xs ≡ length ys → Follow image start xs m → Follow image start ys n → xs ≡ ys
follow_unique image start [] [] m n e f g = refl
follow_unique image start [] (y ∷ ys) m n e f g = absurd (omega arith)
follow_unique image start (x ∷ xs) [] m n e f g = absurd (omega arith)
follow_unique image start (x ∷ xs) (y ∷ ys) m n e f g =
    let same : y ≡ x = g.0 ∙ sym f.0 in
    let rest : length xs ≡ length ys = omega arith in
    let tail = subst (λ p. Follow image (p + command_size image p) ys n) same g.2 in
    ap₂ (λ p ps. p ∷ ps) (sym same) (follow_unique image (x + command_size image x) xs ys m n rest f.2 tail)

-- an image has at most one list of commands
pub commands_unique : (image xs ys : List ℕ) → AreCommands image xs → AreCommands image ys → xs ≡ ys
commands_unique image xs ys (n, m, f) (k, l, g) = follow_unique image 32 xs ys m l (n ∙ sym k) f g

counted_off_from : (image : List ℕ) (start : ℕ) (xs : List ℕ) (next : ℕ) → Follow image start xs next → xs ≡ places_from image start (length xs)
counted_off_from image start [] next chain = refl
counted_off_from image start (x ∷ xs) next chain =
    let rest : xs ≡ places_from image (x + command_size image x) (length xs) = counted_off_from image (x + command_size image x) xs next chain.2 in
    let first : x ≡ start = chain.0 in
    ap (λ ys. x ∷ ys) rest ∙ ap (λ p. p ∷ places_from image (p + command_size image p) (length xs)) first

-- the list of the commands of an image is counted off by their sizes
pub counted_off : (image commands : List ℕ) → AreCommands image commands → commands ≡ commands_of image
counted_off image commands (count, next, chain) = counted_off_from image 32 commands next chain ∙ ap (places_from image 32) count

pub places_above : (image : List ℕ) (start : ℕ) (xs : List ℕ) (m : ℕ) → Follow image start xs m → All (λ place. start ≤ place) xs
places_above image start [] m f k d h = absurd (omega arith)
places_above image start (x ∷ xs) m f zero d h = omega arith
places_above image start (x ∷ xs) m f (suc k) d h =
    let later = places_above image (x + command_size image x) xs m f.2 k d (omega arith) in omega arith

-- the places of commands rise
pub places_rise : (image : List ℕ) (start : ℕ) (xs : List ℕ) (m : ℕ) → Follow image start xs m → AllPairs (λ a b. a < b) xs
places_rise image start [] m f i j d h l = absurd (omega arith)
places_rise image start (x ∷ xs) m f i zero d h l = absurd (omega arith)
places_rise image start (x ∷ xs) m f zero (suc j) d h l =
    let good : 8 ≤ command_size image x = f.1.least in
    let later = places_above image (x + command_size image x) xs m f.2 j d (omega arith) in omega arith
places_rise image start (x ∷ xs) m f (suc i) (suc j) d h l =
    places_rise image (x + command_size image x) xs m f.2 i j d (omega arith) (omega arith)

-- the places of the commands of an image rise
pub command_places_rise : (image commands : List ℕ) → AreCommands image commands → IsStrictlyIncreasing commands
command_places_rise image commands (n, next, chain) k less = places_rise image 32 commands next chain k (k + 1) 0 (omega arith) less
