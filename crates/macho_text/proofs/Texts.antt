-- The texts of names.
use Rattle.std.proofs.Common.{◌≡◌, ℕ, ◌-◌, ◌<◌, ◌≤◌, zero, suc, List, [], ◌∷◌, ◌++◌, length}
use Rattle.std.proofs.Common.{map, take, drop, get_or, false, ◌==◌, arith, refl, sym, ap, ◌∙◌, append-nil, IsTrue}
use Rattle.std.specs.Prelude.{codes}
use Rattle.macho_text.specs.Stream.{joined}
use Rattle.macho_text.specs.Number.{byte_hex}
use Rattle.macho_text.specs.Name.{is_plain, escaped, quoted}
use Rattle.std.proofs.lemmas.Bool.{agree_below_at}
use Rattle.std.proofs.lemmas.List.{take_all, drop_all}
use Rattle.macho_text.proofs.StreamLemmas.{rest_is}
use Rattle.macho_text.proofs.Puts.{put_next, put_last}

escaped_plain : (byte : ℕ) → IsTrue (is_plain byte) → escaped byte ≡ byte ∷ []
escaped_plain byte plain = grind arith

-- `1` for each plain byte
unfoldable pub plain_bytes : List ℕ
plain_bytes = codes "0000000000000000000000000000000011011111111111111111111111111111111111111111111111111111111101111111111111111111111111111111111000000000000000000000000000000000000000000000000000000000000000000000000000000000000000000000000000000000000000000000000000000000"

pub listed_plain : (byte : ℕ) → byte < 256 → (get_or plain_bytes byte 0 == 49) ≡ is_plain byte
unfolding plain_bytes
listed_plain byte h = agree_below_at (λ k. get_or plain_bytes k 0 == 49) is_plain 256 byte refl h

-- any other byte is written as its digits
pub escaped_other : (byte : ℕ) → is_plain byte ≡ false → escaped byte ≡ joined (codes "\\x" ∷ byte_hex byte ∷ [])
escaped_other byte other = rw other refl

-- plain bytes are written as they are
pub escaped_run : (n : ℕ) (bytes : List ℕ) → n ≤ length bytes → ((k : ℕ) → k < n → IsTrue (is_plain (get_or bytes k 0)))
    → joined (map escaped bytes) ≡ take n bytes ++ joined (map escaped (drop n bytes))
unfolding joined
escaped_run zero bytes h plain = refl
escaped_run (suc n) [] h plain = absurd (omega arith)
escaped_run (suc n) (byte ∷ bytes) h plain =
    let first : IsTrue (is_plain byte) = plain 0 (omega arith) in
    let fewer : n ≤ length bytes = omega arith in
    rw (escaped_plain byte first) (ap (λ l. byte ∷ l) (escaped_run n bytes fewer (λ k less. plain (suc k) (omega arith))))

-- the texts of plain bytes and of the bytes that are left
pub escaped_front : (n : ℕ) (bytes : List ℕ) → n ≤ length bytes → ((k : ℕ) → k < n → IsTrue (is_plain (get_or bytes k 0)))
    → joined (map escaped bytes) ≡ take n bytes ++ joined (map escaped (take (length bytes - n) (drop n bytes)))
escaped_front n bytes h plain = rw (rest_is (length bytes) n bytes refl) (escaped_run n bytes h plain)

all_plain : (name : List ℕ) → ((k : ℕ) → k < length name → IsTrue (is_plain (get_or name k 0))) → joined (map escaped name) ≡ name
unfolding joined
all_plain name plain =
    escaped_run (length name) name (omega arith) plain ∙ rw (take_all (length name) name (omega arith), drop_all (length name) name (omega arith)) (append-nil name)

-- a name of plain bytes, in quotes
pub plain_quoted : (before first second third name : List ℕ) → ((k : ℕ) → k < length name → IsTrue (is_plain (get_or name k 0)))
    → first ≡ before ++ codes "\"" → second ≡ first ++ name → third ≡ second ++ codes "\"" → third ≡ before ++ quoted name
plain_quoted before first second third name plain a b c =
    put_next before first third (codes "\"") (joined (map escaped name) ∷ codes "\"" ∷ []) a
    (put_next first second third (joined (map escaped name)) (codes "\"" ∷ []) (b ∙ ap (λ l. first ++ l) (sym (all_plain name plain)))
    (put_next second third third (codes "\"") [] c (put_last third)))
