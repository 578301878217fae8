-- The entry of the thread of an image, or that it has none.
use Rattle.std.proofs.Common.{◌≡◌, ◌+◌, ◌<◌, ◌↔◌, ℕ, List, Option, None, Some, refl, sym, subst, arith}
use Rattle.macho_commands.specs.Commands.{IsThreadEntry}
use Rattle.macho_rows.specs.Rows.{IsBrokenImage, HasUnbrokenHeaders}
use Rattle.macho_c.specs.Threads.{IsThreadEntryOf}

-- what is found in the image that the bytes are
pub entry_found : (bytes image : List ℕ) (found : Option ℕ) → HasUnbrokenHeaders bytes None → image ≡ bytes → ((entry : ℕ) → (found ≡ Some entry) ↔ IsThreadEntry image entry)
    → IsThreadEntryOf bytes found
entry_found bytes image None good same is = λ entry names. let none : None ≡ Some entry = (is entry).1 (subst (λ (i : List ℕ). IsThreadEntry i entry) (sym same) names.1) in absurd (cc)
entry_found bytes image (Some entry) good same is = (good, subst (λ (i : List ℕ). IsThreadEntry i entry) same ((is entry).0 refl))

-- bytes that break a rule of the headers have none
pub none_opened : (bytes : List ℕ) → IsBrokenImage bytes None → IsThreadEntryOf bytes None
none_opened bytes (r, place, most, broken) entry names = names.0 r place (omega (arith, most)) broken
