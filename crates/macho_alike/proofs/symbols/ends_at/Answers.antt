use Rattle.std.proofs.Common.{◌≡◌, ◌∙◌, ◌↔◌, ◌==◌, ℕ, List, [], ◌∷◌, Bool, true, false, cond, IsTrue, refl, sym}
use Rattle.macho_fields.specs.Bytes.{bytes_of}
use Rattle.macho_fields.specs.Field.{string_from}
use Rattle.macho_alike.proofs.Strings.{string_past, string_begins}
use Rattle.macho_alike.proofs.symbols.ends_at.Goals as goal

empty : (b : Bool) (x : ℕ) (rest string : List ℕ) → string ≡ cond b [] (x ∷ rest) → IsTrue b ↔ (string ≡ [])
empty true x rest string is = (λ _. is, λ _. refl)
empty false x rest string is = (λ wrong. absurd (cc), λ none. absurd (cc))

pub returns-in-Some : goal.returns-in-Some
returns-in-Some c =
    empty (c.in-Some.byte == 0) c.in-Some.byte _ (string_from c.args.place (bytes_of c.args.image))
    (string_begins (bytes_of c.args.image) c.args.place c.in-Some.byte (sym c.u8_at.ensures ∙ c.in-Some.is))

pub returns-in-None : goal.returns-in-None
returns-in-None c =
    let none = string_past (bytes_of c.args.image) c.args.place (sym c.u8_at.ensures ∙ c.in-None.is) in (λ _. none, λ _. refl)
