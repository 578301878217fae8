-- What is shown of a rule, by what it is judged over.
use Rattle.std.proofs.Common.{◌≡◌, ℕ, ◌<◌, List, length, Option, None, Some, arith, subst, sym}
use Rattle.macho_fields.specs.declared.rule.Rule.{Rule}
use Rattle.std.proofs.lemmas.Option.{none-some}
use Rattle.macho_explain.specs.Compared.{Shown, OfFile, OfImage}
use Rattle.macho_explain.specs.Explained.{image_in, IsImageFound, IsImageOf, LacksAs, MatchesByAs, ShowsAs}
use Rattle.macho_explain.specs.declared.explanation.Explanation.{Explanation}
use Rattle.macho_explain.specs.declared.part.Part.{Part}
use Rattle.macho_explain.specs.declared.sliced.Sliced.{Sliced}
use Rattle.macho_explain.proofs.FirstImages.{one_first, one_image}

-- a place past the file
pub lacks_past : (s : Shown) (r : Rule) (file : List ℕ) (place : ℕ) → length file < place → LacksAs s r file place
lacks_past (OfFile S P) r file place past = λ within. absurd (omega arith)
lacks_past (OfImage S P) r file place past = λ within kept byte k at image is first of. absurd (omega arith)

pub lacks : (s : Shown) (r : Rule) (file : List ℕ) (place : ℕ) (image : Option Sliced) → IsImageFound r file place image → MatchesByAs s file place image None → LacksAs s r file place
lacks (OfFile S P) r file place image found none = λ within. none
lacks (OfImage S P) r file place None found none = λ within kept byte k at image is first of. absurd (found kept byte k is first.0)
lacks (OfImage S P) r file place (Some i) found none = λ within kept byte k at image is first of has.
    let same : k ≡ i.index = one_first file byte k i.index first (found.1 byte is) in
    let there = subst (λ n. IsImageOf file place n image at) same of in
    let (bytes, start) = one_image file place i.index at i.place image (image_in i) there found.0 in
    none (subst (λ n. S (image_in i) n) start (subst (λ b. S b at) bytes has))

abbrev pub with_part : Explanation → Part → Explanation
with_part e part = record e { at = record e.at { part = part } }

pub shows : (s : Shown) (r : Rule) (file : List ℕ) (place : ℕ) (image : Option Sliced) (e : Explanation) (part : Part) → IsImageFound r file place image → MatchesByAs s file place image (Some e)
    → ShowsAs s r file place (with_part e part)
shows (OfFile S P) r file place image e part found has = has
shows (OfImage S P) r file place None e part found has = absurd (none-some e (sym has))
shows (OfImage S P) r file place (Some i) e part found has = (
  i,
  found.0,
  found.1,
  record { slice = has.0.slice; command = has.0.command; section = has.0.section; symbol = has.0.symbol },
  has.1,
)
