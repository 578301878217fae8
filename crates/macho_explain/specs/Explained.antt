-- What explains a refusal. (docs/reference/explain.md)
use Rattle.std.specs.Prelude.{◌≡◌, ℕ, ◌+◌, ◌≤◌, ◌⊎◌, List, length, Option, Some, None, IfSome, IsSomeAnd, MatchOption, slice_get}
use Rattle.std.specs.Option.{option_map}
use Rattle.macho_fields.specs.Bytes.{bytes_of}
use Rattle.macho_fields.specs.Universal.{slices_of}
use Rattle.macho_fields.specs.declared.rule.Rule.{Rule}
use Rattle.macho_exports.specs.ExportTrie.{node_at}
use Rattle.macho_exports.specs.Exports.{export_table}
use Rattle.macho_signature.specs.Superblobs.{entry_offset}
use Rattle.macho_spans.specs.Span.{end_of}
use Rattle.macho_explain.specs.Compared.{Shown, OfFile, OfImage, shown, node_bounds}
use Rattle.macho_explain.specs.FirstSlices.{HasImageWith, HasSlices, IsByteOf, IsFirstWith}
use Rattle.macho_explain.specs.Wholes.{IsWhole}
use Rattle.macho_explain.specs.Explain.{all_loads, image_of, IsCommandAt, IsSectionAt, IsSymbolAt}
use Rattle.macho_explain.specs.declared.explanation.Explanation.{Explanation}
use Rattle.macho_explain.specs.declared.exports.NodeHere.{NodeHere}
use Rattle.macho_explain.specs.declared.part.Part.{Part}
use Rattle.macho_explain.specs.declared.signature.Within.{Within}
use Rattle.macho_explain.specs.declared.signature.Within.TheVariants as within
use Rattle.macho_explain.specs.declared.sliced.Sliced.{Sliced}
use Rattle.macho_explain.specs.declared.spot.Spot.{Spot}

-- The image that has the place, by the index of its slice, its bytes, and the place in it. The slice has the place, or
-- ends there.
abbrev pub IsImageOf : List ℕ → ℕ → ℕ → List ℕ → ℕ → Type 0
IsImageOf file place index image at =
    IsSomeAnd (slice_get (slices_of file) index) (λ slice.
    (image ≡ image_of file slice) × (place ≡ slice.start + at) × (at ≤ slice.size))

-- the bytes of the image that has the place
abbrev pub image_in : Sliced → List ℕ
image_in sliced = bytes_of sliced.held.bytes

-- The indices name the parts that have the place. If the walk over the commands breaks off there, it is the index
-- that a command would have there.
pub record IsSpot (sliced : Sliced) (spot : Spot) : Type 0 where
  pub slice : spot.slice ≡ Some sliced.index
  pub command : IfSome spot.command (λ k.
      IsCommandAt (image_in sliced) k sliced.place ⊎ (k ≡ length (all_loads (image_in sliced))))
  pub section : IfSome spot.section (λ k. IsSectionAt (image_in sliced) k sliced.place)
  pub symbol : IfSome spot.symbol (λ k. IsSymbolAt (image_in sliced) k sliced.place)

-- what is said of the image that has the place
abbrev pub ExplainsAs : Shown → Sliced → Explanation → Type 0
ExplainsAs (OfFile S P) sliced e = ⊥
ExplainsAs (OfImage S P) sliced e =
    IsSpot sliced e.at × P (image_in sliced) sliced.place e.conflict

abbrev pub Explains : Rule → Sliced → Explanation → Type 0
Explains rule sliced e = ExplainsAs (shown rule) sliced e

-- what the rule is about is explained, if anything is promised of it
abbrev pub MatchesAs : Shown → Sliced → Option Explanation → Type 0
MatchesAs (OfFile S P) sliced found = ⊥
MatchesAs (OfImage S P) sliced found =
    MatchOption found (¬ S (image_in sliced) sliced.place)
    (λ e. IsSpot sliced e.at × P (image_in sliced) sliced.place e.conflict)

abbrev pub ExplainsIn : Rule → Sliced → Option Explanation → Type 0
ExplainsIn rule sliced found = MatchesAs (shown rule) sliced found

-- the same of a rule that is judged over the file
abbrev pub MatchesFileAs : Shown → List ℕ → ℕ → Option Explanation → Type 0
MatchesFileAs (OfFile S P) file place found =
    MatchOption found (¬ S file place) (λ e. P file place e.at.slice e.conflict)
MatchesFileAs (OfImage S P) file place found = ⊥

abbrev pub ExplainsFile : Rule → List ℕ → ℕ → Option Explanation → Type 0
ExplainsFile rule file place found = MatchesFileAs (shown rule) file place found

-- of either, by the image that was found to have the place
abbrev pub MatchesByAs : Shown → List ℕ → ℕ → Option Sliced → Option Explanation → Type 0
MatchesByAs (OfFile S P) file place image found =
    MatchOption found (¬ S file place) (λ e. P file place e.at.slice e.conflict)
MatchesByAs (OfImage S P) file place image found =
    MatchOption image (found ≡ None) (λ i. MatchesAs (OfImage S P) i found)

abbrev pub ExplainsBy : Rule → List ℕ → ℕ → Option Sliced → Option Explanation → Type 0
ExplainsBy rule file place image found = MatchesByAs (shown rule) file place image found

-- the part lies in a file of this length, and has the place
pub record HasPlace (size place : ℕ) (part : Part) : Type 0 where
  pub inside : part.start + part.size ≤ size
  pub from : part.start ≤ place
  pub to : place ≤ part.start + part.size

-- what is shown of the file, or of the image in the first slice that has the byte, and the indices
abbrev pub ShowsAs : Shown → Rule → List ℕ → ℕ → Explanation → Type 0
ShowsAs (OfFile S P) r file place e = P file place e.at.slice e.conflict
ShowsAs (OfImage S P) r file place e =
    (image : Sliced) × IsImageOf file place image.index (image_in image) image.place
    × ((byte : ℕ) → IsByteOf r place byte → IsFirstWith file byte image.index)
    × IsSpot image e.at × P (image_in image) image.place e.conflict

-- The explanation says why the rule is broken at a place of the file.
abbrev pub IsExplained : Rule → List ℕ → ℕ → Explanation → Type 0
IsExplained rule file place e =
    HasPlace (length file) place e.at.part × ShowsAs (shown rule) rule file place e

-- Nothing explains it: what the rule is about is not there, in the file, or in the image in the first slice that has
-- the byte.
abbrev pub LacksAs : Shown → Rule → List ℕ → ℕ → Type 0
LacksAs (OfFile S P) r file place = place ≤ length file → ¬ S file place
LacksAs (OfImage S P) r file place =
    place ≤ length file → HasSlices file → (byte k at : ℕ) (image : List ℕ) → IsByteOf r place byte
    → IsFirstWith file byte k → IsImageOf file place k image at → ¬ S image at

abbrev pub IsUnexplained : Rule → List ℕ → ℕ → Type 0
IsUnexplained rule file place = LacksAs (shown rule) rule file place

-- What only proofs need.

-- the image that was found to have the place
abbrev pub IsImageFound : Rule → List ℕ → ℕ → Option Sliced → Type 0
IsImageFound r file place found =
    MatchOption found
    (HasSlices file → (byte k : ℕ) → IsByteOf r place byte → ¬ HasImageWith file byte k)
    (λ i. IsImageOf file place i.index (image_in i) i.place
    × ((byte : ℕ) → IsByteOf r place byte → IsFirstWith file byte i.index))

-- a place of the export trie, and the node there, if one ends in it
pub record IsNodeHere (sliced : Sliced) (node : NodeHere) : Type 0 where
  pub spot : IsSpot sliced node.at
  pub whole : IsWhole (image_in sliced) (export_table (image_in sliced)) node.table.span (bytes_of node.trie)
  pub place : sliced.place ≡ node.table.span.start + node.offset
  pub bounds : node.bounds ≡ option_map node_bounds (node_at (bytes_of node.trie) node.offset)
  pub inside : IfSome node.bounds (λ bounds. end_of bounds.0 ≤ length (bytes_of node.trie))

-- the place is the start of a signature, or the start of an entry
abbrev pub IsWithin : Sliced → ℕ → Within → Type 0
IsWithin sliced start (within.Start at) = IsSpot sliced at × (sliced.place ≡ start)
IsWithin sliced start (within.Entry at k) = IsSpot sliced at × (sliced.place ≡ start + entry_offset k)
