-- The addresses to which the segments of an unbroken image are mapped.
use Rattle.std.proofs.Common.{◌≡◌, ◌∙◌, ◌↔◌, ℕ, ◌+◌, ◌^◌, ◌<◌, List, Bool, IsTrue, Option, Some, None, sym, arith, inl, inr}
use Rattle.std.specs.Option.{option_map, is_some}
use Rattle.std.proofs.lemmas.Bool.{cases_lt, false≢true}
use Rattle.macho_fields.specs.Image.{commands_of}
use Rattle.macho_fields.specs.Layers.{NothingBreaks}
use Rattle.macho_fields.specs.Rules.{BreaksImage}
use Rattle.macho_fields.specs.Segment.{Source, IsAtAddress, Supplies, all_segments, vmaddr, vmsize}
use Rattle.macho_fields.specs.declared.rule.Rule.TheVariants as rule
use Rattle.macho_fields.proofs.Decided.{any_or_not}
use Rattle.macho_rules.proofs.Judged.{opened_commands}
use Rattle.macho_rules.proofs.Searches.{any_of, one_of}
use Rattle.macho_rules.proofs.Verdicts.{unbroken_opened}
use Rattle.macho_tables.specs.MappedAddresses.{IsMapped}
use Rattle.macho_tables.proofs.FileBytes.{supplies_or_not}

-- an address to which a segment is mapped has 64 bits
pub mapped_near : (image : List ℕ) → NothingBreaks (BreaksImage image None) → (address : ℕ) → IsMapped image address → address < 2 ^ 64
mapped_near image keeps address (k, segment, less, at, covers) =
    elim (cases_lt (2 ^ 64) (vmaddr image segment + vmsize image segment)) [
      | inl past ↦ absurd (keeps rule.SegmentAddress segment (inr (commands_of image, opened_commands image (unbroken_opened image keeps), ((k, less, at), past))))
      | inr inside ↦ let below = covers.1 in omega (arith, below, inside)
    ]

-- something is at an address exactly if a segment is mapped to it
pub mapped_if_some : {X : Type 0} (image : List ℕ) (address : ℕ) (of : X → Source) (found : Option X) → IsAtAddress image address (option_map of found)
    → (is : Bool) → is ≡ is_some found → IsTrue is ↔ IsMapped image address
mapped_if_some image address of None (there, missing) is same = (
  λ so. absurd (false≢true (sym same ∙ so)),
  λ any. let (segment, has, supplies) = one_of (λ s. Supplies image s address) (all_segments image) any in
      let never = there segment has supplies in absurd (cc),
)
mapped_if_some image address of (Some source) (there, missing) is same = (
  λ _. elim (any_or_not (λ s. Supplies image s address) (supplies_or_not image address) (all_segments image)) [
    | inl any ↦ any
    | inr none ↦ let never = missing (λ segment has supplies. none (any_of (λ s. Supplies image s address) (all_segments image) segment has supplies)) in absurd (cc)
  ],
  λ _. same,
)
