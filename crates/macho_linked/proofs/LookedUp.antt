-- The indirect entries of the stubs and pointers of an image that breaks no rule.
use Rattle.std.proofs.Common.{◌≡◌, ℕ, ◌+◌, ◌*◌, ◌/◌, ◌%◌, ◌≤◌, ◌<◌, ◌⊎◌, List, length, Contains, Option, Some, None, refl, sym, ap, ◌∙◌, arith, lit<, inl, inr}
use Rattle.std.specs.Option.{option_map_or}
use Rattle.std.proofs.Math.Nat.{mul-le-mul_left}
use Rattle.std.proofs.lemmas.Bool.{cases_lt, cases_eq}
use Rattle.macho_fields.specs.Image.{commands_of}
use Rattle.macho_fields.specs.Layers.{NothingBreaks}
use Rattle.macho_fields.specs.LoadCommands.{indirect_table}
use Rattle.macho_fields.specs.Rules as layout
use Rattle.macho_fields.specs.Segment.{section_size}
use Rattle.macho_fields.specs.Symbol.{indirectsymoff, nindirectsyms}
use Rattle.macho_fields.specs.declared.header.loader.TheConstants as loader
use Rattle.macho_fields.specs.declared.load_command.Structure.TheVariants.{DysymtabCommand}
use Rattle.macho_fields.specs.declared.rule.Rule.TheVariants as rule
use Rattle.macho_fields.proofs.LoadCommands.{indirects_listed}
use Rattle.macho_image.specs.Command.{first_with_cmd}
use Rattle.macho_image.specs.Segment.{reserved1, sections_of}
use Rattle.macho_linked.specs.LookedUp.{HasStub, bytes_of_entry, bytes_of_indirects, IsLookedUpSafely}
use Rattle.macho_linked.specs.Rules.{BreaksImage}
use Rattle.macho_rules.proofs.OneCommand.{is_with_cmd}
use Rattle.macho_rules.proofs.Searches.{any_of}
use Rattle.macho_rules.proofs.TableItems.{table_inside}
use Rattle.macho_spans.specs.Span.{IsInside, end_of}
use Rattle.macho_symbols.specs.Indirects.{stride, indirect_count, IsBadIndirects}

module _ (image : List ℕ) (kept : NothingBreaks (BreaksImage image)) (unbroken : NothingBreaks (layout.BreaksImage image None)) (section k : ℕ) (stub : HasStub image section k) where
  abbrev size : ℕ
  size = section_size image section

  abbrev each : ℕ
  each = stride image section

  good : ¬ IsBadIndirects image section
  good bad =
      let (segment, has) = stub.among in
      kept rule.IndirectRange section (any_of (λ (s : ℕ × ℕ). (section ≡ s.1) × IsBadIndirects image s.1) (sections_of image (commands_of image)) (segment, section) has (refl, bad))

  sized : 0 < each
  sized = elim (cases_eq each 0) [ inl none ↦ absurd (good (stub.kind, inl (inl none))) | inr some ↦ omega (arith, some) ]

  even : size % each ≡ 0
  even = elim (cases_eq (size % each) 0) [ inl none ↦ none | inr rest ↦ absurd (good (stub.kind, inl (inr rest))) ]

  enough : reserved1 image section + size / each ≤ indirect_count image
  enough = elim (cases_lt (indirect_count image) (reserved1 image section + size / each)) [ inl past ↦ absurd (good (stub.kind, inr past)) | inr fits ↦ fits ]

  -- so many fill the section
  filled : each * (size / each) ≡ size
  filled = let some = sized in let rest = even in omega (arith, some, rest)

  among : k < size / each
  among = elim (cases_lt k (size / each)) [
    | inl less ↦ less
    | inr past ↦
        let most = mul-le-mul_left each past in
        let fill = filled in
        let begins = stub.begins in absurd (omega (arith, most, fill, begins))
  ]

  ends : each * (k + 1) ≤ size
  ends =
      let less = among in
      let next : k + 1 ≤ size / each = omega (arith, less) in
      let most = mul-le-mul_left each next in
      let fill = filled in omega (arith, most, fill)

  in_table : reserved1 image section + k < indirect_count image
  in_table = let less = among in let most = enough in omega (arith, less, most)

  -- the LC_DYSYMTAB's, if there is one
  counted : (d : ℕ) → first_with_cmd image loader.LC_DYSYMTAB (commands_of image) ≡ Some d → reserved1 image section + k < nindirectsyms image d
  counted d first =
      let less = in_table in
      let same : indirect_count image ≡ nindirectsyms image d = ap (λ o. option_map_or (nindirectsyms image) o 0) first in omega (arith, less, same)

  there : (o : Option ℕ) → first_with_cmd image loader.LC_DYSYMTAB (commands_of image) ≡ o
      → (d : ℕ) × (first_with_cmd image loader.LC_DYSYMTAB (commands_of image) ≡ Some d) × IsInside (bytes_of_entry image d section k) (bytes_of_indirects image d)
  there None none =
      let less = in_table in
      let same : indirect_count image ≡ 0 = ap (λ o. option_map_or (nindirectsyms image) o 0) none in absurd (omega (arith, less, same))
  there (Some d) first = let less = counted d first in (d, first, (omega arith, omega (arith, less)))

  entry_inside : (d : ℕ) → first_with_cmd image loader.LC_DYSYMTAB (commands_of image) ≡ Some d → end_of (bytes_of_entry image d section k) ≤ length image
  entry_inside d first =
      let less = counted d first in
      elim (cases_lt (length image) (indirectsymoff image d + nindirectsyms image d * 4)) [
        | inl past ↦ absurd (table_inside image loader.LC_DYSYMTAB DysymtabCommand d indirect_table rule.SymbolName (lit< tt) (λ other place early. unbroken other place) refl
            (is_with_cmd image loader.LC_DYSYMTAB d first) indirects_listed (omega (arith, less), past))
        | inr fits ↦ omega (arith, less, fits)
      ]

pub looked_up : (image : List ℕ) → NothingBreaks (BreaksImage image) → NothingBreaks (layout.BreaksImage image None) → IsLookedUpSafely image
looked_up image kept unbroken = record {
  whole = λ section k stub. (sized image kept unbroken section k stub, ends image kept unbroken section k stub);
  entry = λ section k stub. there image kept unbroken section k stub (first_with_cmd image loader.LC_DYSYMTAB (commands_of image)) refl;
  inside = λ section k d stub first. entry_inside image kept unbroken section k stub d first;
}
