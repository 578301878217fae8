-- The bytes of segments that lie in no element.
use Rattle.std.proofs.Common.{◌≡◌, ◌≢◌, ◌⊎◌, ◌<◌, ℕ, List, [], ◌∷◌, ◌++◌, map, filter, get_or, Any, All, true, false, Contains, Option, None, Some, refl, sym, ap, ◌∙◌, arith, inl, inr}
use Rattle.std.specs.Prelude.{bit_and}
use Rattle.std.proofs.lemmas.Bool.{true≢false, cases_Bool, cases_order, ltb-true, ltb-false}
use Rattle.std.proofs.lemmas.List.{append-nil, map-append}
use Rattle.std.proofs.lemmas.List.Elements.{Contains-get_or, All-contains, filter-append, filter_passes}
use Rattle.macho_fields.specs.FirstPlace.{IsLeastPlace}
use Rattle.macho_fields.specs.Image.{cpu_type}
use Rattle.macho_fields.specs.NonZero.{IsNonZero}
use Rattle.macho_fields.specs.Segment.{fileoff, filesize, initprot}
use Rattle.macho_fields.specs.declared.header.vm_prot.TheConstants as vm_prot
use Rattle.macho_fields.specs.declared.rule.Rule.TheVariants as rule
use Rattle.macho_fields.proofs.Decided.{not_not, any_or_not}
use Rattle.macho_fields.proofs.Lists.{any_of}
use Rattle.macho_spans.specs.Span.{Holds}
use Rattle.macho_spans.specs.declared.span.Span.{Span}
use Rattle.macho_strict.specs.Elements.{elements_of}
use Rattle.macho_strict.specs.Passed.{occupied, CoverSame}
use Rattle.macho_strict.specs.Gaps.{IsFree, IsStray, IsUnpadded}
use Rattle.macho_strict.specs.Nops.{is_nop}
use Rattle.macho_strict.specs.Rules.{BreaksStrictImage, IsByteOfSegment, IsNop, all_segments}
use Rattle.macho_rules.proofs.Mapped.{filtered}
use Rattle.macho_rules.proofs.Searches.{unfiltered}
use Rattle.macho_strict.specs.Sharing.{file_part}
use Rattle.macho_strict.specs.Unclaimed.{is_code, code_among, code_parts}
use Rattle.macho_strict.specs.Verdict.{element_spans}
use Rattle.macho_strict.specs.declared.elements.Element.{Element}
use Rattle.macho_strict.specs.declared.gaps.Wanted.TheVariants as wanted
use Rattle.macho_strict.proofs.Occupied.{occupied_more, occupied_same}
use Rattle.macho_strict.proofs.Passed.{no_span, covers_or_not, least_same, all_of_free, free_of_all}

abbrev span_of : Element → Span
span_of element = element.span

abbrev pub part_of : List ℕ → ℕ → Span
part_of image segment = (file_part image segment).span

module _ (image : List ℕ) where
  abbrev IsLoose : ℕ → Type 0
  IsLoose = IsStray wanted.NonZero image (element_spans image)

  abbrev IsUnclaimed : ℕ → Type 0
  IsUnclaimed = BreaksStrictImage image rule.UnclaimedByte

  free_of : (p : ℕ) → All (λ element. ¬ Holds element.span p) (elements_of image) → IsFree (element_spans image) p
  free_of p none = free_of_all span_of (elements_of image) (record { described = 0; span = no_span }) p none

  of_free : (p : ℕ) → IsFree (element_spans image) p → All (λ element. ¬ Holds element.span p) (elements_of image)
  of_free p free = all_of_free span_of (elements_of image) p free

  -- an unclaimed byte lies in no element
  loose_of : (p : ℕ) → IsUnclaimed p → IsLoose p
  loose_of p (is, any, none) = (is, free_of p none)

  pub none_loose : IsLeastPlace IsLoose None → IsLeastPlace IsUnclaimed None
  none_loose none = λ p unclaimed. none p (loose_of p unclaimed)

  is_code_true : (s : ℕ) → bit_and (initprot image s) vm_prot.VM_PROT_EXECUTE ≢ 0 → is_code image s ≡ true
  is_code_true s some = elim (cases_Bool (is_code image s)) [
    | inl t ↦ t
    | inr f ↦ let most = ltb-false 0 (bit_and (initprot image s) vm_prot.VM_PROT_EXECUTE) f in absurd (some (omega arith))
  ]

  is_code_false : (p s : ℕ) → is_nop (cpu_type image) image p ≡ true → ¬ IsNop image p s → is_code image s ≡ false
  is_code_false p s byte not = elim (cases_Bool (is_code image s)) [
    | inl t ↦ let some = ltb-true 0 (bit_and (initprot image s) vm_prot.VM_PROT_EXECUTE) t in absurd (not (byte, λ none. absurd (omega arith)))
    | inr f ↦ f
  ]

  code_has : (s : ℕ) → Contains (all_segments image) s → is_code image s ≡ true → Contains (filter (is_code image) (all_segments image)) s
  code_has s has t = filtered (is_code image) (all_segments image) s has t

  module _ (keeps_stray : (p : ℕ) → ¬ BreaksStrictImage image rule.StrayByte p) (keeps_apart : (p : ℕ) → ¬ BreaksStrictImage image rule.SegmentFileOverlap p) where
    -- a byte that is not zero lies in some segment
    in_segment : (p : ℕ) → IsNonZero image p → Any (λ segment. IsByteOfSegment image segment p) (all_segments image)
    in_segment p is = not_not (any_or_not (λ segment. IsByteOfSegment image segment p) (λ segment. covers_or_not (fileoff image segment) (filesize image segment) p) (all_segments image))
        (λ none. keeps_stray p (is, λ k d less held. none (any_of _ (all_segments image) (get_or (all_segments image) k d) (Contains-get_or (all_segments image) k d less) held)))

    -- in one alone
    one_segment : (p s t : ℕ) → Contains (all_segments image) s → Contains (all_segments image) t → IsByteOfSegment image s p → IsByteOfSegment image t p → s ≡ t
    one_segment p s t has_s has_t in_s in_t = elim (cases_order s t) [
      | inl same ↦ same
      | inr (inl before) ↦ absurd (keeps_apart t (has_t, any_of _ (all_segments image) s has_s (before, (p, in_s, in_t))))
      | inr (inr after) ↦ absurd (keeps_apart s (has_s, any_of _ (all_segments image) t has_t (after, (p, in_t, in_s))))
    ]

    -- a byte in no element, and in no segment that may be executed where it is a NOP
    module _ (code : List Span) (same : CoverSame (code_parts image) code) where
      abbrev IsBare : ℕ → Type 0
      IsBare p = IsUnpadded (cpu_type image) code image p × IsFree (element_spans image) p

      bare_unclaimed : (p : ℕ) → IsBare p → IsUnclaimed p
      bare_unclaimed p ((is, unpadded), free) =
          let (k, s, less, at, held) = in_segment p is in
          (is, (k, s, less, at, (held, no_nop s (k, less, at) held unpadded)), of_free p free)
        where
          no_nop : (s : ℕ) → Contains (all_segments image) s → IsByteOfSegment image s p → (is_nop (cpu_type image) image p ≡ false) ⊎ IsFree code p → ¬ IsNop image p s
          no_nop s has held (inl other) nop = true≢false (sym nop.0 ∙ other)
          no_nop s has held (inr outside) nop =
              All-contains (λ segment. ¬ Holds (part_of image segment) p) (filter (is_code image) (all_segments image)) s (all_of_free (part_of image) (filter (is_code image) (all_segments image)) p ((same p).1 outside))
              (code_has s has (is_code_true s nop.1)) held

      unclaimed_bare : (p : ℕ) → IsUnclaimed p → IsBare p
      unclaimed_bare p (is, (k, s, less, at, (held, not_nop)), none) = elim (cases_Bool (is_nop (cpu_type image) image p)) [
        | inr differs ↦ ((is, inl differs), free_of p none)
        | inl nop ↦ ((is, inr ((same p).0 (free_of_all (part_of image) (filter (is_code image) (all_segments image)) 0 p (outside nop)))), free_of p none)
      ]
        where
          outside : is_nop (cpu_type image) image p ≡ true → All (λ segment. ¬ Holds (part_of image segment) p) (filter (is_code image) (all_segments image))
          outside nop = λ j d below there.
              let t = get_or (filter (is_code image) (all_segments image)) j d in
              let has : Contains (filter (is_code image) (all_segments image)) t = Contains-get_or (filter (is_code image) (all_segments image)) j d below in
              let one = one_segment p s t (k, less, at) (unfiltered (is_code image) (all_segments image) t has) held there in
              true≢false (sym (All-contains (λ u. is_code image u ≡ true) (filter (is_code image) (all_segments image)) t (filter_passes (is_code image) (all_segments image)) has) ∙ (ap (is_code image) (sym one) ∙ is_code_false p s nop not_nop))

      pub least_unpadded : (found : Option ℕ) → IsLeastPlace IsBare found → IsLeastPlace IsUnclaimed found
      least_unpadded found least = least_same IsBare IsUnclaimed bare_unclaimed unclaimed_bare found least

    -- the first byte in no element, if it is not a NOP
    pub first_loose : (p : ℕ) → is_nop (cpu_type image) image p ≡ false → IsLeastPlace IsLoose (Some p) → IsLeastPlace IsUnclaimed (Some p)
    first_loose p other ((is, free), least) =
        let (k, s, less, at, held) = in_segment p is in
        ((is, (k, s, less, at, (held, λ nop. true≢false (sym nop.0 ∙ other))), of_free p free), λ q unclaimed. least q (loose_of q unclaimed))

-- One segment more. Its bytes are added only if it may be executed and has some.

module _ (image segments : List ℕ) (s : ℕ) where
  one_code : is_code image s ≡ true → code_among image (segments ++ s ∷ []) ≡ code_among image segments ++ part_of image s ∷ []
  one_code code =
      ap (map (part_of image)) (filter-append (is_code image) segments (s ∷ []) ∙ ap (λ rest. filter (is_code image) segments ++ rest) (rw code refl))
      ∙ map-append (part_of image) (filter (is_code image) segments) (s ∷ [])

  pub code_more : is_code image s ≡ true → 0 < (part_of image s).len → occupied (code_among image (segments ++ s ∷ [])) ≡ occupied (code_among image segments) ++ part_of image s ∷ []
  code_more code filled = ap occupied (one_code code) ∙ occupied_more (code_among image segments) (part_of image s) filled

  pub code_empty : is_code image s ≡ true → (part_of image s).len ≡ 0 → occupied (code_among image (segments ++ s ∷ [])) ≡ occupied (code_among image segments)
  code_empty code empty = ap occupied (one_code code) ∙ occupied_same (code_among image segments) (part_of image s) empty

  pub code_same : is_code image s ≡ false → occupied (code_among image (segments ++ s ∷ [])) ≡ occupied (code_among image segments)
  code_same other =
      ap (λ those. occupied (map (part_of image) those)) (filter-append (is_code image) segments (s ∷ []) ∙ (ap (λ rest. filter (is_code image) segments ++ rest) (rw other refl) ∙ append-nil (filter (is_code image) segments)))
