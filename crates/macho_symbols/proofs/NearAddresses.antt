-- The addresses that lie in a mapped segment, or at its end.
use Rattle.std.proofs.Common.{◌≡◌, ◌↔◌, ℕ, ◌+◌, ◌-◌, ◌≤◌, ◌<◌, List, Any, Contains, sym, subst, arith, inl, inr}
use Rattle.std.proofs.lemmas.Bool.{cases_lt}
use Rattle.macho_fields.proofs.Lists.{any_of, contains_mapped}
use Rattle.macho_fields.specs.Segment.{all_segments, vmaddr, vmsize, Supplies}
use Rattle.macho_rules.specs.Mapped.{memory_at, mapped_memory, mapped_segments}
use Rattle.macho_rules.proofs.Mapped.{mapped_among, among_mapped, mapped_positive}
use Rattle.macho_rules.proofs.Searches.{mapped_has, one_of}
use Rattle.macho_symbols.specs.Addresses.{IsNear, IsNearMapped, IsNearSegment}
use Rattle.macho_tables.specs.MappedAddresses.{IsMapped}

module _ (image : List ℕ) (address : ℕ) where
  abbrev IsNearOf : ℕ → Type 0
  IsNearOf segment = (vmaddr image segment ≤ address) × (address ≤ vmaddr image segment + vmsize image segment)

  -- by the spans of all mapped segments
  pub near_spans : Any (IsNear address) (mapped_memory image) ↔ IsNearSegment image address
  near_spans = (
    λ any.
        let (memory, has, here) = one_of (IsNear address) (mapped_memory image) any in
        let (segment, among, at) = mapped_has (memory_at image) (mapped_segments image) memory has in
        any_of IsNearOf (mapped_segments image) segment among (subst (IsNear address) (sym at) here),
    λ any.
        let (segment, among, here) = one_of IsNearOf (mapped_segments image) any in
        any_of (IsNear address) (mapped_memory image) (memory_at image segment) (contains_mapped (memory_at image) (mapped_segments image) segment among) here,
  )

  among_near : (segment : ℕ) → Supplies image segment address → IsNearOf segment
  among_near segment supplies = let high = supplies.1 in (supplies.0, omega (arith, high))

  -- by the address and the one before it
  pub near_mapped : IsNearMapped image address ↔ IsNearSegment image address
  near_mapped = (
    λ near. elim near [
      | inl here ↦ inside here
      | inr before ↦ past before
    ],
    λ any. let (segment, among, here) = one_of IsNearOf (mapped_segments image) any in either segment (mapped_among image segment among) (mapped_positive image segment among) here,
  )
    where
      inside : IsMapped image address → IsNearSegment image address
      inside any =
          let (segment, has, supplies) = one_of (λ s. Supplies image s address) (all_segments image) any in
          let low = supplies.0 in
          let high = supplies.1 in
          any_of IsNearOf (mapped_segments image) segment (among_mapped image segment has (omega (arith, low, high))) (among_near segment supplies)

      past : (last : ℕ) × (address ≡ last + 1) × IsMapped image last → IsNearSegment image address
      past (last, is, any) =
          let (segment, has, supplies) = one_of (λ s. Supplies image s last) (all_segments image) any in
          let low = supplies.0 in
          let high = supplies.1 in
          any_of IsNearOf (mapped_segments image) segment (among_mapped image segment has (omega (arith, low, high))) (omega (arith, is, low), omega (arith, is, high))

      either : (segment : ℕ) → Contains (all_segments image) segment → 0 < vmsize image segment → IsNearOf segment → IsNearMapped image address
      either segment has some (low, high) = elim (cases_lt address (vmaddr image segment + vmsize image segment)) [
        | inl less ↦ inl (any_of (λ s. Supplies image s address) (all_segments image) segment has (low, less))
        | inr end ↦ inr (address - 1, omega (arith, some, end), any_of (λ s. Supplies image s (address - 1)) (all_segments image) segment has (omega (arith, some, end), omega (arith, some, high)))
      ]
