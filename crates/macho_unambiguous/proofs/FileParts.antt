-- A byte of the file is in the file part of one segment.
use Rattle.std.proofs.Common.{◌≡◌, ℕ, ◌<◌, List, Contains, inl, inr}
use Rattle.std.proofs.lemmas.Bool.{cases_order}
use Rattle.macho_fields.proofs.Lists.{any_of}
use Rattle.macho_fields.specs.Segment.{all_segments}
use Rattle.macho_fields.specs.declared.rule.Rule.TheVariants as rule
use Rattle.macho_strict.specs.Rules.{BreaksStrictImage, IsByteOfSegment}

module _ (image : List ℕ) (strict : (place : ℕ) → ¬ BreaksStrictImage image rule.SegmentFileOverlap place) where
  shared_later : (a b place : ℕ) → Contains (all_segments image) a → Contains (all_segments image) b → IsByteOfSegment image a place → IsByteOfSegment image b place → a < b → ⊥
  shared_later a b place has_a has_b in_a in_b less =
      strict b (has_b, any_of (λ earlier. (earlier < b) × ((p : ℕ) × IsByteOfSegment image earlier p × IsByteOfSegment image b p)) (all_segments image) a has_a (less, (place, in_a, in_b)))

  pub one_part : (a b place : ℕ) → Contains (all_segments image) a → Contains (all_segments image) b → IsByteOfSegment image a place → IsByteOfSegment image b place → a ≡ b
  one_part a b place has_a has_b in_a in_b = elim (cases_order a b) [
    | inl same ↦ same
    | inr (inl less) ↦ absurd (shared_later a b place has_a has_b in_a in_b less)
    | inr (inr less) ↦ absurd (shared_later b a place has_b has_a in_b in_a less)
  ]
