use Rattle.std.proofs.Common.{◌≡◌, ◌≢◌, ℕ, ◌⊎◌, List, IsSomeAnd, arith, rules, sym, subst, inl, inr}
use Rattle.std.proofs.lemmas.Bool.{cases_eq, both_ways}
use Rattle.macho_fields.specs.Bytes.{bytes_of}
use Rattle.macho_fields.specs.Image.{cpu_type, cpu_subtype}
use Rattle.macho_fields.specs.Universal.{masked}
use Rattle.macho_fields.specs.First.{rank}
use Rattle.macho_fields.specs.declared.rule.Rule.TheVariants as rule
use Rattle.macho_image.proofs.KeptRules.{has_header, header_kept, header_broken}
use Rattle.macho_image.proofs.walk.arch_mismatch.Goals as goal

-- the architecture is not the image's
abbrev IsOther : List ℕ → ℕ × ℕ → Type 0
IsOther image pair = (pair.0 ≢ cpu_type image) ⊎ (masked pair.1 ≢ masked (cpu_subtype image))

differs : (image : List ℕ) (pair : ℕ × ℕ) → ¬ ((pair.0 ≡ cpu_type image) × (masked pair.1 ≡ masked (cpu_subtype image))) → IsOther image pair
differs image pair other = elim (cases_eq pair.0 (cpu_type image)) [ inl same ↦ inr (λ e. other (same, e)) | inr not ↦ inl not ]

pub has_arch-requires : goal.has_arch-requires
has_arch-requires c = has_header _ c.args.candidate.arch (rank rule.ArchMismatch) (omega arith) c.requires

pub returns-in_default-clause-decides : goal.returns-in_default-clause-decides
returns-in_default-clause-decides c =
    let image = bytes_of c.args.candidate.bytes in
    header_kept image c.args.candidate.arch rule.ArchMismatch (λ _ _ h. h) c.requires (search rules)

pub returns-then-not-has_arch-clause-decides : goal.returns-then-not-has_arch-clause-decides
returns-then-not-has_arch-clause-decides c =
    let image = bytes_of c.args.candidate.bytes in
    let other = differs image _ (λ same. both_ways c.has_arch.result c.if-not-has_arch.true (c.has_arch.ensures.1 same)) in
    header_broken image c.args.candidate.arch rule.ArchMismatch (λ _ _ h. h) c.requires _ c.at.ensures.rule
    (c.at.ensures.place, subst (λ arch. IsSomeAnd arch (IsOther image)) (sym c.in-Some.is) other) (search rules)

pub returns-clause-decides : goal.returns-clause-decides
returns-clause-decides c =
    let image = bytes_of c.args.candidate.bytes in
    let same = c.has_arch.ensures.0 c.if-not-has_arch.false in
    header_kept image c.args.candidate.arch rule.ArchMismatch (λ _ _ h. h) c.requires (λ place broken. agrees image _ same (subst (λ arch. IsSomeAnd arch (IsOther image)) c.in-Some.is broken.1))
  where
    agrees : (image : List ℕ) (pair : ℕ × ℕ) → (pair.0 ≡ cpu_type image) × (masked pair.1 ≡ masked (cpu_subtype image)) → ¬ IsOther image pair
    agrees image pair same (inl not) = not same.0
    agrees image pair same (inr not) = not same.1
