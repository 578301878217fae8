use Rattle.std.proofs.Common.{◌≡◌, ◌<◌, ℕ, List, length, Bool, Option, Some, sym, ap, ◌∙◌, subst, lit<}
use Rattle.macho_fields.specs.Bytes.{bytes_of}
use Rattle.macho_fields.specs.FirstPlace.{IsLeastPlace}
use Rattle.macho_fields.specs.Image.{cpu_type}
use Rattle.macho_fields.specs.Layers.{KeptBelow}
use Rattle.macho_fields.specs.RuleList.{rank}
use Rattle.macho_fields.specs.declared.rule.Rule.TheVariants as rule
use Rattle.macho_strict.specs.Gaps.{IsFree, IsStray, IsUnpadded}
use Rattle.macho_strict.specs.Nops.{is_nop}
use Rattle.macho_strict.specs.Rules.{BreaksStrictImage}
use Rattle.macho_strict.specs.Verdict.{element_spans}
use Rattle.macho_strict.specs.declared.gaps.Wanted.TheVariants as wanted
use Rattle.macho_strict.proofs.Claimed.{on_err}
use Rattle.macho_strict.proofs.Unclaims.{none_loose, first_loose, least_unpadded}
use Rattle.macho_strict.proofs.unclaimed.first_unclaimed.Goals as goal

module _ (image : List ℕ) (kept : KeptBelow (BreaksStrictImage image) (rank rule.UnclaimedByte)) where
  keeps_stray : (p : ℕ) → ¬ BreaksStrictImage image rule.StrayByte p
  keeps_stray p broken = kept rule.StrayByte p (lit< tt) broken

  keeps_apart : (p : ℕ) → ¬ BreaksStrictImage image rule.SegmentFileOverlap p
  keeps_apart p broken = kept rule.SegmentFileOverlap p (lit< tt) broken

at_place : (image : List ℕ) (first : Option ℕ) (p : ℕ) → first ≡ Some p → IsLeastPlace (IsStray wanted.NonZero image (element_spans image)) first → IsLeastPlace (IsStray wanted.NonZero image (element_spans image)) (Some p)
at_place image first p is least = subst (IsLeastPlace (IsStray wanted.NonZero image (element_spans image))) is least

-- what was asked of the bytes that were read, by the processor in their header, is so of the image
nop_at : (image : List ℕ) (cpu : ℕ) → cpu ≡ cpu_type image → (bytes : List ℕ) → bytes ≡ image → (p : ℕ) (test : Bool) → test ≡ is_nop cpu bytes p → is_nop (cpu_type image) image p ≡ test
nop_at image cpu same bytes are p test is = ap (λ n. is_nop n image p) (sym same) ∙ (ap (λ these. is_nop cpu these p) (sym are) ∙ sym is)

pub is_nop-requires : goal.is_nop-requires
is_nop-requires c =
    let least = at_place c.args.image.now c.args.claims.now.loose c.in-Some.place c.in-Some.is c.requires.claims.loose in
    subst (λ (bytes : List ℕ). c.in-Some.place < length bytes) (sym c.bytes.ensures.bytes) least.0.0.0

pub returns-in_default-clause-found : goal.returns-in_default-clause-found
returns-in_default-clause-found c =
    let image = c.args.image.now in
    none_loose image (subst (IsLeastPlace (IsStray wanted.NonZero image (element_spans image))) c.in_default.is c.requires.claims.loose)

pub returns-in_err-code-clause-memory : goal.returns-in_err-code-clause-memory
returns-in_err-code-clause-memory c =
    let image = c.args.image.now in
    let least = at_place image c.args.claims.now.loose c.in-Some.place c.in-Some.is c.requires.claims.loose in
    on_err c.from_residual.result (c.in-Some.place, nop_at image c.arch-cpu.result.0 c.arch-cpu.ensures.cpu_type (bytes_of c.bytes.result) c.bytes.ensures.bytes c.in-Some.place c.is_nop.result c.is_nop.ensures ∙ c.if-not-is_nop.false, least.0.1)

pub returns-clause-found : goal.returns-clause-found
returns-clause-found c =
    let image = c.args.image.now in
    least_unpadded image (keeps_stray image c.requires.kept) (keeps_apart image c.requires.kept) c.in_ok-code.code c.in_ok-code.ensures.cover c.stray.result
    (subst (λ cpu. IsLeastPlace (λ p. IsUnpadded cpu c.in_ok-code.code image p × IsFree (element_spans image) p) c.stray.result) c.arch-cpu.ensures.cpu_type c.stray.ensures)

pub returns-then-not-is_nop-clause-found : goal.returns-then-not-is_nop-clause-found
returns-then-not-is_nop-clause-found c =
    let image = c.args.image.now in
    let least = at_place image c.args.claims.now.loose c.in-Some.place c.in-Some.is c.requires.claims.loose in
    let other = nop_at image c.arch-cpu.result.0 c.arch-cpu.ensures.cpu_type (bytes_of c.bytes.result) c.bytes.ensures.bytes c.in-Some.place c.is_nop.result c.is_nop.ensures in
    first_loose image (keeps_stray image c.requires.kept) (keeps_apart image c.requires.kept) c.in-Some.place (other ∙ c.if-not-is_nop.true) least
