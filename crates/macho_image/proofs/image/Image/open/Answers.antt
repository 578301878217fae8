use Rattle.std.proofs.Common.{◌≡◌, ◌∙◌, ℕ, Result, Ok, Err, IsErrAnd, sym, subst}
use Rattle.macho_fields.specs.Bytes.{bytes_of}
use Rattle.macho_fields.specs.First.{rank}
use Rattle.macho_fields.specs.Image.{command_count}
use Rattle.macho_fields.specs.Layers.{Continues, IsLeast, KeptBelow}
use Rattle.macho_fields.specs.Rules.{BreaksImage}
use Rattle.macho_fields.specs.declared.rule.Break.{Break}
use Rattle.macho_fields.specs.declared.rule.Rule.{Rule}
use Rattle.macho_fields.specs.declared.rule.Rule.TheVariants as rule
use Rattle.macho_image.specs.Walk.{AreLandmarks, breaks_of}
use Rattle.macho_image.specs.declared.walk.Candidate.{Candidate}
use Rattle.macho_image.proofs.Opened.{may_open}
use Rattle.macho_image.proofs.KeptRules.{kept_alone}
use Rattle.macho_image.proofs.image.Image.open.Goals as goal

-- an answer that hands on the break of a rule
handed_on : {T : Type 0} (breaks : Rule → ℕ → Type 0) (r : Rule) (answer : Result T Break) (b : Break) → IsErrAnd answer (λ given. given ≡ b) → IsLeast breaks b → Continues breaks r answer
handed_on breaks r (Ok x) b err least = absurd err
handed_on breaks r (Err given) b same least = subst (IsLeast breaks) (sym same) least

pub returns-in_err-arch_mismatch-clause-decides : goal.returns-in_err-arch_mismatch-clause-decides
returns-in_err-arch_mismatch-clause-decides c =
    handed_on (BreaksImage (bytes_of c.args.bytes) c.args.arch) rule.Name c.from_residual-in_err-arch_mismatch.result c.in_err-arch_mismatch.field-0.0
    c.from_residual-in_err-arch_mismatch.ensures.1 c.in_err-arch_mismatch.ensures.decides

pub file_type-requires : goal.file_type-requires
file_type-requires c = c.in_ok-arch_mismatch.ensures.decides

pub dylib_id-requires-clause-before : goal.dylib_id-requires-clause-before
dylib_id-requires-clause-before c =
    subst (λ o. KeptBelow (breaks_of o) (rank rule.DylibId)) (c.command_walk.ensures.candidate ∙ c.new-survey.ensures.candidate) c.in_ok-command_repeated.ensures.decides

pub name-requires-clause-kept : goal.name-requires-clause-kept
name-requires-clause-kept c =
    subst (λ o. KeptBelow (breaks_of o) (rank rule.Name)) (sym (c.command_walk.ensures.candidate ∙ c.new-survey.ensures.candidate)) c.in_ok-dylib_id.ensures.decides

pub invariant_of-result : goal.invariant_of-result
invariant_of-result c =
    let same = c.command_walk.ensures.candidate ∙ c.new-survey.ensures.candidate in record {
      opened = may_open _ (kept_alone _ c.args.arch (rank rule.SegmentAddress) (subst (λ o. KeptBelow (breaks_of o) (rank rule.SegmentAddress)) same c.in_ok-name.ensures.decides));
      all = subst (λ (o : Candidate). AreLandmarks (bytes_of o.bytes) (command_count (bytes_of o.bytes)) c.command_walk.new.self.landmarks) same c.in_ok-command_walk.ensures.passed.landmarks;
    }

pub returns-clause-decides : goal.returns-clause-decides
returns-clause-decides c = subst (λ o. KeptBelow (breaks_of o) (rank rule.SegmentAddress)) (c.command_walk.ensures.candidate ∙ c.new-survey.ensures.candidate) c.in_ok-name.ensures.decides
