use Rattle.std.proofs.Common.{List, ℕ, inl, subst, ◌∙◌}
use Rattle.macho_fields.specs.Bytes.{bytes_of}
use Rattle.macho_fields.specs.First.{IsUnbroken}
use Rattle.macho_fields.specs.Universal.{IsUniversal}
use Rattle.macho_fields.proofs.Sound.{unbroken_is_sound}
use Rattle.macho_fat.specs.Slices.{AreSlices, slices_in}
use Rattle.macho_rules.specs.Verdict.{IsRefusal, refusal_of}
use Rattle.macho_rules.specs.declared.refusal.Refusal.TheVariants as refusal
use Rattle.macho_rules.proofs.Verdicts.{passed_on, fat_refused, own_rules, verified}
use Rattle.macho_rules.proofs.verdict.verify.Goals as goal

pub returns-in_err-unlisted-clause-refused : goal.returns-in_err-unlisted-clause-refused
returns-in_err-unlisted-clause-refused c =
    let fault = rw c.new-file.ensures at c.in_err-unlisted.ensures.refused in
    passed_on (IsRefusal c.args.file.now) c.from_residual.result (refusal_of c.in_err-unlisted.field-0.0) c.from_residual.ensures.1
    (fat_refused c.args.file.now c.in_err-unlisted.field-0.0 fault)

pub returns-in_err-slices-clause-refused : goal.returns-in_err-slices-clause-refused
returns-in_err-slices-clause-refused c =
    let file = c.args.file.now in
    let universal = subst IsUniversal (c.in_ok-unlisted.ensures.file ∙ c.new-file.ensures) c.in_err-slices.ensures.memory in
    let unbroken = subst IsUnbroken c.new-file.ensures c.in_ok-found.ensures.unbroken in
    passed_on (IsRefusal file) c.from_residual-in_err-slices.result refusal.Memory c.from_residual-in_err-slices.ensures.1
    (inl (universal, inl (own_rules file unbroken)))

pub invariant_of-result : goal.invariant_of-result
invariant_of-result c =
    verified (bytes_of c.new-file.result) (slices_in c.in_ok-slices.slices) c.in_ok-found.found c.in_ok-found.ensures.unbroken
    (subst (λ (bytes : List ℕ). AreSlices bytes (slices_in c.in_ok-slices.slices)) c.in_ok-unlisted.ensures.file c.in_ok-slices.ensures.slices) c.in_ok-found.ensures.found

pub returns-clause-sound : goal.returns-clause-sound
returns-clause-sound c = unbroken_is_sound c.args.file.now (subst IsUnbroken c.new-file.ensures c.in_ok-found.ensures.unbroken)
