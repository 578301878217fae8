use Rattle.std.proofs.Common.{◌≡◌, ◌<◌, ◌≤◌, List, ℕ, Any, None, sym, ap, subst, ◌∙◌, inl, inr, arith}
use Rattle.std.specs.Prelude.{not}
use Rattle.std.specs.Option.{is_some}
use Rattle.std.proofs.lemmas.Bool.{cases_Bool, false≢true, lt-ltb}
use Rattle.macho_fields.specs.Image.{commands_end}
use Rattle.macho_fields.specs.declared.rule.Rule.TheVariants as rule
use Rattle.macho_image.specs.Command.{command_of}
use Rattle.macho_image.specs.Opened.{IsCommandOf}
use Rattle.macho_rules.proofs.Searches.{search_next, search_found, search_ended}
use Rattle.macho_spans.specs.Span.{IsInside}
use Rattle.macho_spans.specs.declared.span.Span.{Span}
use Rattle.macho_strict.specs.Encrypted.{IsEncrypted, encrypted_span}
use Rattle.macho_strict.specs.Rules.{BreaksStrictImage}
use Rattle.macho_strict.specs.Verdict.{file_parts}
use Rattle.macho_strict.proofs.Encryptions.{commands_search, judged_left, encryptions_break, LiesOutside, parts_have, files_have, is_misplaced, not_misplaced, none_has}
use Rattle.macho_strict.proofs.encrypted.first_misplaced.Goals as goal
use Rattle.macho_strict.proofs.encrypted.first_misplaced.Goals.{in_default-via-in-None-1, in_default-via-in-Some-encrypted+else-not-has_range, then-range-commands_end, else-range-commands_end}

pub loop-command-init : goal.loop-command-init
loop-command-init c =
    let are = c.into_iter-command-iterator.ensures.into_iter_gives ∙ c.commands-command-items.ensures.commands in
    (tt, tt, commands_search c.args.image.now _ c.bytes-bytes.ensures.opened are _)

pub encrypted-requires : goal.encrypted-requires
encrypted-requires c =
    let are = c.into_iter-command-iterator.ensures.into_iter_gives ∙ c.commands-command-items.ensures.commands in
    subst (λ (bytes : List ℕ). IsCommandOf bytes (command_of c.in-Some.command)) (sym c.bytes-bytes.ensures.bytes)
    (judged_left c.args.image.now _ c.bytes-bytes.ensures.opened are _ _ _ (command_of c.in-Some.command) c.in-Some.ensures.steps c.loop-command.invariant.2)

pub has_range-requires : goal.has_range-requires
has_range-requires c =
    let (has, is) = c.in-Some-encrypted.ensures in
    omega (arith, has.1, ap (λ (span : Span). span.len) is)

pub returns-in-loop-command : goal.returns-in-loop-command
returns-in-loop-command c =
    let image = c.args.image.now in
    let v = command_of c.in-Some.command in
    let range = c.in-Some-encrypted.range in
    let are = c.into_iter-command-iterator.ensures.into_iter_gives ∙ c.commands-command-items.ensures.commands in
    let has = subst (λ (bytes : List ℕ). IsEncrypted bytes v) c.bytes-bytes.ensures.bytes c.in-Some-encrypted.ensures.0 in
    let is = subst (λ (bytes : List ℕ). range ≡ encrypted_span bytes v.place) c.bytes-bytes.ensures.bytes c.in-Some-encrypted.ensures.1 in
    let some : 0 < range.len = omega (arith, has.1, ap (λ (span : Span). span.len) is) in
    let outside : LiesOutside image range =
    elim c.if-range-commands_end.branch [
      | then-range-commands_end w ↦ inl (subst (λ (end : ℕ). range.start < end) c.commands_end-commands_end.ensures.end w.if-range-commands_end.true)
      | else-range-commands_end w ↦
          inr (λ any. false≢true (sym (w.value-is ∙ ap not (w.has_range.ensures.1 (parts_have image c.args.parts.now c.requires range some any))) ∙ c.if-not-has_range.true))
    ] in
    search_found (BreaksStrictImage image rule.EncryptedRange) _ _ _ _ _ v c.in-Some.ensures.steps (encryptions_break image _ c.bytes-bytes.ensures.opened are) c.loop-command.invariant.2
    (is_misplaced image v range has is outside)

pub loop-command-preserved : goal.loop-command-preserved
loop-command-preserved c =
    let image = c.args.image.now in
    let v = command_of c.in-Some.command in
    elim c.in_default.branch [
      | in_default-via-in-None-1 w ↦
          let none : c.encrypted.result ≡ None = cc in (
            tt,
            tt,
            search_next _ _ _ _ _ v c.in-Some.ensures.steps c.loop-command.invariant.2
                (λ misplaced. none_has _ _ c.encrypted.result c.encrypted.ensures (ap is_some none)
                (subst (λ (bytes : List ℕ). IsEncrypted bytes v) (sym c.bytes-bytes.ensures.bytes) (misplaced.0, misplaced.1.0))),
          )
      | in_default-via-in-Some-encrypted+else-not-has_range w ↦
          let range = w.in-Some-encrypted.range in
          let has = subst (λ (bytes : List ℕ). IsEncrypted bytes v) c.bytes-bytes.ensures.bytes w.in-Some-encrypted.ensures.0 in
          let is = subst (λ (bytes : List ℕ). range ≡ encrypted_span bytes v.place) c.bytes-bytes.ensures.bytes w.in-Some-encrypted.ensures.1 in (
            tt,
            tt,
            search_next _ _ _ _ _ v c.in-Some.ensures.steps c.loop-command.invariant.2 (elim w.if-range-commands_end.branch [
              | then-range-commands_end b ↦ absurd (false≢true (sym w.if-not-has_range.false ∙ (b.value-is ∙ lt-ltb _ _ b.if-range-commands_end.true)))
              | else-range-commands_end b ↦
                  let after : commands_end image ≤ range.start = omega (arith, b.if-range-commands_end.false, c.commands_end-commands_end.ensures.end) in
                  let inside : Any (λ span. IsInside range span) (file_parts image) =
                  elim (cases_Bool b.has_range.result) [
                    | inl t ↦ files_have image c.args.parts.now c.requires range (b.has_range.ensures.0 t)
                    | inr f ↦ absurd (false≢true (sym w.if-not-has_range.false ∙ (b.value-is ∙ ap not f)))
                  ] in
                  not_misplaced image v range has is after inside
            ]),
          )
    ]

pub returns : goal.returns
returns c =
    let are = c.into_iter-command-iterator.ensures.into_iter_gives ∙ c.commands-command-items.ensures.commands in
    search_ended (BreaksStrictImage c.args.image.now rule.EncryptedRange) _ _ _ _ c.in-None.ensures.steps.0 (encryptions_break c.args.image.now _ c.bytes-bytes.ensures.opened are) c.loop-command.invariant.2
