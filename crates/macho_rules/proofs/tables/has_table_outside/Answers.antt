use Rattle.std.proofs.Common.{refl, sym, ap, ◌∙◌, arith}
use Rattle.std.proofs.lemmas.Bool.{false≢true, both_ways}
use Rattle.macho_fields.specs.Bytes.{bytes_of}
use Rattle.macho_fields.specs.LoadCommands.{structure_of}
use Rattle.macho_rules.proofs.TableRange.{none_at_first, none_further, none_of_all, one_outside, none_listed, fields_held}
use Rattle.macho_rules.proofs.tables.has_table_outside.Goals as goal

pub returns-in_default : goal.returns-in_default
returns-in_default c =
    let none = sym (ap structure_of c.requires.cmd) ∙ (sym c.structure_of.ensures ∙ c.in_default.is) in
    (λ wrong. absurd (false≢true wrong), λ any. absurd (none_listed (bytes_of c.args.image) c.args.command none any))

pub loop-fields-init : goal.loop-fields-init
loop-fields-init c = none_at_first (bytes_of c.args.image) c.args.command c.tables-fields-items.result.now

pub is_outside-requires : goal.is_outside-requires
is_outside-requires c =
    let listed = sym (ap structure_of c.requires.cmd) ∙ (sym c.structure_of.ensures ∙ c.in-Some.is) in
    let (place, count) = fields_held (bytes_of c.args.image) c.args.command c.in-Some.structure c.tables-fields-items.result.now listed c.tables-fields-items.ensures.tables c.requires.opened
    c.requires.listed c.loop-fields.fields-index _ c.loop-fields-test.true in
    record { place = place; count = count }

pub returns-then-is_outside : goal.returns-then-is_outside
returns-then-is_outside c =
    let listed = sym (ap structure_of c.requires.cmd) ∙ (sym c.structure_of.ensures ∙ c.in-Some.is) in
    let any = one_outside (bytes_of c.args.image) c.args.command c.in-Some.structure c.tables-fields-items.result.now listed c.tables-fields-items.ensures.tables c.loop-fields.fields-index _
    c.loop-fields-test.true (c.is_outside.ensures.0 c.if-is_outside.true) in
    (λ _. any, λ _. refl)

pub loop-fields-preserved : goal.loop-fields-preserved
loop-fields-preserved c =
    none_further (bytes_of c.args.image) c.args.command c.tables-fields-items.result.now c.loop-fields.fields-index _ c.loop-fields-test.true c.loop-fields.invariant
    (λ outside. both_ways c.is_outside.result c.if-is_outside.false (c.is_outside.ensures.1 outside))

pub returns : goal.returns
returns c =
    let listed = sym (ap structure_of c.requires.cmd) ∙ (sym c.structure_of.ensures ∙ c.in-Some.is) in (
      λ wrong. absurd (false≢true wrong),
      λ any. absurd (none_of_all (bytes_of c.args.image) c.args.command c.in-Some.structure c.tables-fields-items.result.now listed c.tables-fields-items.ensures.tables c.loop-fields.fields-index
          (omega arith) c.loop-fields.invariant any),
    )
