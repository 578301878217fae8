use Rattle.std.proofs.Common.{sym, ◌∙◌, inl, inr}
use Rattle.std.proofs.lemmas.Bool.{false≢true, both_ways}
use Rattle.macho_rules.proofs.Groups.{HasGroupPast, group_among, among_groups}
use Rattle.macho_rules.proofs.tables.has_group_past.Goals as goal
use Rattle.macho_rules.proofs.tables.has_group_past.Goals.{then-is_past, else-is_past}

pub returns-then-is_past-2 : goal.returns-then-is_past-2
returns-then-is_past-2 c image same =
    let past : HasGroupPast c.args.count c.args.dysymtab = elim c.if-is_past.branch [
      | then-is_past w ↦ inl (c.is_past.ensures.0 w.if-is_past.true)
      | else-is_past w ↦ inr (inl (w.is_past-else-is_past.ensures.0 (sym w.value-is ∙ c.if-is_past-2.true)))
    ] in
    (λ _. group_among image c.args.count c.args.dysymtab same past, λ _. c.if-is_past-2.true)

pub returns-else-is_past-2 : goal.returns-else-is_past-2
returns-else-is_past-2 c image same = (
  λ undefined. group_among image c.args.count c.args.dysymtab same (inr (inr (c.is_past-else-is_past-2.ensures.0 undefined))),
  λ any. elim c.if-is_past.branch [
    | then-is_past w ↦ absurd (false≢true (sym c.if-is_past-2.false ∙ (w.value-is ∙ w.if-is_past.true)))
    | else-is_past w ↦ (elim (among_groups image c.args.count c.args.dysymtab same any) [
      | inl local ↦ absurd (both_ways c.is_past.result w.if-is_past.false (c.is_past.ensures.1 local))
      | inr (inl defined) ↦ absurd (both_ways _ (sym w.value-is ∙ c.if-is_past-2.false) (w.is_past-else-is_past.ensures.1 defined))
      | inr (inr undefined) ↦ c.is_past-else-is_past-2.ensures.1 undefined
    ])
  ],
)
