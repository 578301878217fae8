use Rattle.std.proofs.Common.{◌≡◌, ◌∙◌, ℕ, None, Some, ap, sym}
use Rattle.std.specs.Prelude.{IsSomeAnd}
use Rattle.std.proofs.lemmas.Bool.{both_ways}
use Rattle.macho_fields.proofs.Options.{of_some, some_has}
use Rattle.macho_alike.specs.SymbolModels.{group_of, IsOfType, SymbolKind}
use Rattle.macho_alike.specs.Symbols.{IsMisgrouped}
use Rattle.macho_explain.specs.Alike.{groups_in, IsGroupPart}
use Rattle.macho_explain.specs.Parts.{conflict_of}
use Rattle.macho_explain.specs.declared.conflict.Conflict.{Conflict}
use Rattle.macho_explain.specs.declared.part.Part.{Part}
use Rattle.macho_explain.specs.declared.part.PartKind.TheVariants as parts
use Rattle.macho_explain.proofs.symbol_kind.other_group.Goals as goal

-- a part that is a group
group_part : (pair : ℕ × ℕ) (part : Part) (start len index : ℕ) (c : Conflict) → pair ≡ (start, len) → part.kind ≡ parts.Group → part.start ≡ start → part.size ≡ len
    → c ≡ conflict_of None (Some part) index start → IsGroupPart pair c
group_part pair part start len index c same kind first size is =
    let its : IsSomeAnd (Some part) (λ p. (p.kind ≡ parts.Group) × (p.start ≡ pair.0) × (p.size ≡ pair.1)) =
    (kind, first ∙ ap (λ (p : ℕ × ℕ). p.0) (sym same), size ∙ ap (λ (p : ℕ × ℕ). p.1) (sym same)) in
    let limit : start ≡ pair.0 = ap (λ (p : ℕ × ℕ). p.0) (sym same) in
    rw is (limit, its)

pub returns-then-not-is_misgrouped : goal.returns-then-not-is_misgrouped
returns-then-not-is_misgrouped c = λ has.
    let is : groups_in c.args.image.now ≡ Some c.in_ok-groups.groups = sym c.dysymtab.ensures ∙ c.in_ok-groups.was in
    both_ways c.is_misgrouped.result c.if-not-is_misgrouped.true
    (c.is_misgrouped.ensures.1 (some_has (λ g. IsMisgrouped g c.args.index c.args.kind) (groups_in c.args.image.now) c.in_ok-groups.groups is has))

pub returns : goal.returns
returns c =
    let groups = c.in_ok-groups.groups in
    let shown = c.against.result in
    let is : groups_in c.args.image.now ≡ Some groups = sym c.dysymtab.ensures ∙ c.in_ok-groups.was in
    let (of, type, same) = c.own_group-number.ensures in
    let part = c.numbered-part.ensures in
    let its : IsGroupPart (group_of groups of) shown =
    group_part (group_of groups of) c.numbered-part.result _ _ c.args.index shown same (ap (λ (p : Part). p.kind) part) (ap (λ (p : Part). p.start) part) (ap (λ (p : Part). p.size) part) c.against.ensures in
    let value : shown.value ≡ c.args.index = ap (λ (x : Conflict). x.value) c.against.ensures in
    let kinds : (kind : SymbolKind) × IsOfType c.args.kind kind × IsGroupPart (group_of groups kind) shown = (of, type, its) in
    let both : IsMisgrouped groups c.args.index c.args.kind × ((kind : SymbolKind) × IsOfType c.args.kind kind × IsGroupPart (group_of groups kind) shown) =
    (c.is_misgrouped.ensures.0 c.if-not-is_misgrouped.false, kinds) in
    (value, of_some (λ g. IsMisgrouped g c.args.index c.args.kind × ((kind : SymbolKind) × IsOfType c.args.kind kind × IsGroupPart (group_of g kind) shown)) (groups_in c.args.image.now) groups is both)
