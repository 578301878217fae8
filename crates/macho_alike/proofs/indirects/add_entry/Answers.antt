use Rattle.std.proofs.Common.{◌≡◌, ◌⊎◌, ◌∙◌, Some, sym, ap}
use Rattle.macho_alike.specs.Bounds.{IsSaidAt}
use Rattle.macho_alike.specs.Indirects.{entry_with}
use Rattle.macho_alike.specs.declared.indirects.Said.{Said}
use Rattle.macho_alike.proofs.Gathered.{gathered_one, gathered_both, gathered_same}
use Rattle.macho_alike.proofs.SaidNames.{entry_said}
use Rattle.macho_alike.proofs.indirects.add_entry.Goals as goal

pub returns : goal.returns
returns c =
    let image = c.args.image.now in
    let entry = c.in-Some.entry in
    let at : entry_with image c.args.index ≡ Some entry = ap (entry_with image) (sym c.from.ensures) ∙ (sym c.indirect.ensures ∙ c.in-Some.is) in
    let is_index = c.is_symbol_index.ensures.0 c.if-not-is_symbol_index.false in
    let first : Said = record { place = entry.place; index = c.args.index; name = Some c.args.name } in
    let second : Said = record { place = entry.place; index = c.args.index; name = c.name_start.result } in
    gathered_same (λ (s : Said). (first ≡ s) ⊎ (second ≡ s)) (IsSaidAt image c.args.index c.args.name) c.args.said.now.items c.push-2.new.self.items
    (entry_said image c.args.index c.args.name entry at is_index c.name_start.result c.name_start.ensures)
    (gathered_both (λ (s : Said). first ≡ s) (λ (s : Said). second ≡ s) c.args.said.now.items c.push.new.self.items c.push-2.new.self.items
    (gathered_one (λ (s : Said). first ≡ s) c.args.said.now.items c.push.new.self.items first c.in_ok-push.ensures.items (λ s. (λ is. is, λ is. is)))
    (gathered_one (λ (s : Said). second ≡ s) c.push.new.self.items c.push-2.new.self.items second c.in_ok-push-2.ensures.items (λ s. (λ is. is, λ is. is))))
