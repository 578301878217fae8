use Rattle.std.proofs.Common.{◌≡◌, ◌≤◌, ◌<◌, ◌↔◌, ◌^◌, ℕ, List, Any, Contains, length, Option, rules, sym, subst, arith}
use Rattle.std.specs.Prelude.{IsPermutation, Result, Ok, Err, IfOk}
use Rattle.std.specs.List.Sorted.{IsNonDecreasingBy}
use Rattle.std.proofs.lemmas.List.Sorted.{Contains-permutation, IsNonDecreasingBy-from_sort_by_key, IsPermutation-sym}
use Rattle.macho_fields.specs.FirstPlace.{IsLeastPlace}
use Rattle.macho_fields.specs.Image.{commands_of}
use Rattle.macho_fields.specs.Symbol.{IsSymbolIndex}
use Rattle.macho_fields.proofs.Options.{some_of}
use Rattle.macho_image.specs.Segment.{sections_of}
use Rattle.macho_image.specs.declared.indirect.Indirect.{Indirect}
use Rattle.macho_tables.proofs.Places.{least_same}
use Rattle.macho_alike.specs.Bounds.{location, IsSaidAt, IsSaidBy, IsSaidOf, SaysOtherwise}
use Rattle.macho_alike.specs.Indirects.{BreaksIndirectName, HasEntry, IsBound, entry_with}
use Rattle.macho_alike.specs.declared.bounds.Bound.{Bound}
use Rattle.macho_alike.specs.declared.indirects.Said.{Said}
use Rattle.macho_alike.proofs.NearEntries.{entry_near, index_fits}
use Rattle.macho_alike.proofs.SaidNames.{clash_breaks, said_of_image}
use Rattle.macho_alike.proofs.indirects.indirect_name.Goals as goal

pub names_of_entries-requires-clause-sorted : goal.names_of_entries-requires-clause-sorted
names_of_entries-requires-clause-sorted c =
    subst (IsNonDecreasingBy (λ (bound : Bound). location bound)) (sym c.deref.ensures.value)
    (IsNonDecreasingBy-from_sort_by_key (λ (bound : Bound). location bound) _ c.sort_unstable_by_key.ensures.sorted (λ a r q k. search rules))

abbrev IsSaid : List ℕ → Said → Type 0
IsSaid image one = (bound : Bound) × (index : ℕ) × IsBound image bound × HasEntry image bound index × IsSaidAt image index bound.name one

-- what is said of the bound pointers, in any order
all_said : (image : List ℕ) (old new sorted : List Bound) (said : List Said) → IsPermutation old new → sorted ≡ new → ((bound : Bound) → Contains old bound ↔ IsBound image bound)
    → ((one : Said) → Contains said one ↔ Any (λ (section : ℕ × ℕ). IsSaidBy image sorted section one) (sections_of image (commands_of image)))
    → (one : Said) → Contains said one ↔ IsSaid image one
all_said image old new sorted said moved same listed says one =
    let there : (bound : Bound) → Contains sorted bound ↔ IsBound image bound = λ bound. (
      λ has. (listed bound).0 (Contains-permutation new old bound (IsPermutation-sym old new moved) (subst (λ (bs : List Bound). Contains bs bound) same has)),
      λ is. subst (λ (bs : List Bound). Contains bs bound) (sym same) (Contains-permutation old new bound moved ((listed bound).1 is)),
    ) in
    let of_image = said_of_image image sorted there one in
    (λ has. of_image.0 ((says one).0 has), λ is. (says one).1 (of_image.1 is))

-- the place and the index of what is said
said_near : (image : List ℕ) (one : Said) → IsSaid image one → (one.place ≤ length image) × (one.index < 2 ^ 32)
said_near image one (bound, index, is, has, said) =
    let (entry, at, (counts, (place, same, name))) = some_of (λ (e : Indirect). IsSymbolIndex e.value × IsSaidOf image e index bound.name one) (entry_with image index) said in
    let near = entry_near image index entry at in
    let fits = index_fits image bound index has in
    (omega (arith, place, near), omega (arith, same, fits))

pub least_otherwise-requires : goal.least_otherwise-requires
least_otherwise-requires c = λ one has.
    let image = c.args.image.now in
    let all = all_said image c.in_ok-bounds.bounds.items c.sort_unstable_by_key.new.self.items c.deref.result.now c.in_ok-said.said.items c.sort_unstable_by_key.ensures.permutation c.deref.ensures.value
    c.in_ok-bounds.ensures c.in_ok-said.ensures one in
    said_near image one (all.0 (subst (λ (ones : List Said). Contains ones one) c.deref_mut.ensures.value has))

least_of : {E : Type 0} (image : List ℕ) (said : List Said) (r : Result (Option ℕ) E) → ((one : Said) → Contains said one ↔ IsSaid image one)
    → IfOk r (IsLeastPlace (SaysOtherwise image said)) → IfOk r (IsLeastPlace (BreaksIndirectName image))
least_of image said (Ok found) all least = least_same (SaysOtherwise image said) (BreaksIndirectName image) found (clash_breaks image said all) least
least_of image said (Err e) all least = tt

pub returns-clause-least : goal.returns-clause-least
returns-clause-least c =
    let image = c.args.image.now in
    least_of image c.in_ok-said.said.items c.least_otherwise.result
    (all_said image c.in_ok-bounds.bounds.items c.sort_unstable_by_key.new.self.items c.deref.result.now c.in_ok-said.said.items c.sort_unstable_by_key.ensures.permutation c.deref.ensures.value
    c.in_ok-bounds.ensures c.in_ok-said.ensures)
    (subst (λ (ones : List Said). IfOk c.least_otherwise.result (IsLeastPlace (SaysOtherwise image ones))) c.deref_mut.ensures.value c.least_otherwise.ensures)
