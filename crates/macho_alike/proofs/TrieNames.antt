-- From the names of symbols and the bytes of a trie to the rule of an image.
use Rattle.std.proofs.Common.{◌≡◌, ◌∙◌, ◌↔◌, ℕ, ◌+◌, ◌≤◌, ◌<◌, List, length, Contains, Bool, true, false, cond, Option, Some, None, refl, sym, ap, subst, arith}
use Rattle.std.specs.Prelude.{nat_lt}
use Rattle.std.specs.Cmp.Lexicographic.{slice_cmp}
use Rattle.std.specs.Option.{option_map, option_and_then}
use Rattle.std.specs.declared.cmp.Ordering.{Ordering}
use Rattle.std.specs.declared.cmp.Ordering.TheVariants.{Less, Equal, Greater}
use Rattle.std.specs.Ordering.{nat_cmp, ordering_reverse, is_lt, is_gt, on}
use Rattle.std.proofs.lemmas.Bool.{lt-ltb, ltb-true, true≢false}
use Rattle.std.proofs.lemmas.Cmp.{nat_list_cmp_total}
use Rattle.std.proofs.lemmas.List.{get_or_default}
use Rattle.std.proofs.lemmas.List.Elements.{Contains-get_or}
use Rattle.std.proofs.lemmas.Option.{same_Some, none-some}
use Rattle.macho_fields.proofs.Lists.{any_of}
use Rattle.macho_fields.proofs.Options.{some_of, of_some, some_has}
use Rattle.macho_fields.specs.Field.{part, string_from}
use Rattle.macho_fields.specs.FirstPlace.{IsLeastPlace}
use Rattle.macho_fields.specs.Image.{commands_of, with_cmd}
use Rattle.macho_fields.specs.Layers.{NothingBreaks}
use Rattle.macho_fields.specs.Rules.{BreaksImage}
use Rattle.macho_fields.specs.Segment.{base_of}
use Rattle.macho_fields.specs.Symbol.{stroff}
use Rattle.macho_fields.specs.declared.header.loader.TheConstants as loader
use Rattle.macho_image.specs.Symbol.{symbol_at}
use Rattle.macho_rules.proofs.Searches.{one_of}
use Rattle.macho_spans.specs.declared.span.Span.{Span}
use Rattle.macho_tables.proofs.Places.{least_same}
use Rattle.macho_exports.proofs.ExportTries.{then_some, made_some}
use Rattle.macho_exports.specs.ExportTrie.{find_terminal, find_export, export_in}
use Rattle.macho_exports.specs.Exports.{export_table, is_absolute, BreaksExportNode, BreaksExportTotal}
use Rattle.macho_exports.specs.declared.export_trie.Export.{Export}
use Rattle.macho_exports.specs.declared.export_trie.Target.{Target}
use Rattle.macho_exports.specs.declared.export_trie.Target.TheVariants as target
use Rattle.macho_alike.proofs.NameLists.{named_inside, symbol_inside, text_is}
use Rattle.macho_alike.proofs.NameOrder.{name_rises}
use Rattle.macho_alike.proofs.ExportPaths.{one_export, whole}
use Rattle.macho_alike.specs.Definitions.{name_of}
use Rattle.macho_alike.specs.ExportModels.{HasOneExport}
use Rattle.macho_alike.specs.Exports.{BreaksExportEdge}
use Rattle.macho_alike.specs.Names.{IsNameOf, IsNamed, text_of, AreByName}
use Rattle.macho_alike.specs.TrieSymbols.{IsAt, IsUnlike, IsExportedAs, BreaksTrieSymbol}
use Rattle.macho_alike.specs.TrieWalks.{IsWhole, named_at, text_at, IsUpTo, AreSorted, image_export, of_export, of_target, IsUnlikeExport, LeadsToUnlike, IsUnlikeAt}
use Rattle.macho_alike.specs.declared.names.Named.{Named}
use Rattle.macho_alike.specs.declared.trie.ImageExport.{ImageExport}

-- The names

abbrev nothing : Named
nothing = record { name = record { start = 0; len = 0 }; place = 0 }

module _ (image : List ℕ) (names : List Named) where
  -- sorted names stay so, however far they are from each other
  up_to_later : AreByName image names → (i j : ℕ) → i ≤ j → j < length names → IsUpTo (text_at image names i) (text_at image names j)
  up_to_later sorted i j upto less =
      not_over (slice_cmp nat_cmp (text_at image names i) (text_at image names j)) (slice_cmp nat_cmp (text_at image names j) (text_at image names i))
      (nat_list_cmp_total.antisymm (text_at image names i) (text_at image names j)) (name_rises image names sorted i j nothing upto less)
    where
      not_over : (up down : Ordering) → up ≡ ordering_reverse down → is_lt down ≡ false → is_gt up ≡ false
      not_over up Less is not = absurd (true≢false not)
      not_over up Equal is not = ap is_gt is
      not_over up Greater is not = ap is_gt is

  pub sorted_names : NothingBreaks (BreaksImage image None) → ((one : Named) → Contains names one ↔ IsNamed image one) → AreByName image names → AreSorted image names
  sorted_names keeps named sorted = record {
    spans = λ k less. let inside = named_inside image keeps (named_at names k) (among k less) in omega (arith, inside);
    symbols = λ k less. symbol_inside image keeps (named_at names k) (among k less);
    rising = up_to_later sorted;
  }
    where
      among : (k : ℕ) → k < length names → IsNamed image (named_at names k)
      among k less = (named (named_at names k)).0 (Contains-get_or names k nothing less)

-- The exports

abbrev own : Export → ℕ → ImageExport
own export address = record { flags = export.flags; address = address }

-- an export of the image, at an address
own_at : (export : Export) (address : ℕ) → IsAt export address → of_export export ≡ Some (own export address)
own_at export address (not, at) = rw (not, at) refl

at_own : (export : Export) (found : ImageExport) → of_export export ≡ Some found → IsAt export found.address × (export.flags ≡ found.flags)
at_own export found is = by_absolute (is_absolute export.flags) refl is
  where
    by_target : (flags : ℕ) (t : Target) → of_target flags t ≡ Some found → (t ≡ target.Address found.address None) × (flags ≡ found.flags)
    by_target flags (target.Address address None) at =
        let same = same_Some (record { flags = flags; address = address }) found at in
        (ap (λ (e : ImageExport). target.Address e.address None) same, ap (λ (e : ImageExport). e.flags) same)
    by_target flags (target.Address address (Some resolver)) at = absurd (none-some found at)
    by_target flags (target.Reexport ordinal name) at = absurd (none-some found at)

    by_absolute : (b : Bool) → is_absolute export.flags ≡ b → cond b None (of_target export.flags export.target) ≡ Some found → IsAt export found.address × (export.flags ≡ found.flags)
    by_absolute true so at = absurd (none-some found at)
    by_absolute false not at = let (t, flags) = by_target export.flags export.target at in ((not, t), flags)

module _ (trie : List ℕ) where
  -- in a terminal part
  pub own_in : (terminal : Span) (e : Export × ℕ) (address : ℕ) → 0 < terminal.len → export_in trie terminal ≡ Some e → IsAt e.0 address → image_export trie terminal ≡ Some (own e.0 address)
  own_in terminal e address some at is = rw (lt-ltb 0 terminal.len some, at) (own_at e.0 address is)

  pub in_own : (terminal : Span) (found : ImageExport) → image_export trie terminal ≡ Some found
      → (0 < terminal.len) × ((e : Export × ℕ) × (export_in trie terminal ≡ Some e) × IsAt e.0 found.address × (e.0.flags ≡ found.flags))
  in_own terminal found is = by_size (nat_lt 0 terminal.len) refl is
    where
      by_size : (b : Bool) → nat_lt 0 terminal.len ≡ b → cond b (option_and_then (λ (e : Export × ℕ). of_export e.0) (export_in trie terminal)) None ≡ Some found
          → (0 < terminal.len) × ((e : Export × ℕ) × (export_in trie terminal ≡ Some e) × IsAt e.0 found.address × (e.0.flags ≡ found.flags))
      by_size true some at =
          let (e, there, own_is) = then_some (λ (e : Export × ℕ). of_export e.0) (export_in trie terminal) found at in
          let (is_at, flags) = at_own e.0 found own_is in
          (ltb-true 0 terminal.len some, (e, there, is_at, flags))
      by_size false none at = absurd (none-some found at)

-- The search finds the rule

module _ (image : List ℕ) (names : List Named) (named : (one : Named) → Contains names one ↔ IsNamed image one)
    (nodes : (place : ℕ) → ¬ BreaksExportNode image place) (totals : (place : ℕ) → ¬ BreaksExportTotal image place) (edges : (place : ℕ) → ¬ BreaksExportEdge image place)
    (table : Span) (is : export_table image ≡ Some table) where
  abbrev trie : List ℕ
  trie = part table.start table.len image

  abbrev base : Option ℕ
  base = base_of image (commands_of image)

  one : HasOneExport trie
  one = one_export image nodes totals edges table is

  -- the trie breaks no rule of its nodes
  pub whole_trie : IsWhole trie
  whole_trie = whole image nodes totals edges table is

  -- a name that leads to what is looked for
  exported : (name : List ℕ) (place : ℕ) → LeadsToUnlike image trie base 0 name place
      → (export : Export) × (address : ℕ) × IsExportedAs image name export × IsAt export address × IsUnlike base export.flags address (symbol_at image place)
  unfolding find_export
  exported name place (path, end, is_path, spells, (node, at, unlike)) =
      let (found, own_is, so) = some_of (λ e. IsUnlikeExport image base e place) (image_export trie node.terminal) unlike in
      let (some, (e, there, is_at, flags)) = in_own trie node.terminal found own_is in
      let terminal = (one.same name node.terminal).0 (path, end, is_path, spells, (node, at, some, refl)) in (
        e.0,
        found.address,
        of_some (λ t. find_export (part t.start t.len image) name ≡ Some e.0) (export_table image) table is
            (ap (option_and_then (λ (t : Span). option_map (λ (x : Export × ℕ). x.0) (export_in trie t))) terminal ∙ ap (option_map (λ (x : Export × ℕ). x.0)) there),
        is_at,
        subst (λ (f : ℕ). IsUnlike base f found.address (symbol_at image place)) (sym flags) so,
      )

  leads : (name : List ℕ) (place : ℕ) (export : Export) (address : ℕ) → IsExportedAs image name export → IsAt export address → IsUnlike base export.flags address (symbol_at image place)
      → LeadsToUnlike image trie base 0 name place
  unfolding find_export
  leads name place export address exported_as is_at unlike =
      let found = some_has (λ t. find_export (part t.start t.len image) name ≡ Some export) (export_table image) table is exported_as in
      let (terminal, there, then) = then_some _ (find_terminal trie name) export found in
      let (e, at, same) = made_some (λ (e : Export × ℕ). e.0) (export_in trie terminal) export then in
      let (path, end, is_path, spells, (node, at_node, some, ends)) = (one.same name terminal).1 there in
      let own_is = own_in trie terminal e address (subst (λ (t : Span). 0 < t.len) ends some) at (subst (λ (x : Export). IsAt x address) (sym same) is_at) in (
        path,
        end,
        is_path,
        spells,
        (
          node,
          at_node,
          of_some (λ x. IsUnlikeExport image base x place) (image_export trie node.terminal) (own e.0 address)
              (ap (image_export trie) ends ∙ own_is) (subst (λ (x : Export). IsUnlike base x.flags address (symbol_at image place)) (sym same) unlike),
        ),
      )

  to_rule : (place : ℕ) → IsUnlikeAt image trie names base place → BreaksTrieSymbol image place
  to_rule place (k, less, at, on) =
      let one_named = named_at names k in
      let (symtab, has, (index, few, at_index, so)) = one_of _ (with_cmd image loader.LC_SYMTAB (commands_of image)) ((named one_named).0 (Contains-get_or names k nothing less)) in
      let so_here = subst (λ (p : ℕ). IsNameOf image symtab (symbol_at image p) one_named.name) at so in
      any_of _ (with_cmd image loader.LC_SYMTAB (commands_of image)) symtab has (
        index,
        few,
        sym at ∙ at_index,
        (so_here.external, exported (name_of image symtab (symbol_at image place)) place (subst (λ (name : List ℕ). LeadsToUnlike image trie base 0 name place) (text_is image symtab (symbol_at image place) one_named so_here) on)),
      )

  from_rule : (place : ℕ) → BreaksTrieSymbol image place → IsUnlikeAt image trie names base place
  from_rule place broken =
      let (symtab, has, (index, few, at_index, (external, (export, address, exported_as, is_at, unlike)))) = one_of _ (with_cmd image loader.LC_SYMTAB (commands_of image)) broken in
      let symbol = symbol_at image place in
      let start = stroff image symtab + symbol.strx in
      let span : Span = record { start = start; len = length (string_from start image) } in
      let this : Named = record { name = span; place = place } in
      let so : IsNameOf image symtab symbol span = record { external = external; start = refl; len = refl } in
      let (k, less, at) = (named this).1 (any_of _ (with_cmd image loader.LC_SYMTAB (commands_of image)) symtab has (index, few, at_index, so)) in
      let here : named_at names k ≡ this = get_or_default names k nothing this less ∙ at in (
        k,
        less,
        ap (λ (n : Named). n.place) here,
        subst (λ (name : List ℕ). LeadsToUnlike image trie base 0 name place) (sym (ap (text_of image) here ∙ text_is image symtab symbol this so))
            (leads (name_of image symtab symbol) place export address exported_as is_at unlike),
      )

  pub trie_listed : (found : Option ℕ) → IsLeastPlace (IsUnlikeAt image trie names base) found → IsLeastPlace (BreaksTrieSymbol image) found
  trie_listed found least = least_same (IsUnlikeAt image trie names base) (BreaksTrieSymbol image) found (λ place. (to_rule place, from_rule place)) least
