-- The items of a table that an opened image has once at most: its symbols, its indirect entries.
use Rattle.std.proofs.Common.{ap, ◌∙◌, ◌≡◌, ℕ, ◌+◌, ◌*◌, ◌≤◌, ◌<◌, ◌⊎◌, ◌↔◌, true, List, [], ◌∷◌, map, length, Any, Contains, Option, None, Some, refl, sym, subst, arith, inl, inr}
use Rattle.std.specs.Prelude.{nat_le, if◌then◌else◌}
use Rattle.std.specs.Option.{option_map_or}
use Rattle.std.specs.List.{range_with_len}
use Rattle.std.proofs.Math.Nat.{mul_comm, mul-le-mul_left}
use Rattle.std.proofs.lemmas.Bool.{cases_Bool, cases_lt, le-leb}
use Rattle.macho_fields.proofs.Lists.{contains_mapped, none_in_nil}
use Rattle.macho_fields.specs.LoadCommands.{structure_of, table_fields, IsUnique}
use Rattle.macho_fields.specs.declared.load_command.Structure.{Structure}
use Rattle.macho_fields.specs.declared.load_command.TableFields.{TableFields}
use Rattle.macho_fields.proofs.LoadCommands.{tables_listed}
use Rattle.macho_fields.specs.First.{rank}
use Rattle.macho_fields.specs.Image.{commands_of, with_cmd}
use Rattle.macho_fields.specs.Symbol.{table_at, IsOutside}
use Rattle.macho_fields.specs.declared.rule.Rule.{Rule}
use Rattle.macho_fields.specs.declared.rule.Rule.TheVariants as rule
use Rattle.macho_fields.proofs.Parts.{with_cmd_is, with_cmd_among}
use Rattle.macho_image.specs.Command.{first_with_cmd}
use Rattle.macho_image.specs.Opened.{IsOpened}
use Rattle.macho_image.specs.Symbol.{items_inside}
use Rattle.macho_rules.specs.Check.{KeptBefore}
use Rattle.macho_rules.proofs.Judged.{keeps_opened, opened_commands}
use Rattle.macho_rules.proofs.OneCommand.{Has, first_is, is_with_cmd}
use Rattle.macho_fields.proofs.FirstPlaces.{AreBreaks}
use Rattle.macho_rules.proofs.Searches.{any_of, has_number, number_has, mapped_has, numbers_rise, Rising, ordered_map, Searching, search_all, are_breaks_at}

-- a table of a command of a kind lies inside the image, or has no items
pub table_inside : (image : List ℕ) (cmd : ℕ) (s : Structure) (command : ℕ) (fields : TableFields) (r : Rule)
    → rank rule.TableRange < rank r → KeptBefore image r → structure_of cmd ≡ Some s → Has image cmd command → Contains (table_fields s) fields
    → ¬ IsOutside image (table_at image command fields)
table_inside image cmd s command fields r late below listed has bounded outside =
    let tables = tables_listed image command s (ap structure_of (with_cmd_is image (commands_of image) cmd command has) ∙ listed) in
    below rule.TableRange command late
    (inr (
      commands_of image,
      opened_commands image (keeps_opened image r (omega (arith, late)) below),
      (
        with_cmd_among image (commands_of image) cmd command has,
        subst (Any (IsOutside image)) (sym tables) (any_of (IsOutside image) _ (table_at image command fields) (contains_mapped (table_at image command) (table_fields s) fields bounded) outside),
      ),
    ))

pub in_items : (image : List ℕ) (start each n p : ℕ) → Contains (items_inside image start each n) p → (k : ℕ) × (k < n) × (p ≡ start + each * k)
in_items image start each n p has =
    elim (cases_Bool (nat_le (start + each * n) (length image))) [
      | inl t ↦ from_number (has_number (λ k. start + each * k) 0 n p (subst (λ b. Contains (if b then map (λ k. start + each * k) (range_with_len 0 n) else []) p) t has))
      | inr f ↦
          absurd (none_in_nil p (subst (λ b. Contains (if b then map (λ k. start + each * k) (range_with_len 0 n) else []) p) f has))
    ]
  where
    from_number : (k : ℕ) × (0 ≤ k) × (k < 0 + n) × (start + each * k ≡ p) → (k : ℕ) × (k < n) × (p ≡ start + each * k)
    from_number (k, low, high, is) = (k, omega arith, sym is)

pub items_in : (image : List ℕ) (start each n k : ℕ) → ¬ IsOutside image (start, n, each) → k < n → Contains (items_inside image start each n) (start + each * k)
items_in image start each n k inside less = rw (fits (cases_lt (length image) (start + n * each))) (number_has (λ k. start + each * k) 0 n k (omega arith) (omega arith))
  where
    fits : (length image < start + n * each) ⊎ (start + n * each ≤ length image) → nat_le (start + each * n) (length image) ≡ true
    fits (inl past) = absurd (inside (omega arith, past))
    fits (inr most) = le-leb (start + each * n) (length image) (subst (λ size. start + size ≤ length image) (mul_comm n each) most)

pub table_rises : (image : List ℕ) (start each n : ℕ) → Rising (λ p. p) (items_inside image start each n)
table_rises image start each n = elim (cases_Bool (nat_le (start + each * n) (length image))) [ inl t ↦ rw t (numbers_rise (λ k. start + each * k) up 0 n) | inr f ↦ rw f tt ]
  where
    up : (i k : ℕ) → i ≤ k → start + each * i ≤ start + each * k
    up i k less = let steps : each * i ≤ each * k = mul-le-mul_left each less in omega arith

-- A kind of command that an image has once at most; its table has so many items of so many bytes
-- each, and what is read of an item knows the item's place.
module _ {X : Type 0} (image : List ℕ) (cmd each : ℕ) (start count : ℕ → ℕ) (at : ℕ → X) (place : X → ℕ) (same_place : (p : ℕ) → place (at p) ≡ p) where
  -- an item is at the place, and has P
  abbrev pub AtItem : (ℕ → ℕ → Type 0) → ℕ → Type 0
  AtItem P p = Any (λ c. (k : ℕ) × (k < count c) × (p ≡ start c + each * k) × P c p) (with_cmd image cmd (commands_of image))

  abbrev items_of : Option ℕ → List ℕ
  items_of first = option_map_or (λ c. items_inside image (start c) each (count c)) first []

  abbrev pub AreItems : List X → Type 0
  AreItems all = all ≡ map at (items_of (first_with_cmd image cmd (commands_of image)))

  pub items_search : (all : List X) → AreItems all → (Q : X → Type 0) → Searching place Q all all
  items_search all is Q = search_all place Q all (subst (Rising place) (sym is) (ordered_map (λ x y. place x ≤ place y) at _ (rise (first_with_cmd image cmd (commands_of image)))))
    where
      at_places : (ps : List ℕ) → Rising (λ p. p) ps → Rising (λ p. place (at p)) ps
      at_places [] rising = tt
      at_places (p ∷ ps) (low, rest) = (λ q has. let first = same_place p in let later = same_place q in let less = low q has in omega (arith, first, later, less), at_places ps rest)

      rise : (first : Option ℕ) → Rising (λ p. place (at p)) (items_of first)
      rise None = tt
      rise (Some c) = at_places _ (table_rises image (start c) each (count c))

  -- an item is read at its place
  pub item_at : (all : List X) → AreItems all → (x : X) → Contains all x → x ≡ at (place x)
  item_at all is x has =
      let (p, _, same) = mapped_has at _ x (subst (λ xs. Contains xs x) is has) in subst (λ y. y ≡ at (place y)) same (subst (λ q. at p ≡ at q) (sym (same_place p)) refl)

  module _ (r : Rule) (late : rank rule.TableRange < rank r) (below : KeptBefore image r) (unique : IsUnique cmd) (inside : (c : ℕ) → Has image cmd c → ¬ IsOutside image (start c, count c, each))
      (P : ℕ → ℕ → Type 0) (Q : X → Type 0) (seen : (c p : ℕ) → first_with_cmd image cmd (commands_of image) ≡ Some c → Q (at p) ↔ P c p) where
    opened : IsOpened image
    opened = keeps_opened image r (omega (arith, late)) below

    item_breaks : (p : ℕ) (first : Option ℕ) → first_with_cmd image cmd (commands_of image) ≡ first → Contains (items_of first) p → Q (at p) → AtItem P p
    item_breaks p None is none here = absurd (none_in_nil p none)
    item_breaks p (Some c) is some here = found (is_with_cmd image cmd c is) (in_items image (start c) each (count c) p some)
      where
        found : Has image cmd c → (k : ℕ) × (k < count c) × (p ≡ start c + each * k) → AtItem P p
        found (i, less, at_i) (k, few, from) = (i, c, less, at_i, (k, few, from, (seen c p is).0 here))

    broken_item : (p : ℕ) → AtItem P p → Contains (items_of (first_with_cmd image cmd (commands_of image))) p × Q (at p)
    broken_item p (i, c, less, at_i, (k, few, from, here)) =
        let first : first_with_cmd image cmd (commands_of image) ≡ Some c = first_is image cmd opened unique c (i, less, at_i) in
        let some : Contains (items_inside image (start c) each (count c)) p = subst (Contains (items_inside image (start c) each (count c))) (sym from)
        (items_in image (start c) each (count c) k (inside c (i, less, at_i)) few) in
        (subst (λ o. Contains (items_of o) p) (sym first) some, (seen c p first).1 here)

    pub items_break : (all : List X) → AreItems all → AreBreaks (AtItem P) place Q all
    items_break all is =
        subst (AreBreaks (AtItem P) place Q) (sym is)
        (are_breaks_at (AtItem P) place Q at (items_of (first_with_cmd image cmd (commands_of image)))
        (λ p has here. subst (AtItem P) (sym (same_place p)) (item_breaks p _ refl has here))
        (λ p broken. let (has, here) = broken_item p broken in (p, has, here, same_place p)))
