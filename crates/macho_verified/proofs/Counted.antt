-- How many symbols and indirect entries an accepted image has, and that the entries name its symbols.
use Rattle.std.proofs.Common.{◌≡◌, take, ℕ, zero, suc, ◌+◌, ◌*◌, ◌≤◌, ◌<◌, List, [], ◌∷◌, map, length, All, Contains, Option, Some, None, IsSome, IfSome, slice_get, refl, sym, ap, ◌∙◌, subst, arith, lit<, inl, inr}
use Rattle.std.specs.Prelude.{nat_le}
use Rattle.std.specs.Option.{option_map, option_map_or}
use Rattle.std.proofs.Math.Nat.{mul_comm}
use Rattle.std.proofs.lemmas.Bool.{cases_Bool, cases_lt, le-leb}
use Rattle.std.proofs.lemmas.List.{length-map, take_all}
use Rattle.std.proofs.lemmas.List.Elements.{All-map, All-contains_itself}
use Rattle.std.proofs.lemmas.List.FromFn.{length-map-range_with_len}
use Rattle.macho_fields.specs.Image.{word, commands_of}
use Rattle.macho_fields.specs.LoadCommands.{symbol_table, indirect_table}
use Rattle.macho_fields.specs.Rules.{BreaksCommands}
use Rattle.macho_fields.specs.Symbol.{symbol_count, symoff, nsyms, indirectsymoff, nindirectsyms, IsOutside, IsSymbolIndex}
use Rattle.macho_fields.specs.declared.header.loader.TheConstants as loader
use Rattle.macho_fields.specs.declared.load_command.Structure.TheVariants.{SymtabCommand, DysymtabCommand}
use Rattle.macho_fields.specs.declared.rule.Rule.TheVariants as rule
use Rattle.macho_fields.proofs.LoadCommands.{symbols_listed, indirects_listed}
use Rattle.macho_image.specs.Command.{first_with_cmd}
use Rattle.macho_image.specs.Symbol.{symbols_of, symtab_at, indirects_of, indirect_at, items_inside}
use Rattle.macho_image.specs.declared.indirect.Indirect.{Indirect}
use Rattle.macho_image.specs.declared.symtab.Symtab.{Symtab}
use Rattle.macho_rules.specs.Check.{KeptBefore}
use Rattle.macho_rules.proofs.Judged.{keeps_opened, opened_commands}
use Rattle.macho_rules.proofs.OneCommand.{is_with_cmd, symbols_counted}
use Rattle.macho_rules.proofs.TableItems.{table_inside, in_items}
use Rattle.macho_verified.specs.Image.{SymbolView, symbol_view, IndirectView, indirect_view}
use Rattle.macho_verified.specs.Accepted.{IsUnbrokenImage, IsAccepted, IsVerifiedIndirect}

-- a table that is not outside has all its items
items_counted : (image : List ℕ) (start each n : ℕ) → ¬ IsOutside image (start, n, each) → length (items_inside image start each n) ≡ n
items_counted image start each zero inside =
    elim (cases_Bool (nat_le (start + each * zero) (length image))) [ inl t ↦ rw t refl | inr f ↦ rw f refl ]
items_counted image start each (suc n) inside =
    elim (cases_lt (length image) (start + suc n * each)) [
      | inl past ↦ absurd (inside (omega arith, past))
      | inr most ↦
          rw (le-leb (start + each * suc n) (length image) (subst (λ size. start + size ≤ length image) (mul_comm (suc n) each) most))
          (length-map-range_with_len (λ k. start + each * k) 0 (suc n))
    ]

-- where the table of a first command has all its items, what is read of each comes
views_counted : {X : Type 0} (items : ℕ → List ℕ) (count : ℕ → ℕ) (view : ℕ → X) (result : List X) (first : Option ℕ) → result ≡ map view (option_map_or items first [])
    → ((c : ℕ) → first ≡ Some c → length (items c) ≡ count c) → IfSome first (λ c. length result ≡ count c)
views_counted items count view result None are all = tt
views_counted items count view result (Some c) are all = ap length are ∙ (length-map (items c) view ∙ all c refl)

module _ (image : List ℕ) (keeps : IsUnbrokenImage image) where
  below : KeptBefore image rule.IndirectIndex
  below other place late = keeps.unbroken other place

  table_counted : (t : ℕ) → first_with_cmd image loader.LC_SYMTAB (commands_of image) ≡ Some t → length (items_inside image (symoff image t) 16 (nsyms image t)) ≡ nsyms image t
  table_counted t is =
      items_counted image (symoff image t) 16 (nsyms image t)
      (table_inside image loader.LC_SYMTAB SymtabCommand t symbol_table rule.IndirectIndex (lit< tt) below refl (is_with_cmd image loader.LC_SYMTAB t is) symbols_listed)

  entries_counted : (d : ℕ) → first_with_cmd image loader.LC_DYSYMTAB (commands_of image) ≡ Some d
      → length (items_inside image (indirectsymoff image d) 4 (nindirectsyms image d)) ≡ nindirectsyms image d
  entries_counted d is =
      items_counted image (indirectsymoff image d) 4 (nindirectsyms image d)
      (table_inside image loader.LC_DYSYMTAB DysymtabCommand d indirect_table rule.IndirectIndex (lit< tt) below refl (is_with_cmd image loader.LC_DYSYMTAB d is) indirects_listed)

  counted : (first : Option ℕ) → first_with_cmd image loader.LC_SYMTAB (commands_of image) ≡ first
      → length (option_map_or (λ t. items_inside image (symoff image t) 16 (nsyms image t)) first []) ≡ option_map_or (nsyms image) first 0
  counted None is = refl
  counted (Some t) is = table_counted t is

  -- as many symbols as LC_SYMTAB says
  all_symbols : length (symbols_of image (commands_of image)) ≡ symbol_count image (commands_of image)
  all_symbols = counted (first_with_cmd image loader.LC_SYMTAB (commands_of image)) refl ∙ sym (symbols_counted image (commands_of image))

  no_bad_entry : (place : ℕ) → ¬ BreaksCommands image (commands_of image) rule.IndirectIndex place
  no_bad_entry place broken =
      keeps.unbroken rule.IndirectIndex place (inr (commands_of image, opened_commands image (keeps_opened image rule.IndirectIndex (lit< tt) below), broken))

  named : (first : Option ℕ) → first_with_cmd image loader.LC_DYSYMTAB (commands_of image) ≡ first → (place : ℕ)
      → Contains (option_map_or (λ d. items_inside image (indirectsymoff image d) 4 (nindirectsyms image d)) first []) place
      → IsSymbolIndex (word image place) → word image place < symbol_count image (commands_of image)
  named None is place (k, less, at) index = absurd (omega arith)
  named (Some d) is place has index =
      elim (cases_lt (word image place) (symbol_count image (commands_of image))) [
        | inl less ↦ less
        | inr past ↦
            let (j, few, at) = is_with_cmd image loader.LC_DYSYMTAB d is in
            let (k, fewer, here) = in_items image (indirectsymoff image d) 4 (nindirectsyms image d) place has in
            absurd (no_bad_entry place (j, d, few, at, (k, fewer, here, (index, past))))
      ]

  entry_named : (place : ℕ) → Contains (indirects_of image (commands_of image)) place → IsSymbolIndex (word image place)
      → word image place < length (symbols_of image (commands_of image))
  entry_named place has index =
      subst (λ n. word image place < n) (sym all_symbols) (named (first_with_cmd image loader.LC_DYSYMTAB (commands_of image)) refl place has index)

pub symbols_are_counted : (image : List ℕ) → IsAccepted image → length (symbols_of image (commands_of image)) ≡ symbol_count image (commands_of image)
unfolding IsAccepted
symbols_are_counted image keeps = all_symbols image keeps

-- the LC_SYMTAB of an image, as it was read
abbrev pub IsSymtab : List ℕ → Option Symtab → Type 0
IsSymtab image read = read ≡ option_map (symtab_at image) (first_with_cmd image loader.LC_SYMTAB (commands_of image))

-- its nsyms symbols are all of them
pub all_taken : (image : List ℕ) → IsAccepted image → (read : Option Symtab) (count : ℕ) → IsSymtab image read → count ≡ option_map_or (λ (symtab : Symtab). symtab.nsyms) read 0
    → take count (symbols_of image (commands_of image)) ≡ symbols_of image (commands_of image)
all_taken image keeps read count is many =
    let counted = many ∙ (ap (λ r. option_map_or (λ (symtab : Symtab). symtab.nsyms) r 0) is ∙ (by (first_with_cmd image loader.LC_SYMTAB (commands_of image)) ∙ sym (symbols_counted image (commands_of image)))) in
    take_all count (symbols_of image (commands_of image)) (omega (arith, counted, symbols_are_counted image keeps))
  where
    by : (o : Option ℕ) → option_map_or (λ (symtab : Symtab). symtab.nsyms) (option_map (symtab_at image) o) 0 ≡ option_map_or (nsyms image) o 0
    by None = refl
    by (Some s) = refl

-- so all symbols come
pub symbols_whole : (image : List ℕ) → IsAccepted image → (result : List SymbolView) → result ≡ map (symbol_view image) (symbols_of image (commands_of image))
    → IfSome (first_with_cmd image loader.LC_SYMTAB (commands_of image)) (λ t. length result ≡ nsyms image t)
unfolding IsAccepted
symbols_whole image keeps result are =
    views_counted (λ t. items_inside image (symoff image t) 16 (nsyms image t)) (nsyms image) (symbol_view image) result (first_with_cmd image loader.LC_SYMTAB (commands_of image)) are
    (table_counted image keeps)

-- and all indirect entries
pub indirects_whole : (image : List ℕ) → IsAccepted image → (result : List IndirectView) → result ≡ map (indirect_view image) (indirects_of image (commands_of image))
    → IfSome (first_with_cmd image loader.LC_DYSYMTAB (commands_of image)) (λ d. length result ≡ nindirectsyms image d)
unfolding IsAccepted
indirects_whole image keeps result are =
    views_counted (λ d. items_inside image (indirectsymoff image d) 4 (nindirectsyms image d)) (nindirectsyms image) (indirect_view image) result
    (first_with_cmd image loader.LC_DYSYMTAB (commands_of image)) are (entries_counted image keeps)

pub indirects_hold : (image : List ℕ) → IsAccepted image → All (IsVerifiedIndirect image) (map (indirect_at image) (indirects_of image (commands_of image)))
unfolding IsAccepted IsVerifiedIndirect
indirects_hold image keeps =
    All-map (IsVerifiedIndirect image) (indirect_at image) (indirects_of image (commands_of image))
    (λ k d less. (refl, λ index. entry_named image keeps _ (All-contains_itself (indirects_of image (commands_of image)) k d less) index))

-- of an indirect entry: what was read of it, and that its symbol is there
pub entry_read : (image : List ℕ) (entry : Indirect) → IsVerifiedIndirect image entry → entry ≡ indirect_at image entry.place
unfolding IsVerifiedIndirect
entry_read image entry keeps = keeps.0

pub value_read : (image : List ℕ) (entry : Indirect) → IsVerifiedIndirect image entry → entry.value ≡ word image entry.place
value_read image entry keeps = ap (λ (e : Indirect). e.value) (entry_read image entry keeps)

pub symbol_named : (image : List ℕ) (entry : Indirect) → IsVerifiedIndirect image entry → IsSymbolIndex entry.value → entry.value < length (symbols_of image (commands_of image))
unfolding IsVerifiedIndirect
symbol_named image entry keeps index = keeps.1 index

-- Views of what was read at places

pub indirect_views_of : (image places : List ℕ) → map (λ (entry : Indirect). indirect_view image entry.place) (map (indirect_at image) places) ≡ map (indirect_view image) places
indirect_views_of image [] = refl
indirect_views_of image (p ∷ places) = ap (λ vs. indirect_view image p ∷ vs) (indirect_views_of image places)

-- at an index
pub some_view : (image places : List ℕ) (n : ℕ) → n < length places → IsSome (slice_get (map (symbol_view image) places) n)
some_view image [] n less = absurd (omega arith)
some_view image (p ∷ places) zero less = refl
some_view image (p ∷ places) (suc n) less = some_view image places n (omega arith)

-- what an answer is, where there is one
pub if_some_same : {X : Type 0} (r got : Option X) → r ≡ got → IfSome r (λ x. got ≡ Some x)
if_some_same None got is = tt
if_some_same (Some x) got is = sym is
