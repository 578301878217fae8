-- What `any` and `find` return over the commands of an opened image, over its segments, and over the tables of a command.
use Rattle.std.proofs.Common.{◌≡◌, ◌==◌, ◌↔◌, ℕ, ◌+◌, ◌≤◌, ◌<◌, List, [], ◌∷◌, map, length, get_or, All, Any, Contains, Bool, true, false, Option, None, Some, IsTrue, MatchOption, refl, sym, ap, ◌∙◌, subst, le_refl, arith, inl, inr}
use denote.Ref.{Bor}
use Rattle.std.specs.Prelude.{MatchBool, cond}
use Rattle.std.specs.Fn.{Mut, Called, CalledAt}
use Rattle.std.specs.Iterator.{YieldsFirst, YieldsFirstBy, CallableAtEachTurn, ChecksAny, FindsItem}
use Rattle.std.specs.List.{AllWithin, HoldsAt}
use Rattle.std.specs.Option.{option_map, option_map_or}
use Rattle.std.proofs.lemmas.Bool.{cases_order, false≢true}
use Rattle.std.proofs.lemmas.Iterator.{YieldsList, cases_from_any, first_from_find}
use Rattle.std.proofs.lemmas.Iterator.Adapters.{serves_from_places}
use Rattle.std.proofs.lemmas.Iterator.Consumers.{YieldsList-from_first}
use Rattle.std.proofs.lemmas.Iterator.Search.{find_from_yields_List}
use Rattle.std.proofs.lemmas.List.Elements.{Contains-get_or}
use Rattle.macho_fields.specs.FirstPlace.{IsLeastPlace}
use Rattle.macho_fields.specs.Image.{command_cmd, commands_of}
use Rattle.macho_fields.specs.LoadCommands.{structure_of, table_fields, width_size}
use Rattle.macho_fields.specs.Segment.{all_segments}
use Rattle.macho_fields.specs.Symbol.{table_at, tables_of}
use Rattle.macho_fields.specs.declared.load_command.Structure.{Structure}
use Rattle.macho_fields.specs.declared.load_command.TableFields.{TableFields}
use Rattle.macho_fields.proofs.Lists.{any_nil, contains_mapped}
use Rattle.macho_fields.proofs.Opened.{table_fields_inside}
use Rattle.macho_image.specs.Command.{CommandView, command_of, command_at, first_with_cmd}
use Rattle.macho_image.specs.Opened.{IsOpened, IsCommandOf}
use Rattle.macho_image.specs.Segment.{SegmentView, segment_at}
use Rattle.macho_image.specs.Table.{HaveTables}
use Rattle.macho_image.specs.declared.command.Command.{Command}
use Rattle.macho_rules.proofs.Judged.{opened_facts, opened_commands}
use Rattle.macho_rules.proofs.Searches.{mapped_has, any_of, one_of, ordered_at, ordered_map, Rising}
use Rattle.macho_rules.proofs.SegmentItems.{AreSegments, segment_of, segment_among, commands_rise}
use Rattle.macho_tables.proofs.HeldSegments.{view_inside}
use Rattle.macho_tables.proofs.Places.{least_same}
use Rattle.macho_tables.proofs.Tabled.{NamesTables, is_command, is_tabled, tabled_rise, first_tabled}

-- Items that are read at places

module _ {X : Type 0} (P : X → Type 0) where
  holds_any : (xs : List X) (k : ℕ) → k < length xs → HoldsAt P xs k → Any P xs
  holds_any [] k less holds = absurd (omega arith)
  holds_any (x ∷ xs) k less holds = any_of P (x ∷ xs) (get_or (x ∷ xs) k x) (Contains-get_or (x ∷ xs) k x less) (holds x)

  none_any : (xs : List X) → AllWithin (λ x. ¬ P x) xs 0 (length xs) → ¬ Any P xs
  none_any xs none (k, x, less, at, here) = none k x (omega arith) less (subst P (sym at) here)

  -- whether one of them has P
  decides : (xs : List X) (r : Bool) → MatchBool r ((k : ℕ) × (k < length xs) × HoldsAt P xs k) (AllWithin (λ x. ¬ P x) xs 0 (length xs)) → IsTrue r ↔ Any P xs
  decides xs true (k, less, holds) = (λ _. holds_any xs k less holds, λ _. refl)
  decides xs false none = (λ wrong. absurd (false≢true wrong), λ any. absurd (none_any xs none any))

  module _ {A : Type 0} (at : A → X) (ps : List A) (all : List X) (are : all ≡ map at ps) where
    mapped_any : Any P all → Any (λ p. P (at p)) ps
    mapped_any any =
        let (x, has, here) = one_of P all any in
        let (p, among, same) = mapped_has at ps x (subst (λ these. Contains these x) are has) in
        any_of (λ p. P (at p)) ps p among (subst P (sym same) here)

    any_mapped : Any (λ p. P (at p)) ps → Any P all
    any_mapped any =
        let (p, among, here) = one_of (λ p. P (at p)) ps any in
        any_of P all (at p) (subst (λ these. Contains these (at p)) (sym are) (contains_mapped at ps p among)) here

    some_has : (r : Bool) → MatchBool r ((k : ℕ) × (k < length all) × HoldsAt P all k) (AllWithin (λ x. ¬ P x) all 0 (length all)) → IsTrue r ↔ Any (λ p. P (at p)) ps
    some_has r found = let some = decides all r found in (λ is. mapped_any (some.0 is), λ any. some.1 (any_mapped any))

-- Commands

-- what a `next` of their iterator does
abbrev pub Steps : List CommandView → Option Command → List CommandView → Type 0
Steps = YieldsFirstBy command_of (λ (left : List CommandView). left)

views_yield : (all : List CommandView) → YieldsList Steps command_of all all
views_yield all = YieldsList-from_first command_of (λ (left : List CommandView). left) all refl

-- Some of them

module _ (image : List ℕ) (opened : IsOpened image) {all : List CommandView} (among : List ℕ) (within : (p : ℕ) → Contains among p → Contains (commands_of image) p)
    (are : all ≡ map (command_at image) among) where
  listed : (v : CommandView) → Contains all v → IsCommandOf image v
  listed v has =
      let (p, has_p, at) = mapped_has (command_at image) among v (subst (λ these. Contains these v) are has) in
      subst (IsCommandOf image) at (record { opened = opened; listed = within p has_p; same = refl })

  -- what a closure may be asked: about commands of the image alone
  pub each_among : {F : Type 0} {R : F → Command → F → Type 0} {Q : F → Command → Type 0} {f : F} → ((x : Command) (q : F) → R f x q → q ≡ f)
      → ((x : Command) → IsCommandOf image (command_of x) → Q f x) → CallableAtEachTurn Steps R Q all f
  each_among stays asks = serves_from_places (views_yield all) stays (λ x k less at. asks x (listed (command_of x) (k, less, sym at)))

  pub any_among : {F : Type 0} {g : Mut F (Command × Unit {0}) Bool} {f : F} {u : List CommandView} (P : CommandView → Type 0) (r : Bool) → ChecksAny Steps g all f r u
      → ((x : Command) (b : Bool) (q : F) → Called g f (x, tt) b q → (q ≡ f) × (IsTrue b ↔ P (command_of x))) → IsTrue r ↔ Any (λ place. P (command_at image place)) among
  any_among P r ran says =
      some_has P (command_at image) among all are r
      (cases_from_any _ _ r P (λ v. ¬ P v) ran (views_yield all) (λ x q k. (says x true q k).1.0 refl) (λ x q k. let (same, is) = says x false q k in (same, λ has. false≢true (is.1 has))))

  module _ (up : Rising (λ p. p) among) where
    rise : Rising (λ v. v.place) all
    rise = subst (Rising (λ v. v.place)) (sym are) (ordered_map (λ (v w : CommandView). v.place ≤ w.place) (command_at image) among up)

    there : (place : ℕ) → Contains among place → Contains all (command_at image place)
    there place has = subst (λ these. Contains these (command_at image place)) (sym are) (contains_mapped (command_at image) among place has)

    -- the first command with P is at the least place
    least_of : (P : CommandView → Type 0) (r : Option Command)
        → MatchOption r (AllWithin (λ v. ¬ P v) all 0 (length all))
        (λ x. P (command_of x) × (i : ℕ) × (i < length all) × HoldsAt (λ y. y ≡ command_of x) all i × AllWithin (λ v. ¬ P v) all 0 i)
        → IsLeastPlace (λ place. Contains among place × P (command_at image place)) (option_map (λ (x : Command). x.place) r)
    least_of P None none = λ place (has, here). none_any P all none (any_of P all (command_at image place) (there place has) here)
    least_of P (Some x) (here, i, less, at, none) = first (mapped_has (command_at image) among (command_of x) (subst (λ these. Contains these (command_of x)) are (i, less, at (command_of x))))
      where
        least : (place : ℕ) → P (command_at image place) → Contains all (command_at image place) → x.place ≤ place
        least place has (k, inside, is) = elim (cases_order k i) [
          | inl same ↦
              let one : command_of x ≡ command_at image place = sym (at (command_at image place)) ∙ (ap (λ j. get_or all j (command_at image place)) (sym same) ∙ is) in
              subst (λ (v : CommandView). x.place ≤ v.place) one (le_refl x.place)
          | inr (inl before) ↦ absurd (none k (command_at image place) (omega arith) before (subst P (sym is) has))
          | inr (inr after) ↦
              let above = ordered_at (λ (v w : CommandView). v.place ≤ w.place) all (command_at image place) i k rise after inside in
              subst (λ (v : CommandView). x.place ≤ v.place) is (subst (λ (v : CommandView). v.place ≤ (get_or all k (command_at image place)).place) (at (command_at image place)) above)
        ]

        first : (p : ℕ) × Contains among p × (command_at image p ≡ command_of x) → (Contains among x.place × P (command_at image x.place)) × ((place : ℕ) → Contains among place × P (command_at image place) → x.place ≤ place)
        first (p, has_p, is) =
            let same : p ≡ x.place = ap (λ (v : CommandView). v.place) is in (
              (subst (Contains among) same has_p, subst (λ q. P (command_at image q)) same (subst P (sym is) here)),
              λ place (has, that). least place that (there place has),
            )

    pub first_among : {F : Type 0} {g : Mut F (Bor Command × Unit {0}) Bool} {f : F} (u : List CommandView) (P : CommandView → Type 0) (r : Option Command) → FindsItem Steps g all f r u
        → ((y : Bor Command) (b : Bool) (q : F) → Called g f (y, tt) b q → (q ≡ f) × (IsTrue b ↔ P (command_of y.now)))
        → IsLeastPlace (λ place. Contains among place × P (command_at image place)) (option_map (λ (x : Command). x.place) r)
    first_among {F = F} {g = g} {f = f} u P r ran says = least_of P r (first_from_find _ _ r P (λ v. ¬ P v) ran (views_yield all) (λ x q k. (at x true q k).1.0 refl) (λ x q k. let (same, is) = at x false q k in (same, λ has. false≢true (is.1 has))))
      where
        at : (x : Command) (b : Bool) (q : F) → CalledAt g f x b q → (q ≡ f) × (IsTrue b ↔ P (command_of x))
        at x b q k = let (same, is) = says k.shown b q k.called in (same, subst (λ (y : Command). IsTrue b ↔ P (command_of y)) k.shows is)

-- All commands of the image

module _ (image : List ℕ) (opened : IsOpened image) {all : List CommandView} (are : all ≡ map (command_at image) (commands_of image)) where
  pub commands_yield : YieldsList Steps command_of all all
  commands_yield = views_yield all

  pub each_command : {F : Type 0} {R : F → Command → F → Type 0} {Q : F → Command → Type 0} {f : F} → ((x : Command) (q : F) → R f x q → q ≡ f)
      → ((x : Command) → IsCommandOf image (command_of x) → Q f x) → CallableAtEachTurn Steps R Q all f
  each_command stays asks = each_among image opened (commands_of image) (λ p has. has) are stays asks

  pub any_command : {F : Type 0} {g : Mut F (Command × Unit {0}) Bool} {f : F} {u : List CommandView} (P : CommandView → Type 0) (r : Bool) → ChecksAny Steps g all f r u
      → ((x : Command) (b : Bool) (q : F) → Called g f (x, tt) b q → (q ≡ f) × (IsTrue b ↔ P (command_of x))) → IsTrue r ↔ Any (λ place. P (command_at image place)) (commands_of image)
  any_command P r ran says = any_among image opened (commands_of image) (λ p has. has) are P r ran says

  pub first_command : {F : Type 0} {g : Mut F (Bor Command × Unit {0}) Bool} {f : F} (u : List CommandView) (P : CommandView → Type 0) (r : Option Command) → FindsItem Steps g all f r u
      → ((y : Bor Command) (b : Bool) (q : F) → Called g f (y, tt) b q → (q ≡ f) × (IsTrue b ↔ P (command_of y.now)))
      → IsLeastPlace (λ place. Contains (commands_of image) place × P (command_at image place)) (option_map (λ (x : Command). x.place) r)
  first_command u P r ran says = first_among image opened (commands_of image) (λ p has. has) are (commands_rise image opened) u P r ran says

-- The commands from the first that names a table to the last, and what is said of those that name one

module _ (image : List ℕ) (opened : IsOpened image) {all : List CommandView} (have : HaveTables image all) where
  pub each_tabled : {F : Type 0} {R : F → Command → F → Type 0} {Q : F → Command → Type 0} {f : F} → ((x : Command) (q : F) → R f x q → q ≡ f)
      → ((x : Command) → IsCommandOf image (command_of x) → Q f x) → CallableAtEachTurn Steps R Q all f
  each_tabled stays asks = each_among image opened have.among (is_command image have) have.are stays asks

  module _ (P : CommandView → Type 0) (named : (p : ℕ) → Contains (commands_of image) p → P (command_at image p) → NamesTables (command_cmd image p)) where
    pub any_tabled : {F : Type 0} {g : Mut F (Command × Unit {0}) Bool} {f : F} {u : List CommandView} (r : Bool) → ChecksAny Steps g all f r u
        → ((x : Command) (b : Bool) (q : F) → Called g f (x, tt) b q → (q ≡ f) × (IsTrue b ↔ P (command_of x))) → IsTrue r ↔ Any (λ place. P (command_at image place)) (commands_of image)
    any_tabled r ran says =
        let some = any_among image opened have.among (is_command image have) have.are P r ran says in (
          λ is. let (p, has, here) = one_of (λ place. P (command_at image place)) have.among (some.0 is) in any_of (λ place. P (command_at image place)) (commands_of image) p (is_command image have p has) here,
          λ any. let (p, has, here) = one_of (λ place. P (command_at image place)) (commands_of image) any in
              some.1 (any_of (λ place. P (command_at image place)) have.among p (is_tabled image have p has (named p has here)) here),
        )

    pub first_tabled_with : {F : Type 0} {g : Mut F (Bor Command × Unit {0}) Bool} {f : F} (u : List CommandView) (r : Option Command) → FindsItem Steps g all f r u
        → ((y : Bor Command) (b : Bool) (q : F) → Called g f (y, tt) b q → (q ≡ f) × (IsTrue b ↔ P (command_of y.now)))
        → IsLeastPlace (λ place. Contains (commands_of image) place × P (command_at image place)) (option_map (λ (x : Command). x.place) r)
    first_tabled_with u r ran says =
        least_same (λ place. Contains have.among place × P (command_at image place)) (λ place. Contains (commands_of image) place × P (command_at image place)) (option_map (λ (x : Command). x.place) r)
        (λ place. (λ (has, here). (is_command image have place has, here), λ (has, here). (is_tabled image have place has (named place has here), here)))
        (first_among image opened have.among (is_command image have) have.are (tabled_rise image have opened) u P r ran says)

  -- the first with a cmd that names tables
  pub place_tabled : {F : Type 0} {g : Mut F (Bor Command × Unit {0}) Bool} {f : F} (u : List CommandView) (cmd : ℕ) → NamesTables cmd → (r : Option Command) → FindsItem Steps g all f r u
      → ((x : Command) (b : Bool) (q : F) → CalledAt g f x b q → (q ≡ f) × (b ≡ (command_of x).cmd == cmd))
      → option_map (λ (x : Command). x.place) r ≡ first_with_cmd image cmd (commands_of image)
  place_tabled u cmd names r ran says = places r ∙ (ap (option_map (λ (v : CommandView). v.place)) (find_from_yields_List (λ (v : CommandView). v.cmd == cmd) u _ r ran (views_yield all) says)
      ∙ first_tabled image have cmd names)
    where
      places : (r : Option Command) → option_map (λ (x : Command). x.place) r ≡ option_map (λ (v : CommandView). v.place) (option_map command_of r)
      places None = refl
      places (Some x) = refl

-- Segments

module _ (image : List ℕ) {all : List SegmentView} (are : AreSegments image all) where
  pub segments_yield : YieldsList (YieldsFirst (λ (left : List SegmentView). left)) (λ s. s) all all
  segments_yield = YieldsList-from_first (λ (s : SegmentView). s) (λ (left : List SegmentView). left) all refl

  -- what a closure may be asked: about segments whose structures lie inside the image
  pub each_segment : {F : Type 0} {R : F → SegmentView → F → Type 0} {Q : F → SegmentView → Type 0} {f : F} → IsOpened image → ((s : SegmentView) (q : F) → R f s q → q ≡ f)
      → ((s : SegmentView) → s.place + 72 ≤ length s.image → Q f s) → CallableAtEachTurn (YieldsFirst (λ (left : List SegmentView). left)) R Q all f
  each_segment opened stays asks = serves_from_places segments_yield stays (λ s k less at. asks s (inside s (k, less, sym at)))
    where
      inside : (s : SegmentView) → Contains all s → s.place + 72 ≤ length s.image
      inside s has = view_inside image opened s (segment_among image all are s has) (sym (ap (λ (t : SegmentView). t.image) (segment_of image all are s has)))

  pub any_segment : {F : Type 0} {g : Mut F (SegmentView × Unit {0}) Bool} {f : F} {u : List SegmentView} (P : List ℕ → ℕ → Type 0) (r : Bool)
      → ChecksAny (YieldsFirst (λ (left : List SegmentView). left)) g all f r u
      → ((s : SegmentView) (b : Bool) (q : F) → Called g f (s, tt) b q → (q ≡ f) × (IsTrue b ↔ P s.image s.place)) → IsTrue r ↔ Any (P image) (all_segments image)
  any_segment P r ran says =
      some_has (λ (s : SegmentView). P s.image s.place) (segment_at image) (all_segments image) all are r
      (cases_from_any _ _ r (λ (s : SegmentView). P s.image s.place) (λ (s : SegmentView). ¬ P s.image s.place) ran segments_yield (λ s q k. (says s true q k).1.0 refl)
      (λ s q k. let (same, is) = says s false q k in (same, λ has. false≢true (is.1 has))))

  -- what is found has P, and is one of the image
  pub find_segment : {F : Type 0} {g : Mut F (Bor SegmentView × Unit {0}) Bool} {f : F} (u : List SegmentView) (P : List ℕ → ℕ → Type 0) (r : Option SegmentView)
      → FindsItem (YieldsFirst (λ (left : List SegmentView). left)) g all f r u
      → ((y : Bor SegmentView) (b : Bool) (q : F) → Called g f (y, tt) b q → (q ≡ f) × (IsTrue b ↔ P y.now.image y.now.place))
      → MatchOption r (¬ Any (P image) (all_segments image)) (λ s. P image s.place × (s.image ≡ image) × Contains (all_segments image) s.place)
  find_segment {F = F} {g = g} {f = f} u P r ran says = of_search r (first_from_find _ _ r (λ (s : SegmentView). P s.image s.place) (λ (s : SegmentView). ¬ P s.image s.place) ran segments_yield (λ s q k. (at s true q k).1.0 refl) (λ s q k. let (same, is) = at s false q k in (same, λ has. false≢true (is.1 has))))
    where
      at : (s : SegmentView) (b : Bool) (q : F) → CalledAt g f s b q → (q ≡ f) × (IsTrue b ↔ P s.image s.place)
      at s b q k = let (same, is) = says k.shown b q k.called in (same, subst (λ (y : SegmentView). IsTrue b ↔ P y.image y.place) k.shows is)

      of_search : (r : Option SegmentView)
          → MatchOption r (AllWithin (λ (s : SegmentView). ¬ P s.image s.place) all 0 (length all)) (λ x. P x.image x.place × (i : ℕ) × (i < length all) × HoldsAt (λ y. y ≡ x) all i × AllWithin (λ (s : SegmentView). ¬ P s.image s.place) all 0 i)
          → MatchOption r (¬ Any (P image) (all_segments image)) (λ s. P image s.place × (s.image ≡ image) × Contains (all_segments image) s.place)
      of_search None none = λ any. none_any (λ (s : SegmentView). P s.image s.place) all none (any_mapped (λ (s : SegmentView). P s.image s.place) (segment_at image) (all_segments image) all are any)
      of_search (Some s) (here, i, less, is, none) =
          let has : Contains all s = (i, less, is s) in
          let same = ap (λ (t : SegmentView). t.image) (segment_of image all are s has) in
          (subst (λ (bytes : List ℕ). P bytes s.place) same here, same, segment_among image all are s has)

-- what holds of what was found, or where nothing was
pub match_none : {X : Type 0} (A : Type 0) (B : X → Type 0) (r : Option X) → MatchOption r A B → r ≡ None → A
match_none A B r found is = subst (λ o. MatchOption o A B) is found

pub match_some : {X : Type 0} (A : Type 0) (B : X → Type 0) (r : Option X) → MatchOption r A B → (x : X) → r ≡ Some x → B x
match_some A B r found x is = subst (λ o. MatchOption o A B) is found

-- The tables of a command, if its number is one of some

module _ (image : List ℕ) (command : CommandView) (is : IsCommandOf image command) (wanted : ℕ → Bool) (tables : List TableFields)
    (are : tables ≡ cond (wanted command.cmd) (option_map_or table_fields (structure_of command.cmd) []) []) where
  abbrev number : ℕ
  number = command_cmd image command.place

  -- the fields that bound them
  abbrev bounds : List TableFields
  bounds = option_map_or table_fields (structure_of number) []

  abbrev at : TableFields → ℕ × ℕ × ℕ
  at = table_at image command.place

  these : tables ≡ cond (wanted number) bounds []
  these = are ∙ ap (λ n. cond (wanted n) (option_map_or table_fields (structure_of n) []) []) (ap (λ (v : CommandView). v.cmd) is.same)

  bounded : tables_of image command.place ≡ map at bounds
  bounded = by_structure (structure_of number)
    where
      by_structure : (s : Option Structure) → option_map_or (λ t. map at (table_fields t)) s [] ≡ map at (option_map_or table_fields s [])
      by_structure None = refl
      by_structure (Some s) = refl

  -- they lie inside the image
  abbrev LieInside : TableFields → Type 0
  LieInside fields = (command.place + fields.place + width_size fields.width ≤ length image) × (command.place + fields.count + width_size fields.width ≤ length image)

  bounds_inside : (s : Option Structure) → structure_of number ≡ s → All LieInside (option_map_or table_fields s [])
  bounds_inside None none = λ k d less. absurd (omega arith)
  bounds_inside (Some s) some =
      table_fields_inside image (commands_of image) (opened_facts image is.opened) (opened_commands image is.opened) command.place s is.listed some

  inside : (b : Bool) → tables ≡ cond b bounds [] → All LieInside tables
  inside true same = subst (All LieInside) (sym same) (bounds_inside (structure_of number) refl)
  inside false none = λ k d less. let count = ap length none in absurd (omega arith)

  module _ {S : Type 0} {steps : S → Option (Bor TableFields) → S → Type 0} {s : S} (road : YieldsList steps (λ y. y.now) s tables) where
    -- what a closure may be asked: about such fields
    pub each_table : {F : Type 0} {R : F → Bor TableFields → F → Type 0} {Q : F → Bor TableFields → Type 0} {f : F} → ((y : Bor TableFields) (q : F) → R f y q → q ≡ f)
        → ((y : Bor TableFields) → LieInside y.now → Q f y) → CallableAtEachTurn steps R Q s f
    each_table stays asks = serves_from_places road stays (λ y k less same. asks y (subst LieInside (sym same) (inside (wanted number) these k y.now less)))

    pub any_table : {F : Type 0} {g : Mut F (Bor TableFields × Unit {0}) Bool} {f : F} {u : S} (P : ℕ × ℕ × ℕ → Type 0) (r : Bool) → ChecksAny steps g s f r u
        → ((y : Bor TableFields) (b : Bool) (q : F) → Called g f (y, tt) b q → (q ≡ f) × (IsTrue b ↔ P (at y.now)))
        → IsTrue r ↔ ((wanted number ≡ true) × Any P (tables_of image command.place))
    any_table P r ran says = by_number (wanted number) these
      where
        some : IsTrue r ↔ Any (λ fields. P (at fields)) tables
        some = decides (λ fields. P (at fields)) tables r (cases_from_any _ _ r (λ fields. P (at fields)) (λ fields. ¬ P (at fields)) ran road (λ y q k. (says y true q k).1.0 refl)
            (λ y q k. let (same, is) = says y false q k in (same, λ has. false≢true (is.1 has))))

        by_number : (b : Bool) → tables ≡ cond b bounds [] → IsTrue r ↔ ((b ≡ true) × Any P (tables_of image command.place))
        by_number true same = (
          λ is. (refl, any_mapped P at bounds (tables_of image command.place) bounded (subst (Any (λ fields. P (at fields))) same (some.0 is))),
          λ (_, any). some.1 (subst (Any (λ fields. P (at fields))) (sym same) (mapped_any P at bounds (tables_of image command.place) bounded any)),
        )
        by_number false same = (
          λ is. absurd (any_nil (λ fields. P (at fields)) (subst (Any (λ fields. P (at fields))) same (some.0 is))),
          λ (wrong, _). absurd (false≢true wrong),
        )
