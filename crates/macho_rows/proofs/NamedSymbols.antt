-- The first symbol with a name.
use Rattle.std.proofs.Common.{◌≡◌, ◌≢◌, ◌∙◌, ◌↔◌, ℕ, zero, suc, ◌+◌, ◌==◌, List, [], ◌∷◌, length, map, take, drop, Bool, true, false, Option, None, Some, slice_get, Contains, inl, inr, refl, sym, ap, subst, subst₂, arith, length-drop}
use Rattle.std.specs.List.{list_any}
use Rattle.std.specs.Option.{option_map}
use Rattle.std.specs.Prelude.{not}
use Rattle.std.proofs.lemmas.Bool.{cases_Bool, cases_lt, eqb-true, eqb-false, ne_eqb, not-true, or_parts}
use Rattle.std.proofs.lemmas.Option.{same_Some, none-some, slice_get_within, slice_get-map, get_or_from_slice_get}
use Rattle.macho_fields.specs.Field.{string_from}
use Rattle.macho_fields.specs.Image.{commands_of}
use Rattle.macho_fields.specs.Layers.{NothingBreaks}
use Rattle.macho_fields.specs.Rules.{BreaksImage}
use Rattle.macho_image.specs.Symbol.{symbol_at, symbols_of, items_inside}
use Rattle.macho_image.specs.declared.symbol.Symbol.{Symbol}
use Rattle.macho_image.specs.declared.symtab.Symtab.{Symtab}
use Rattle.macho_rows.specs.Image.{ShowsUnbroken, image_in, symtab_in, field_of}
use Rattle.macho_rows.specs.Spans.{part_or_none}
use Rattle.macho_rows.specs.SymbolNames.{HasName, HasNameIn, HasNameAmong, NoneBelow, FindsFirst, IsNamed, FindsNamed}
use Rattle.macho_rows.specs.Rows.{first_string}
use Rattle.macho_rows.specs.declared.image.KesvuotImage.{KesvuotImage}
use Rattle.macho_rows.proofs.AllSymbols.{name_found, table_same, unbroken}

abbrev is_zero : ℕ → Bool
is_zero byte = byte == 0

-- The string at the front of bytes

zero_string : (x : ℕ) (bytes : List ℕ) → is_zero x ≡ true → first_string (x ∷ bytes) ≡ Some []
zero_string x bytes is = rw is refl

more_string : (x : ℕ) (bytes : List ℕ) → is_zero x ≡ false → first_string (x ∷ bytes) ≡ option_map (λ s. x ∷ s) (first_string bytes)
more_string x bytes is = by (list_any is_zero bytes) refl
  where
    more : (k : ℕ) (ys : List ℕ) → take (1 + k) (x ∷ ys) ≡ x ∷ take k ys
    more k ys = let unary : 1 + k ≡ suc k = omega arith in rw unary refl

    by : (b : Bool) → list_any is_zero bytes ≡ b → first_string (x ∷ bytes) ≡ option_map (λ s. x ∷ s) (first_string bytes)
    by true some = rw is (rw some (ap Some (more _ bytes)))
    by false none = rw is (rw none refl)

-- what a comparison with a name finds: these bytes are the name, a zero byte follows, and none is in it
pub record IsSpelled (bytes name : List ℕ) : Type 0 where
  pub front : take (length name) bytes ≡ name
  pub ends : slice_get (drop (length name) bytes) 0 ≡ Some 0
  pub whole : list_any is_zero name ≡ false

-- the first byte of a string goes on, and the rest is as it should be
spelled_on : (x : ℕ) (bytes name : List ℕ) → is_zero x ≡ false → ((s : List ℕ) → first_string bytes ≡ Some s → IsSpelled bytes s) → first_string (x ∷ bytes) ≡ Some name → IsSpelled (x ∷ bytes) name
spelled_on x bytes name goes later is = by (first_string bytes) refl
  where
    by : (o : Option (List ℕ)) → first_string bytes ≡ o → IsSpelled (x ∷ bytes) name
    by None none = absurd (none-some name (ap (option_map (λ s. x ∷ s)) (sym none) ∙ (sym (more_string x bytes goes) ∙ is)))
    by (Some s) some =
        let same : x ∷ s ≡ name = same_Some (x ∷ s) name (ap (option_map (λ t. x ∷ t)) (sym some) ∙ (sym (more_string x bytes goes) ∙ is)) in
        let rest = later s some in
        subst (IsSpelled (x ∷ bytes)) same (record { front = ap (λ t. x ∷ t) rest.front; ends = rest.ends; whole = rw goes rest.whole })

pub spelled : (bytes name : List ℕ) → first_string bytes ≡ Some name → IsSpelled bytes name
spelled [] name is = absurd (none-some name is)
spelled (x ∷ bytes) name is = elim (cases_Bool (is_zero x)) [
  | inl ends ↦
      let none : [] ≡ name = same_Some [] name (sym (zero_string x bytes ends) ∙ is) in
      subst (IsSpelled (x ∷ bytes)) none (record { front = refl; ends = ap Some (eqb-true x 0 ends); whole = refl })
  | inr goes ↦ spelled_on x bytes name goes (λ s found. spelled bytes s found) is
]

pub string_spelled : (bytes name : List ℕ) → IsSpelled bytes name → first_string bytes ≡ Some name
string_spelled [] [] is = absurd (none-some 0 is.ends)
string_spelled (x ∷ bytes) [] is = zero_string x bytes (rw (same_Some x 0 is.ends) refl)
string_spelled [] (y ∷ name) is = absurd (let count = ap length is.front in omega (arith, count))
string_spelled (x ∷ bytes) (y ∷ name) is =
    let same : x ≡ y = ap first is.front in
    let parts = or_parts (is_zero y) (list_any is_zero name) is.whole in
    let goes : is_zero x ≡ false = rw same parts.0 in
    let rest = string_spelled bytes name (record { front = ap (drop 1) is.front; ends = is.ends; whole = parts.1 }) in
    more_string x bytes goes ∙ rw rest (ap (λ z. Some (z ∷ name)) same)
  where
    first : List ℕ → ℕ
    first [] = 0
    first (z ∷ zs) = z

-- the byte past the name
past_front : (n : ℕ) (bytes : List ℕ) → slice_get (drop n bytes) 0 ≡ slice_get bytes n
past_front zero bytes = refl
past_front (suc n) [] = refl
past_front (suc n) (x ∷ bytes) = past_front n bytes

-- the tests together
pub string_test : (bytes name : List ℕ) (contains : Bool) → name ≡ take (length name) bytes → slice_get bytes (length name) ≡ Some 0 → contains ≡ list_any is_zero name → (not contains ≡ true) ↔ (first_string bytes ≡ Some name)
string_test bytes name contains front ends any = (
  (λ none. string_spelled bytes name (record { front = sym front; ends = past_front (length name) bytes ∙ ends; whole = sym any ∙ not-true contains none })),
  λ found. ap not (any ∙ (spelled bytes name found).whole),
)

-- bytes that another byte follows, or that begin otherwise
pub other_end : (bytes name : List ℕ) → slice_get bytes (length name) ≢ Some 0 → ¬ (first_string bytes ≡ Some name)
other_end bytes name other found = other (sym (past_front (length name) bytes) ∙ (spelled bytes name found).ends)

pub other_front : (bytes name : List ℕ) → name ≢ take (length name) bytes → ¬ (first_string bytes ≡ Some name)
other_front bytes name other found = other (sym (spelled bytes name found).front)

-- The search

-- where these are left from an index on, the first of them has the index
pub first_left : {X : Type 0} (all : List X) (k : ℕ) (x : X) (rest : List X) → drop k all ≡ x ∷ rest → slice_get all k ≡ Some x
first_left [] zero x rest is = absurd (cc)
first_left (y ∷ all) zero x rest is = let same : y ≡ x = cc in ap Some same
first_left [] (suc k) x rest is = absurd (cc)
first_left (y ∷ all) (suc k) x rest is = first_left all k x rest is

pub rest_left : {X : Type 0} (all : List X) (k : ℕ) (x : X) (rest : List X) → drop k all ≡ x ∷ rest → drop (k + 1) all ≡ rest
rest_left [] zero x rest is = absurd (cc)
rest_left (y ∷ all) zero x rest is = let same : all ≡ rest = cc in same
rest_left [] (suc k) x rest is = absurd (cc)
rest_left (y ∷ all) (suc k) x rest is = let next : suc k + 1 ≡ suc (k + 1) = omega arith in rw next (rest_left all k x rest is)

pub more_below : (P : Symbol → Type 0) (all : List Symbol) (k : ℕ) (s : Symbol) → NoneBelow P all k → slice_get all k ≡ Some s → ¬ P s → NoneBelow P all (k + 1)
more_below P all k s none at fails j other less found holds = elim (cases_lt j k) [
  | inl before ↦ none j other before found holds
  | inr most ↦
      let same : j ≡ k = omega (arith, less, most) in
      fails (subst P (same_Some other s (sym found ∙ (ap (slice_get all) same ∙ at))) holds)
]

pub none_remain : (P : Symbol → Type 0) (all : List Symbol) (k : ℕ) → NoneBelow P all k → drop k all ≡ [] → (j : ℕ) (other : Symbol) → slice_get all j ≡ Some other → ¬ P other
none_remain P all k none over j other found = none j other (omega (arith, slice_get_within all j other found, ap length over, length-drop k all)) found

-- What is found

-- by tests that agree on the symbols
pub same_found : (P Q : Symbol → Type 0) (symbols : List Symbol) (found : Option (ℕ × Symbol)) → ((k : ℕ) (s : Symbol) → slice_get symbols k ≡ Some s → P s ↔ Q s) → FindsFirst P symbols found → FindsFirst Q symbols found
same_found P Q symbols None same none = λ k other at holds. none k other at ((same k other at).1 holds)
same_found P Q symbols (Some first) same is =
    (is.0, (same first.0 first.1 is.0).0 is.1, λ k other less at holds. is.2 k other less at ((same k other at).1 holds))

-- a name among the strings of the struct
pub among_shown : (image : List ℕ) (row : KesvuotImage) (name : List ℕ) (s : Symbol) → HasNameAmong (part_or_none row.strings row.strings_size image) name s ↔ HasName image row name s
among_shown image row name s = (
  (λ named. (named.0, let some : s.strx == 0 ≡ false = ne_eqb s.strx 0 named.1 in rw some named.2)),
  λ named. elim (cases_Bool (s.strx == 0)) [
    | inl none ↦ absurd (none-some name (rw none at named.1))
    | inr some ↦ (named.0, (λ zero_strx. eqb-false s.strx 0 some zero_strx), rw some at named.1)
  ],
)

-- the same among the symbols of an image that breaks no rule
module _ (image : List ℕ) (unbroken : NothingBreaks (BreaksImage image None)) (name : List ℕ) where
  abbrev strings_of : List ℕ
  strings_of =
      part_or_none (field_of (λ (t : Symtab). t.stroff) (symtab_in image)) (field_of (λ (t : Symtab). t.strsize) (symtab_in image)) image

  abbrev places : List ℕ
  places = symbols_of image (commands_of image)

  string_of : (k : ℕ) (s : Symbol) → slice_get (map (symbol_at image) places) k ≡ Some s → s.strx ≢ 0
      → first_string (drop s.strx strings_of) ≡ Some (string_from (field_of (λ (t : Symtab). t.stroff) (symtab_in image) + s.strx) image)
  string_of k s at some = by (slice_get places k) refl
    where
      by : (o : Option ℕ) → slice_get places k ≡ o
          → first_string (drop s.strx strings_of) ≡ Some (string_from (field_of (λ (t : Symtab). t.stroff) (symtab_in image) + s.strx) image)
      by None none = absurd (none-some s (ap (option_map (symbol_at image)) (sym none) ∙ (sym (slice_get-map (symbol_at image) places k) ∙ at)))
      by (Some p) found =
          let same : symbol_at image p ≡ s = same_Some (symbol_at image p) s (ap (option_map (symbol_at image)) (sym found) ∙ (sym (slice_get-map (symbol_at image) places k) ∙ at)) in
          let has : Contains places p = (k, slice_get_within places k p found, get_or_from_slice_get places k p p found) in
          name_found image unbroken p s.strx has (ap (λ (t : Symbol). t.strx) same) some

  pub among_seen : (k : ℕ) (s : Symbol) → slice_get (map (symbol_at image) places) k ≡ Some s → HasNameAmong strings_of name s ↔ HasNameIn image name s
  among_seen k s at = (
    (λ named. (named.0, named.1, same_Some _ name (sym (string_of k s at named.1) ∙ named.2))),
    λ named. (named.0, named.1, string_of k s at named.1 ∙ ap Some named.2),
  )

-- The first one

-- by the strings and the symbols of the struct
pub shown_named : (image : List ℕ) (row : KesvuotImage) (name : List ℕ) (found : Option (ℕ × Symbol)) (strings : List ℕ) (symbols : List Symbol)
    → strings ≡ part_or_none row.strings row.strings_size image → symbols ≡ map (symbol_at image) (items_inside image row.symbols 16 row.symbol_count)
    → FindsFirst (HasNameAmong strings name) symbols found → IsNamed image row name found
shown_named image row name found strings symbols are same answer =
    let shown : List Symbol = map (symbol_at image) (items_inside image row.symbols 16 row.symbol_count) in
    same_found (HasNameAmong (part_or_none row.strings row.strings_size image) name) (HasName image row name) shown found (λ k s at. among_shown image row name s)
    (subst₂ (λ text all. FindsFirst (HasNameAmong text name) all found) are same answer)

-- by the image alone, where it breaks no rule
pub seen_named : (file : List ℕ) (row : KesvuotImage) (shows : ShowsUnbroken file row) (name : List ℕ) (found : Option (ℕ × Symbol)) → IsNamed (image_in file row) row name found → FindsNamed (image_in file row) name found
seen_named file row shows name found answer =
    let image = image_in file row in
    let seen : List Symbol = map (symbol_at image) (symbols_of image (commands_of image)) in
    let among : FindsFirst (HasNameAmong (part_or_none row.strings row.strings_size image) name) seen found =
    same_found (HasName image row name) (HasNameAmong (part_or_none row.strings row.strings_size image) name) seen found (λ k s at. ((among_shown image row name s).1, (among_shown image row name s).0))
    (subst (λ places. FindsFirst (HasName image row name) (map (symbol_at image) places) found) (table_same file row shows) answer) in
    same_found (HasNameAmong (strings_of image (unbroken file row shows) name) name) (HasNameIn image name) seen found (among_seen image (unbroken file row shows) name)
    (subst₂ (λ start size. FindsFirst (HasNameAmong (part_or_none start size image) name) seen found) shows.0.tables.strings shows.0.tables.strings_size among)
