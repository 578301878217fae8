-- The external symbols that have names, as a walk over the symbols of an image lists them.
use Rattle.std.proofs.Common.{◌≡◌, ◌≢◌, ◌↔◌, ◌∙◌, ◌⊎◌, ℕ, ◌+◌, ◌*◌, ◌==◌, ◌<◌, ◌≤◌, List, [], ◌∷◌, ◌++◌, length, take, drop, Contains, None, Some, refl, sym, ap, subst, arith, lit<, inl, inr, length-take}
use Rattle.std.specs.List.{position_or_len}
use Rattle.std.specs.Prelude.{IsPermutation}
use Rattle.std.proofs.lemmas.Bool.{cases_lt}
use Rattle.std.proofs.lemmas.List.Sorted.{Contains-permutation, IsPermutation-sym}
use Rattle.std.proofs.lemmas.List.{take_min}
use Rattle.std.proofs.lemmas.List.Elements.{Contains-append_left, Contains-append_right, Contains-append_cases}
use Rattle.std.proofs.lemmas.Option.{same_Some, slice_get_within}
use Rattle.macho_fields.specs.Field.{string_from, HasZero}
use Rattle.macho_fields.specs.Image.{commands_of, with_cmd}
use Rattle.macho_fields.specs.Layers.{NothingBreaks}
use Rattle.macho_fields.specs.LoadCommands.{symbol_table}
use Rattle.macho_fields.specs.Rules.{BreaksImage}
use Rattle.macho_fields.specs.Symbol.{symoff, nsyms, stroff, strsize, n_strx, AtSymbol, IsOutside}
use Rattle.macho_fields.specs.declared.load_command.Structure.TheVariants.{SymtabCommand}
use Rattle.macho_fields.specs.declared.header.loader.TheConstants as loader
use Rattle.macho_fields.specs.declared.rule.Rule.TheVariants as rule
use Rattle.macho_fields.proofs.FirstPlaces.{AreBreaks}
use Rattle.macho_fields.proofs.Lists.{any_of, contains_first, contains_later, first_or_later, none_in_nil}
use Rattle.macho_fields.proofs.LoadCommands.{symbols_listed}
use Rattle.macho_fields.proofs.Strings.{zero_after}
use Rattle.macho_image.specs.Command.{first_with_cmd}
use Rattle.macho_image.specs.Symbol.{symbol_at}
use Rattle.macho_image.specs.declared.symbol.Symbol.{Symbol}
use Rattle.macho_rules.proofs.SymbolItems.{AreSymbols}
use Rattle.macho_rules.proofs.TableItems.{items_break, item_at, table_inside}
use Rattle.macho_rules.proofs.Verdicts.{unbroken_image_sound}
use Rattle.macho_spans.specs.Span.{end_of}
use Rattle.macho_spans.specs.declared.span.Span.{Span}
use Rattle.macho_alike.specs.Definitions.{name_of}
use Rattle.macho_alike.specs.Names.{HasExternalName, IsNameOf, IsNamed, text_of}
use Rattle.macho_alike.specs.declared.names.Named.{Named}

-- it stands for the symbol
abbrev pub StandsFor : List ℕ → ℕ → Symbol → Named → Type 0
StandsFor image symtab symbol one = IsNameOf image symtab symbol one.name × (symbol.place ≡ one.place)

abbrev pub made : Span → ℕ → Named
made name place = record { name = name; place = place }

-- one stands for a symbol at most
one_for : (image : List ℕ) (symtab : ℕ) (symbol : Symbol) (a b : Named) → StandsFor image symtab symbol a → StandsFor image symtab symbol b → a ≡ b
one_for image symtab symbol a b (is_a, at_a) (is_b, at_b) =
    let start : a.name.start ≡ b.name.start = is_a.start ∙ sym is_b.start in
    let len : a.name.len ≡ b.name.len = is_a.len ∙ (ap (λ n. length (string_from n image)) start ∙ sym is_b.len) in
    ap (λ s. made (record { start = s; len = a.name.len }) a.place) start ∙ (ap (λ n. made (record { start = b.name.start; len = n }) a.place) len ∙ ap (made b.name) (sym at_a ∙ at_b))

-- These symbols are left. Those that were passed and have names are listed.
pub record AreListed (image : List ℕ) (symtab : ℕ) (all left : List Symbol) (names : List Named) : Type 0 where
  pub from : (one : Named) → Contains names one → (s : Symbol) × Contains all s × StandsFor image symtab s one
  pub to : (one : Named) (s : Symbol) → Contains all s → StandsFor image symtab s one → Contains left s ⊎ Contains names one
  pub among : (s : Symbol) → Contains left s → Contains all s

module _ (image : List ℕ) (symtab : ℕ) (all : List Symbol) where
  pub listed_none : (names : List Named) → names ≡ [] → AreListed image symtab all all names
  listed_none names is = record {
    from = λ one has. absurd (none_in_nil one (subst (λ xs. Contains xs one) is has));
    to = λ one s has stands. inl has;
    among = λ s has. has;
  }

  module _ (left rest : List Symbol) (s : Symbol) (is : left ≡ s ∷ rest) (names : List Named) (listed : AreListed image symtab all left names) where
    pub this_among : Contains all s
    this_among = listed.among s (subst (λ ys. Contains ys s) (sym is) (contains_first s rest))

    rest_among : (x : Symbol) → Contains rest x → Contains all x
    rest_among x has = listed.among x (subst (λ ys. Contains ys x) (sym is) (contains_later s x rest has))

    this_or_rest : (x : Symbol) → Contains left x → (s ≡ x) ⊎ Contains rest x
    this_or_rest x has = first_or_later s x rest (subst (λ ys. Contains ys x) is has)

    -- it has a name
    pub listed_next : (one : Named) → StandsFor image symtab s one → AreListed image symtab all rest (names ++ one ∷ [])
    listed_next one stands = record {
      from = λ other has. elim (Contains-append_cases names (one ∷ []) other has) [
        | inl before ↦ listed.from other before
        | inr last ↦ (s, this_among, subst (StandsFor image symtab s) (only other last) stands)
      ];
      to = λ other x has_x stands_x. elim (listed.to other x has_x stands_x) [
        | inl here ↦ elim (this_or_rest x here) [
          | inl same ↦ inr (subst (Contains (names ++ one ∷ [])) (one_for image symtab s one other stands (subst (λ (t : Symbol). StandsFor image symtab t other) (sym same) stands_x))
              (Contains-append_right names (one ∷ []) one (contains_first one [])))
          | inr later ↦ inl later
        ]
        | inr there ↦ inr (Contains-append_left names (one ∷ []) other there)
      ];
      among = rest_among;
    }
      where
        only : (other : Named) → Contains (one ∷ []) other → one ≡ other
        only other has = elim (first_or_later one other [] has) [ inl same ↦ same | inr later ↦ absurd (none_in_nil other later) ]

    -- it has none
    pub passed_next : ¬ HasExternalName s → AreListed image symtab all rest names
    passed_next nothing = record {
      from = listed.from;
      to = λ other x has_x stands_x. elim (listed.to other x has_x stands_x) [
        | inl here ↦ elim (this_or_rest x here) [
          | inl same ↦ absurd (nothing (subst HasExternalName (sym same) stands_x.0.external))
          | inr later ↦ inl later
        ]
        | inr there ↦ inr there
      ];
      among = rest_among;
    }

-- In an image that breaks no rule

module _ (image : List ℕ) (keeps : NothingBreaks (BreaksImage image None)) where
  -- a zero byte ends each name
  zero_after_string : (symtab : ℕ) → Contains (with_cmd image loader.LC_SYMTAB (commands_of image)) symtab → (k : ℕ) → k < nsyms image symtab → (place : ℕ) → place ≡ symoff image symtab + 16 * k
      → HasExternalName (symbol_at image place) → HasZero image (stroff image symtab + n_strx image place) (stroff image symtab + strsize image symtab)
  zero_after_string symtab (i, inside, at) k few place is named =
      let some : n_strx image (symoff image symtab + 16 * k) ≢ 0 = subst (λ p. n_strx image p ≢ 0) is named.1 in
      let start : ℕ = stroff image symtab in
      let end : ℕ = start + strsize image symtab in
      subst (λ p. HasZero image (start + n_strx image p) end) (sym is)
      ((unbroken_image_sound image keeps).names (start + n_strx image (symoff image symtab + 16 * k)) end (inr (i, symtab, inside, at, (k, few, (some, refl, refl)))))

  -- the name of a symbol ends before the image does
  pub named_inside : (one : Named) → IsNamed image one → end_of one.name < length image
  named_inside one (i, c, inside, at, (k, few, is, of)) =
      let start : ℕ = stroff image c + n_strx image one.place in
      let zero = zero_after_string c (i, inside, at) k few one.place is of.external in
      let (before, there) = zero_after image start (stroff image c + strsize image c) zero in
      let less = slice_get_within image (start + length (string_from start image)) 0 there in
      let len : one.name.len ≡ length (string_from start image) = of.len ∙ ap (λ n. length (string_from n image)) of.start in
      omega (arith, less, len, of.start)

  -- the symbol lies in the image
  pub symbol_inside : (one : Named) → IsNamed image one → one.place + 16 ≤ length image
  symbol_inside one (i, c, inside, at, (k, few, is, of)) =
      let fits : ¬ IsOutside image (symoff image c, nsyms image c, 16) =
      table_inside image loader.LC_SYMTAB SymtabCommand c symbol_table rule.SymbolName (lit< tt) (λ other place early. keeps other place) refl (i, inside, at) symbols_listed in
      elim (cases_lt (length image) (symoff image c + nsyms image c * 16)) [
        | inl past ↦ absurd (fits (omega (arith, few), past))
        | inr most ↦ omega (arith, most, few, is)
      ]

-- From the list to the image

module _ (image : List ℕ) (keeps : NothingBreaks (BreaksImage image None)) (all : List Symbol) (are : AreSymbols image all)
    (symtab : ℕ) (first : first_with_cmd image loader.LC_SYMTAB (commands_of image) ≡ Some symtab) where
  -- what holds of a symbol of the image holds of one of the list
  pub symbols_are : (P : ℕ → Symbol → Type 0) → AreBreaks (AtSymbol image (commands_of image) (λ c p. P c (symbol_at image p))) (λ s. s.place) (P symtab) all
  symbols_are P =
      items_break image loader.LC_SYMTAB 16 (symoff image) (nsyms image) (symbol_at image) (λ s. s.place) (λ p. refl) rule.SymbolName (lit< tt) (λ other place early. keeps other place) refl
      (λ c has. table_inside image loader.LC_SYMTAB SymtabCommand c symbol_table rule.SymbolName (lit< tt) (λ other place early. keeps other place) refl has symbols_listed)
      (λ c p. P c (symbol_at image p)) (P symtab)
      (λ c p here. let same = same_Some symtab c (sym first ∙ here) in
      (λ is. subst (λ t. P t (symbol_at image p)) same is, λ is. subst (λ t. P t (symbol_at image p)) (sym same) is)) all are

  zero_after_name : (s : Symbol) → Contains all s → HasExternalName s → HasZero image (stroff image symtab + s.strx) (stroff image symtab + strsize image symtab)
  zero_after_name s has named =
      let (i, c, inside, at, (k, few, is, (some, same))) = (symbols_are (λ c t. HasExternalName t × (c ≡ symtab))).broken s has (named, refl) in
      let read : s ≡ symbol_at image s.place = item_at image loader.LC_SYMTAB 16 (symoff image) (nsyms image) (symbol_at image) (λ t. t.place) (λ p. refl) all are s has in
      let zero = zero_after_string image keeps c (i, inside, at) k few s.place is some in
      subst (λ t. HasZero image (stroff image t + s.strx) (stroff image t + strsize image t)) same
      (subst (λ n. HasZero image (stroff image c + n) (stroff image c + strsize image c)) (sym (ap (λ (t : Symbol). t.strx) read)) zero)

  -- a name begins in the image
  pub begins_inside : (s : Symbol) → Contains all s → HasExternalName s → stroff image symtab + s.strx < length image
  begins_inside s has named = let (z, from, below, inside, zero) = zero_after_name s has named in omega (arith, from, inside)

  module _ (left : List Symbol) (names : List Named) (none : left ≡ []) (listed : AreListed image symtab all left names) where
    pub all_listed : (one : Named) → Contains names one ↔ IsNamed image one
    all_listed one = (to, from)
      where
        are_named : AreBreaks (AtSymbol image (commands_of image) (λ c p. IsNameOf image c (symbol_at image p) one.name)) (λ s. s.place) (λ s. IsNameOf image symtab s one.name) all
        are_named = symbols_are (λ c s. IsNameOf image c s one.name)

        to : Contains names one → IsNamed image one
        to has = let (s, among, (stands, at)) = listed.from one has in subst (AtSymbol image (commands_of image) (λ c p. IsNameOf image c (symbol_at image p) one.name)) at (are_named.broken s among stands)

        from : IsNamed image one → Contains names one
        from is = let (s, among, stands, at) = are_named.only one.place is in elim (listed.to one s among (stands, at)) [
          | inl here ↦ absurd (none_in_nil s (subst (λ ys. Contains ys s) none here))
          | inr there ↦ there
        ]

-- Each symbol that has a name

-- what stands for it
abbrev pub named_at : List ℕ → ℕ → Symbol → Named
named_at image symtab s =
    let start = stroff image symtab + s.strx in made (record { start = start; len = length (string_from start image) }) s.place

pub name_at : (image : List ℕ) (symtab : ℕ) (s : Symbol) → HasExternalName s → IsNameOf image symtab s (named_at image symtab s).name
name_at image symtab s named = record { external = named; start = refl; len = refl }

pub named_for : (image : List ℕ) (symtab : ℕ) → Contains (with_cmd image loader.LC_SYMTAB (commands_of image)) symtab → (k : ℕ) → k < nsyms image symtab
    → (place : ℕ) → place ≡ symoff image symtab + 16 * k → HasExternalName (symbol_at image place) → IsNamed image (named_at image symtab (symbol_at image place))
named_for image symtab has k few place at named =
    any_of (λ t. (n : ℕ) × (n < nsyms image t) × (place ≡ symoff image t + 16 * n) × IsNameOf image t (symbol_at image place) (named_at image symtab (symbol_at image place)).name)
    (with_cmd image loader.LC_SYMTAB (commands_of image)) symtab has (k, few, at, name_at image symtab (symbol_at image place) named)

-- what is read of it
pub name_read : (image : List ℕ) (symtab : ℕ) (s : Symbol) (name : Span) → HasExternalName s → name.start ≡ stroff image symtab + s.strx
    → (bytes : List ℕ) → bytes ≡ image → name.len ≡ length (string_from name.start bytes) → IsNameOf image symtab s name
name_read image symtab s name named start bytes same len = record { external = named; start = start; len = len ∙ ap (λ xs. length (string_from name.start xs)) same }

-- the bytes of its name
pub text_is : (image : List ℕ) (symtab : ℕ) (s : Symbol) (one : Named) → IsNameOf image symtab s one.name → text_of image one ≡ name_of image symtab s
text_is image symtab s one is = ap (λ n. take n rest) is.len ∙ (whole (position_or_len (λ byte. byte == 0) rest) rest ∙ ap (λ n. string_from n image) is.start)
  where
    rest : List ℕ
    rest = drop one.name.start image

    whole : (n : ℕ) (xs : List ℕ) → take (length (take n xs)) xs ≡ take n xs
    whole n xs = ap (λ m. take m xs) (length-take n xs) ∙ take_min n xs

-- the same in another order
pub moved_alike : (P : Named → Type 0) (names moved : List Named) → IsPermutation names moved → ((one : Named) → Contains names one ↔ P one) → (one : Named) → Contains moved one ↔ P one
moved_alike P names moved order are one =
    (λ has. (are one).0 (Contains-permutation moved names one (IsPermutation-sym names moved order) has), λ is. Contains-permutation names moved one order ((are one).1 is))
