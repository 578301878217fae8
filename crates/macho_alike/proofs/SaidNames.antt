-- What is said of indirect entries, as binds: two of them clash where the rule is broken.
use Rattle.std.proofs.Common.{◌≡◌, ◌↔◌, ◌⊎◌, ◌∙◌, ℕ, zero, suc, ◌+◌, ◌-◌, ◌*◌, ◌/◌, ◌^◌, ◌≤◌, ◌<◌, ◌==◌, Bool, false, List, [], ◌∷◌, ◌++◌, get_or, length, map, take, drop, slice_get, Option, Some, None, Contains, Any, refl, sym, ap, subst, arith, inl, inr}
use Rattle.std.specs.Prelude.{pos, nat_lt, IsSomeAnd, IsPermutation, bit_and}
use Rattle.std.specs.Bool.{Decides}
use Rattle.std.specs.List.{position_or_len}
use Rattle.std.proofs.lemmas.Bool.{cases_Bool, cases_lt, cases_eq, false≢true, lt-ltb, ltb-true}
use Rattle.std.proofs.lemmas.List.{length-take, length-drop}
use Rattle.std.proofs.lemmas.List.Sorted.{IsPermutation-sym, Contains-permutation}
use Rattle.std.proofs.lemmas.Option.{none-some, same_Some}
use Rattle.std.proofs.lemmas.Slice.Eq.{bytes_eq-Decides}
use Rattle.macho_fields.specs.Field.{part, string_from}
use Rattle.macho_fields.specs.Image.{commands_of}
use Rattle.macho_fields.specs.Segment.{vmaddr, section_address, section_size}
use Rattle.macho_fields.specs.Symbol.{stroff, strsize, IsSymbolIndex}
use Rattle.macho_fields.specs.declared.header.loader.TheConstants as loader
use Rattle.macho_fields.specs.declared.header.nlist.TheConstants.{N_EXT, N_STAB, N_TYPE, N_INDR}
use Rattle.macho_fields.proofs.Decided.{zero_or_none}
use Rattle.macho_fields.proofs.Lists.{contains_mapped}
use Rattle.macho_fields.proofs.Options.{some_of, of_some, some_has}
use Rattle.macho_image.specs.Command.{first_with_cmd}
use Rattle.macho_image.specs.Segment.{SectionView, section_at, reserved1, sections_of}
use Rattle.macho_image.specs.declared.indirect.Indirect.{Indirect}
use Rattle.macho_image.specs.declared.symbol.Symbol.{Symbol}
use Rattle.macho_rules.proofs.Searches.{any_of, one_of, mapped_has}
use Rattle.macho_spans.specs.Span.{end_of}
use Rattle.macho_alike.specs.BindLists.{IsInside, AreInside, ClashAt}
use Rattle.macho_alike.specs.Binds.{Clash}
use Rattle.macho_alike.specs.Bounds.{IsSymbolName, IsSaidOf, IsSaidAt, IsSaidBy, span_of, mark_of, bind_of, SaysOtherwise}
use Rattle.macho_alike.specs.Indirects.{IsBound, HasPointers, IsPointerOf, HasEntry, entry_with, name_offset, StandsForName, BeginsName, HasNameAt, IsNameStart, IsNameOf, IsOfAnotherName, BreaksIndirectName, symbols_in}
use Rattle.macho_alike.specs.declared.binds.Bind.{Bind}
use Rattle.macho_alike.specs.declared.binds.Compared.{Compared}
use Rattle.macho_alike.specs.declared.binds.Compared.TheVariants as compared
use Rattle.macho_alike.specs.declared.bounds.Bound.{Bound}
use Rattle.macho_alike.specs.declared.indirects.Said.{Said}
use Rattle.macho_alike.proofs.Gathered.{OfSome}

abbrev pub no_bound : Bound
no_bound = record { segment = 0; offset = 0; name = 0 }

-- Decisions

decided : (b : Bool) (P : Type 0) → Decides b P → P ⊎ (¬ P)
decided b P decides = elim (cases_Bool b) [ inl t ↦ inl (decides.0 t) | inr f ↦ inr (λ p. false≢true (sym f ∙ decides.1 p)) ]

pub same_text : (xs ys : List ℕ) → (xs ≡ ys) ⊎ (¬ (xs ≡ ys))
same_text xs ys = decided _ _ (bytes_eq-Decides xs ys)

has_name : (size : ℕ) (symbol : Symbol) → StandsForName size symbol ⊎ (¬ StandsForName size symbol)
has_name size symbol = elim (cases_eq (bit_and symbol.kind N_STAB) 0) [
  | inr stab ↦ inr (λ named. stab named.0.0)
  | inl plain ↦ elim (cases_eq (bit_and symbol.kind N_EXT) 0) [
    | inl local ↦ inr (λ named. named.0.1 local)
    | inr external ↦ elim (cases_eq symbol.strx 0) [
      | inl none ↦ inr (λ named. named.1 none)
      | inr some ↦ elim (cases_eq (name_offset symbol) 0) [
        | inl nowhere ↦ inr (λ named. named.2 nowhere)
        | inr begins ↦ elim (cases_lt (name_offset symbol) size) [ inl less ↦ inl ((plain, external), some, begins, less) | inr past ↦ inr (λ named. let less = named.3 in absurd (omega (arith, less, past))) ]
      ]
    ]
  ]
]

begins_name : (image : List ℕ) (symbol : Symbol) (start : ℕ) → BeginsName image symbol start ⊎ (¬ BeginsName image symbol start)
begins_name image symbol start = elim (cases_eq (bit_and symbol.kind N_TYPE) N_INDR) [
  | inr own ↦ inl (inl own)
  | inl alias ↦ elim (zero_or_none image (start - 1) start) [ inl before ↦ inl (inr before) | inr none ↦ inr (λ begins. elim begins [ inl own ↦ own alias | inr before ↦ none before ]) ]
]

-- Bytes of names

take_again : (n : ℕ) (xs : List ℕ) → take (length (take n xs)) xs ≡ take n xs
take_again zero xs = refl
take_again (suc n) [] = refl
take_again (suc n) (x ∷ xs) = ap (λ (ys : List ℕ). x ∷ ys) (take_again n xs)

drop_past : (n : ℕ) (xs : List ℕ) → length xs ≤ n → drop n xs ≡ []
drop_past zero [] past = refl
drop_past zero (x ∷ xs) past = absurd (omega arith)
drop_past (suc n) [] past = refl
drop_past (suc n) (x ∷ xs) past = drop_past n xs (omega arith)

module _ (image : List ℕ) where
  abbrev text : Option ℕ → List ℕ
  text name = part (span_of image name).start (span_of image name).len image

  -- they are the bytes of the string
  text_is : (start : ℕ) → text (Some start) ≡ string_from start image
  text_is start = elim (cases_Bool (nat_lt start (length image))) [
    | inl t ↦ rw t (take_again (position_or_len (λ byte. byte == 0) (drop start image)) (drop start image))
    | inr f ↦ rw f (rw (drop_past start image (past f)) refl)
  ]
    where
      past : nat_lt start (length image) ≡ false → length image ≤ start
      past f = elim (cases_lt start (length image)) [ inl less ↦ absurd (false≢true (sym f ∙ lt-ltb start (length image) less)) | inr most ↦ most ]

  pub span_inside : (name : Option ℕ) → end_of (span_of image name) ≤ length image
  span_inside None = omega arith
  span_inside (Some start) = elim (cases_Bool (nat_lt start (length image))) [ inl t ↦ rw t (inside (ltb-true start (length image) t)) | inr f ↦ rw f (omega arith) ]
    where
      inside : start < length image → start + length (string_from start image) ≤ length image
      inside less =
          let n : ℕ = position_or_len (λ byte. byte == 0) (drop start image) in
          omega (arith, less, length-take n (drop start image), length-drop start image)

  -- The name of a symbol

  symbol_name : (value : ℕ) → (name : Option ℕ) × IsSymbolName image value name
  symbol_name value = by_symtab (first_with_cmd image loader.LC_SYMTAB (commands_of image)) refl
    where
      nothing : ((start : ℕ) → ¬ IsNameStart image value start) → (name : Option ℕ) × IsSymbolName image value name
      nothing none = (None, λ start. (λ is. absurd (none start is), λ wrong. absurd (none-some start wrong)))

      of_symtab : Option ℕ → ℕ → Type 0
      of_symtab found start =
          IsSomeAnd found (λ symtab. IsSomeAnd (slice_get (symbols_in image) value) (λ symbol. HasNameAt image symtab symbol start))

      of_symbol : ℕ → Option Symbol → ℕ → Type 0
      of_symbol symtab found start = IsSomeAnd found (λ symbol. HasNameAt image symtab symbol start)

      by_symbol : (symtab : ℕ) → first_with_cmd image loader.LC_SYMTAB (commands_of image) ≡ Some symtab → (found : Option Symbol) → slice_get (symbols_in image) value ≡ found
          → (name : Option ℕ) × IsSymbolName image value name
      by_symbol symtab first None none = nothing (λ start is. subst (λ (o : Option Symbol). of_symbol symtab o start) none (subst (λ (o : Option ℕ). of_symtab o start) first is))
      by_symbol symtab first (Some symbol) at = elim (has_name (strsize image symtab) symbol) [
        | inl named ↦ elim (begins_name image symbol (stroff image symtab + name_offset symbol)) [
          | inl begins ↦ (
            Some (stroff image symtab + name_offset symbol),
            λ start. (
              λ is. ap Some (sym (here start is).1),
              λ is. let same = same_Some _ _ is in subst (λ (o : Option ℕ). of_symtab o start) (sym first) (subst (λ (o : Option Symbol). of_symbol symtab o start) (sym at) (named, sym same, subst (BeginsName image symbol) same begins)),
            ),
          )
          | inr not ↦ nothing (λ start is. not (subst (BeginsName image symbol) (here start is).1 (here start is).2))
        ]
        | inr not ↦ nothing (λ start is. not (here start is).0)
      ]
        where
          here : (start : ℕ) → IsNameStart image value start → HasNameAt image symtab symbol start
          here start is = subst (λ (o : Option Symbol). of_symbol symtab o start) at (subst (λ (o : Option ℕ). of_symtab o start) first is)

      by_symtab : (found : Option ℕ) → first_with_cmd image loader.LC_SYMTAB (commands_of image) ≡ found → (name : Option ℕ) × IsSymbolName image value name
      by_symtab None none = nothing (λ start is. subst (λ (o : Option ℕ). of_symtab o start) none is)
      by_symtab (Some symtab) first = by_symbol symtab first (slice_get (symbols_in image) value) refl

  module _ (value : ℕ) (name : Option ℕ) (is : IsSymbolName image value name) where
    abbrev HasName : ℕ → Type 0
    HasName x = IsNameOf image value (string_from x image)

    -- the name that begins at x is the symbol's, or not
    is_name : (x : ℕ) → HasName x ⊎ (¬ HasName x)
    is_name x = by_name name refl
      where
        by_name : (found : Option ℕ) → name ≡ found → HasName x ⊎ (¬ HasName x)
        by_name None none = inr (λ (start, at, same). none-some start (sym none ∙ (is start).0 at))
        by_name (Some start) at = elim (same_text (string_from start image) (string_from x image)) [
          | inl same ↦ inl (start, (is start).1 at, same)
          | inr other ↦ inr (λ (begin, there, same). other (ap (λ (n : ℕ). string_from n image) (same_Some _ _ (sym at ∙ (is begin).0 there)) ∙ same))
        ]

    -- then it has the bytes of the symbol's name, and the same mark
    name_as : (x : ℕ) → HasName x → (text (Some x) ≡ text name) × (pos 0 ≡ mark_of name)
    name_as x (start, at, same) =
        let there : name ≡ Some start = (is start).0 at in
        subst (λ (found : Option ℕ). (text (Some x) ≡ text found) × (pos 0 ≡ mark_of found)) (sym there) (text_is x ∙ (sym same ∙ sym (text_is start)), refl)

    -- and only then
    as_name : (x : ℕ) → text (Some x) ≡ text name → pos 0 ≡ mark_of name → HasName x
    as_name x same mark = by_name name refl
      where
        by_name : (found : Option ℕ) → name ≡ found → HasName x
        by_name None none = absurd (let wrong : pos 0 ≡ pos 1 = mark ∙ ap mark_of none in absurd (cc))
        by_name (Some start) at = (start, (is start).1 at, sym (text_is start) ∙ (sym (ap text at) ∙ (sym same ∙ text_is x)))

    -- another option is the same
    one_name : (other : Option ℕ) → IsSymbolName image value other → other ≡ name
    one_name other also = by_name other name refl refl
      where
        by_name : (a b : Option ℕ) → other ≡ a → name ≡ b → other ≡ name
        by_name None None none unnamed = none ∙ sym unnamed
        by_name (Some a) b at there = at ∙ sym ((is a).0 ((also a).1 at))
        by_name None (Some b) none there = absurd (none-some b (sym none ∙ (also b).0 ((is b).1 there)))

  -- Lists

  module _ (said : List Said) (all : (one : Said) → Contains said one
      ↔ ((bound : Bound) × (index : ℕ) × IsBound image bound × HasEntry image bound index × IsSaidAt image index bound.name one)) where
    abbrev binds : List Bind
    binds = map (bind_of image) said

    -- what is said of the entry with an index
    record Says (c : Said) (index : ℕ) (entry : Indirect) : Type 0 where
      pub bound : Bound
      pub is : IsBound image bound
      pub has : HasEntry image bound index
      pub at : entry_with image index ≡ Some entry
      pub is_index : IsSymbolIndex entry.value
      pub place : c.place ≡ entry.place
      pub index_is : c.index ≡ index
      pub name : (c.name ≡ Some bound.name) ⊎ IsSymbolName image entry.value c.name

    says : (c : Said) → Contains said c → (index : ℕ) × (entry : Indirect) × Says c index entry
    says c contained =
        let (bound, index, is, has, said_at) = (all c).0 contained in
        let (entry, at, (is_index, (place, same, name))) = some_of (λ (e : Indirect). IsSymbolIndex e.value × IsSaidOf image e index bound.name c) (entry_with image index) said_at in (
          index,
          entry,
          record {
            bound = bound;
            is = is;
            has = has;
            at = at;
            is_index = is_index;
            place = place;
            index_is = same;
            name = name;
          },
        )

    -- it says the name of the symbol
    abbrev Agrees : Said → Indirect → Type 0
    Agrees c entry = (text c.name ≡ text (symbol_name entry.value).0) × (mark_of c.name ≡ mark_of (symbol_name entry.value).0)

    agrees : (c : Said) (index : ℕ) (entry : Indirect) → Says c index entry → (place : ℕ) → entry.place ≡ place → BreaksIndirectName image place ⊎ Agrees c entry
    agrees c index entry said_of place at_place = elim said_of.name [
      | inl by_bind ↦ elim (is_name entry.value (symbol_name entry.value).0 (symbol_name entry.value).1 said_of.bound.name) [
        | inl named ↦
            let (texts, marks) = name_as entry.value (symbol_name entry.value).0 (symbol_name entry.value).1 said_of.bound.name named in
            inr (ap text by_bind ∙ texts, ap mark_of by_bind ∙ marks)
        | inr other ↦
            inl (
              said_of.bound,
              index,
              said_of.is,
              said_of.has,
              of_some (λ (e : Indirect). (place ≡ e.place) × IsOfAnotherName image e said_of.bound.name) (entry_with image index) entry said_of.at (sym at_place, (said_of.is_index, other)),
            )
      ]
      | inr by_symbol ↦
          let same : c.name ≡ (symbol_name entry.value).0 = one_name entry.value (symbol_name entry.value).0 (symbol_name entry.value).1 c.name by_symbol in
          inr (ap text same, ap mark_of same)
    ]

    -- of two that clash, one is of another name than the symbol of the entry
    to : (place : ℕ) → ClashAt image binds place → BreaksIndirectName image place
    to place (what, one, other, here, there, clash, first, second) =
        let (a, has_a, is_a) = mapped_has (bind_of image) said one here in
        let (b, has_b, is_b) = mapped_has (bind_of image) said other there in
        let clashes : Clash what image (bind_of image a) (bind_of image b) = subst (λ (o : Bind). Clash what image (bind_of image a) o) (sym is_b) (subst (λ (o : Bind). Clash what image o other) (sym is_a) clash) in
        let (index_a, entry_a, says_a) = says a has_a in
        let (index_b, entry_b, says_b) = says b has_b in
        by_what what a b clashes index_a entry_a says_a index_b entry_b says_b (ap (λ (bind : Bind). bind.place) is_b ∙ second)
      where
        by_what : (what : Compared) (a b : Said) → Clash what image (bind_of image a) (bind_of image b) → (index_a : ℕ) (entry_a : Indirect) → Says a index_a entry_a
            → (index_b : ℕ) (entry_b : Indirect) → Says b index_b entry_b → b.place ≡ place → BreaksIndirectName image place
        by_what compared.Libraries a b (some, some_too, how) index_a entry_a says_a index_b entry_b says_b at = absurd (some refl)
        by_what compared.Names a b (_, _, inl (segment, apart, low, high)) index_a entry_a says_a index_b entry_b says_b at =
            absurd (apart (let same : a.index ≡ b.index = omega (arith, low, high) in ap (λ (n : ℕ). n * 8) same))
        by_what compared.Names a b (_, _, inr ((segment, offset), differ)) index_a entry_a says_a index_b entry_b says_b at =
            let equal : index_a ≡ index_b = omega (arith, offset, says_a.index_is, says_b.index_is) in
            let one : entry_a ≡ entry_b = same_Some _ _ (sym says_a.at ∙ (ap (entry_with image) equal ∙ says_b.at)) in
            let moved : Says a index_b entry_b = subst (λ (n : ℕ). Says a n entry_b) equal (subst (Says a index_a) one says_a) in
            let at_place : entry_b.place ≡ place = sym says_b.place ∙ at in
            elim (agrees a index_b entry_b moved place at_place) [
              | inl broken ↦ broken
              | inr (texts, marks) ↦ elim (agrees b index_b entry_b says_b place at_place) [
                | inl broken ↦ broken
                | inr (more, too) ↦ absurd (differ (texts ∙ sym more, marks ∙ sym too))
              ]
            ]

    -- and where it is, what its bind and what the symbol say clash
    back : (place : ℕ) → BreaksIndirectName image place → ClashAt image binds place
    back place (bound, index, is, has, broken) =
        let (entry, at, (same, (is_index, other))) = some_of (λ (e : Indirect). (place ≡ e.place) × IsOfAnotherName image e bound.name) (entry_with image index) broken in
        let name : Option ℕ = (symbol_name entry.value).0 in
        let a : Said = record { place = entry.place; index = index; name = Some bound.name } in
        let b : Said = record { place = entry.place; index = index; name = name } in
        let has_a : Contains said a =
        (all a).1 (bound, index, is, has, of_some (λ (e : Indirect). IsSymbolIndex e.value × IsSaidOf image e index bound.name a) (entry_with image index) entry at (is_index, (refl, refl, inl refl))) in
        let has_b : Contains said b =
        (all b).1 (bound, index, is, has, of_some (λ (e : Indirect). IsSymbolIndex e.value × IsSaidOf image e index bound.name b) (entry_with image index) entry at (is_index, (refl, refl, inr (symbol_name entry.value).1))) in (
          compared.Names,
          bind_of image a,
          bind_of image b,
          contains_mapped (bind_of image) said a has_a,
          contains_mapped (bind_of image) said b has_b,
          (tt, tt, inr ((refl, refl), λ (texts, marks). other (as_name entry.value name (symbol_name entry.value).1 bound.name texts marks))),
          omega (arith, same),
          sym same,
        )

    pub clash_breaks : (place : ℕ) → ClashAt image binds place ↔ BreaksIndirectName image place
    clash_breaks place = (to place, back place)

  -- What is said of the sections of an image is what is said of its bound pointers
  pub said_of_image : (bounds : List Bound) → ((bound : Bound) → Contains bounds bound ↔ IsBound image bound) → (one : Said)
      → Any (λ (section : ℕ × ℕ). IsSaidBy image bounds section one) (sections_of image (commands_of image))
      ↔ ((bound : Bound) × (index : ℕ) × IsBound image bound × HasEntry image bound index × IsSaidAt image index bound.name one)
  said_of_image bounds listed one = (
    λ any.
        let (section, has, (bound, in_bounds, (index, pointer, said))) = one_of (λ (s : ℕ × ℕ). IsSaidBy image bounds s one) (sections_of image (commands_of image)) any in
        (bound, index, (listed bound).0 in_bounds, any_of (λ (s : ℕ × ℕ). IsPointerOf image s bound index) (sections_of image (commands_of image)) section has pointer, said),
    λ (bound, index, is, has_entry, said).
        let (section, has, pointer) = one_of (λ (s : ℕ × ℕ). IsPointerOf image s bound index) (sections_of image (commands_of image)) has_entry in
        any_of (λ (s : ℕ × ℕ). IsSaidBy image bounds s one) (sections_of image (commands_of image)) section has (bound, (listed bound).1 is, (index, pointer, said)),
  )

  -- in another order
  pub otherwise_moved : (old new : List Said) → IsPermutation old new → (place : ℕ) → SaysOtherwise image new place ↔ SaysOtherwise image old place
  otherwise_moved old new moved place = (
    λ (what, one, other, here, there, clash, first, second). (what, one, other, over new old (IsPermutation-sym old new moved) one here, over new old (IsPermutation-sym old new moved) other there, clash, first, second),
    λ (what, one, other, here, there, clash, first, second). (what, one, other, over old new moved one here, over old new moved other there, clash, first, second),
  )
    where
      over : (xs ys : List Said) → IsPermutation xs ys → (bind : Bind) → Contains (map (bind_of image) xs) bind → Contains (map (bind_of image) ys) bind
      over xs ys moved bind has =
          let (one, has_one, is) = mapped_has (bind_of image) xs bind has in
          subst (Contains (map (bind_of image) ys)) is (contains_mapped (bind_of image) ys one (Contains-permutation xs ys one moved has_one))

-- The entry of a pointer of a section

module _ (image : List ℕ) (section : ℕ × ℕ) (bound : Bound) (start address : ℕ) (begins : start ≡ section_address image section.1) (is : address ≡ vmaddr image section.0 + bound.offset)
    (found : Option ℕ) (says : (item : ℕ) → (address ≡ start + 8 * item) ↔ (found ≡ Some item)) where
  its_item : (i : ℕ) → vmaddr image section.0 + bound.offset ≡ section_address image section.1 + 8 * i → found ≡ Some i
  its_item i at = (says i).0 (omega (arith, is, begins, at))

  -- the location is not one of a pointer
  pub no_item : found ≡ None → (index : ℕ) → ¬ IsPointerOf image section bound index
  no_item none index (pointers, its, few, (i, less, at, same)) = none-some i (sym none ∙ its_item i at)

  module _ (item : ℕ) (here : found ≡ Some item) where
    pub past_items : section_size image section.1 / 8 ≤ item → (index : ℕ) → ¬ IsPointerOf image section bound index
    past_items past index (pointers, its, few, (i, less, at, same)) =
        let one : item ≡ i = same_Some _ _ (sym here ∙ its_item i at) in
        absurd (omega (arith, past, less, one))

    pub the_index : HasPointers image section.1 → bound.segment ≡ section.0 → item < section_size image section.1 / 8 → (number : ℕ) → number ≡ reserved1 image section.1 + item → (result : Option ℕ)
        → ((index : ℕ) → ((index < 2 ^ 32) × (index ≡ number)) ↔ (result ≡ Some index)) → (index : ℕ) → IsPointerOf image section bound index ↔ (result ≡ Some index)
    the_index pointers its less number sum result tells index = (
      λ (_, _, few, (i, _, at, same)).
          let one : item ≡ i = same_Some _ _ (sym here ∙ its_item i at) in
          (tells index).0 (few, omega (arith, same, sum, one)),
      λ known.
          let (few, same) = (tells index).1 known in
          let there = (says item).1 here in
          (pointers, its, few, (item, less, omega (arith, is, begins, there), omega (arith, same, sum))),
    )

-- What the bind of a pointer and the symbol say of one entry

abbrev made : ℕ → ℕ → Option ℕ → Said
made place index name = record { place = place; index = index; name = name }

pub entry_said : (image : List ℕ) (index name : ℕ) (entry : Indirect) → entry_with image index ≡ Some entry → IsSymbolIndex entry.value → (symbol : Option ℕ) → IsSymbolName image entry.value symbol → (one : Said)
    → ((made entry.place index (Some name) ≡ one) ⊎ (made entry.place index symbol ≡ one)) ↔ IsSaidAt image index name one
entry_said image index name entry at is_index symbol is one = (
  λ either. elim either [
    | inl same ↦ subst (IsSaidAt image index name) same (said_at (made entry.place index (Some name)) (refl, refl, inl refl))
    | inr same ↦ subst (IsSaidAt image index name) same (said_at (made entry.place index symbol) (refl, refl, inr is))
  ],
  λ said. from (some_has (λ (e : Indirect). IsSymbolIndex e.value × IsSaidOf image e index name one) (entry_with image index) entry at said),
)
  where
    said_at : (c : Said) → IsSaidOf image entry index name c → IsSaidAt image index name c
    said_at c of = of_some (λ (e : Indirect). IsSymbolIndex e.value × IsSaidOf image e index name c) (entry_with image index) entry at (is_index, of)

    equal : (n : Option ℕ) → one.place ≡ entry.place → one.index ≡ index → one.name ≡ n → made entry.place index n ≡ one
    equal n place same named =
        ap (λ (p : ℕ). made p index n) (sym place) ∙ (ap (λ (i : ℕ). made one.place i n) (sym same) ∙ ap (λ (m : Option ℕ). made one.place one.index m) (sym named))

    from : IsSymbolIndex entry.value × IsSaidOf image entry index name one → (made entry.place index (Some name) ≡ one) ⊎ (made entry.place index symbol ≡ one)
    from (is_symbol, (place, same, either)) = elim either [
      | inl by_bind ↦ inl (equal (Some name) place same by_bind)
      | inr by_symbol ↦ inr (equal symbol place same (one_name image entry.value symbol is one.name by_symbol))
    ]

-- The sections of an image

abbrev pub SaidIn : List ℕ → List Bound → SectionView → Said → Type 0
SaidIn image bounds s one = IsSaidBy image bounds (s.segment, s.place) one

module _ (image : List ℕ) (sections : List SectionView) (are : sections ≡ map (section_at image) (sections_of image (commands_of image))) where
  pub of_image : (s : SectionView) → Contains sections s → s.image ≡ image
  of_image s has =
      let (places, among, at) = mapped_has (section_at image) (sections_of image (commands_of image)) s (subst (λ (these : List SectionView). Contains these s) are has) in
      sym (ap (λ (t : SectionView). t.image) at)

  pub in_sections : (bounds : List Bound) (one : Said) → OfSome (SaidIn image bounds) sections one ↔ Any (λ (section : ℕ × ℕ). IsSaidBy image bounds section one) (sections_of image (commands_of image))
  in_sections bounds one = (
    λ (s, has, said).
        let (places, among, at) = mapped_has (section_at image) (sections_of image (commands_of image)) s (subst (λ (these : List SectionView). Contains these s) are has) in
        any_of (λ (section : ℕ × ℕ). IsSaidBy image bounds section one) (sections_of image (commands_of image)) places among (subst (λ (t : SectionView). SaidIn image bounds t one) (sym at) said),
    λ any.
        let (places, among, said) = one_of (λ (section : ℕ × ℕ). IsSaidBy image bounds section one) (sections_of image (commands_of image)) any in
        (section_at image places, subst (λ (these : List SectionView). Contains these (section_at image places)) (sym are) (contains_mapped (section_at image) (sections_of image (commands_of image)) places among), said),
  )

-- Binds of what is said, one after the other

pub mapped_more : {X Y : Type 0} (f : X → Y) (xs : List X) (n : ℕ) (d : X) → n < length xs → map f (take (suc n) xs) ≡ map f (take n xs) ++ f (get_or xs n d) ∷ []
mapped_more f [] n d less = absurd (omega (arith, less))
mapped_more f (x ∷ xs) zero d less = refl
mapped_more f (x ∷ xs) (suc n) d less = ap (λ ys. f x ∷ ys) (mapped_more f xs n d (omega (arith, less)))

pub take_past : {X : Type 0} (xs : List X) (n : ℕ) → length xs ≤ n → take n xs ≡ xs
take_past [] zero past = refl
take_past [] (suc n) past = refl
take_past (x ∷ xs) zero past = absurd (omega (arith, past))
take_past (x ∷ xs) (suc n) past = ap (λ ys. x ∷ ys) (take_past xs n (omega (arith, past)))

abbrev pub no_said : Said
no_said = record { place = 0; index = 0; name = None }

-- they lie inside the image
pub said_inside : (image : List ℕ) (said : List Said) → ((one : Said) → Contains said one → (one.place ≤ length image) × (one.index < 2 ^ 32)) → AreInside (length image) (map (bind_of image) said)
said_inside image said near bind has =
    let (one, among, is) = mapped_has (bind_of image) said bind has in
    let (place, few) = near one among in
    subst (IsInside (length image)) is (record {
      place = place;
      name = span_inside image one.name;
      offset = omega (arith, few);
    })
