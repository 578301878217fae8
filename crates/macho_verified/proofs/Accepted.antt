-- What the parts of an accepted image keep.
use Rattle.std.proofs.Common.{◌≡◌, ◌≢◌, ℕ, zero, suc, ◌+◌, ◌-◌, ◌*◌, ◌≤◌, ◌<◌, List, [], ◌∷◌, ◌++◌, map, flat_map, length, All, Contains, Option, Some, None, IsSome, IfSome, IsSomeAnd, Bool, true, false, nat_le, slice_get, take, drop, if◌then◌else◌, ◌↔◌, refl, sym, ap, ◌∙◌, subst, arith, inr, le_refl}
use Rattle.std.proofs.lemmas.List.Elements.{All-map, All-tail, All-take, All-drop, All-contains_itself}
use Rattle.std.proofs.lemmas.List.{drop-take, drop-drop}
use Rattle.std.proofs.lemmas.Option.{none-some, same_Some}
use Rattle.std.specs.List.{range_with_len}
use Rattle.std.specs.Option.{option_map, option_map_or}
use Rattle.macho_fields.specs.Field.{HasZero, part, string_from}
use Rattle.macho_spans.specs.Span.{Covers}
use Rattle.macho_fields.specs.Image.{commands_of, with_cmd}
use Rattle.macho_fields.specs.Layers.{NothingBreaks}
use Rattle.macho_fields.specs.Loader.{IsSoundImage}
use Rattle.macho_fields.specs.Loader.Reads.{in_segment, in_section}
use Rattle.macho_fields.specs.Rules.{BreaksImage}
use Rattle.macho_fields.specs.Segment.{segments_of, sections_in, fileoff, filesize, section_offset, section_size, is_zero_fill}
use Rattle.macho_fields.specs.Symbol.{symoff, nsyms, stroff, strsize, n_strx}
use Rattle.macho_fields.specs.declared.header.loader.TheConstants as loader
use Rattle.macho_spans.specs.declared.span.Span.{Span}
use Rattle.macho_image.specs.Command.{first_with_cmd}
use Rattle.macho_image.specs.Symbol.{symbols_of, symbol_at, items_inside, IsNameAt}
use Rattle.macho_image.specs.declared.symbol.Symbol.{Symbol}
use Rattle.macho_image.specs.Segment.{SegmentView, segment_at, SectionView, section_at, sections_with, sections_of}
use Rattle.macho_rules.proofs.Searches.{Rising}
use Rattle.macho_verified.specs.Image.{symbol_view}
use Rattle.macho_verified.specs.Accepted.{IsUnbrokenImage, IsAccepted, IsVerifiedSegment, IsVerifiedSection, IsVerifiedSymbol, strings}

pub accepted : (image : List ℕ) → NothingBreaks (BreaksImage image None) → IsSoundImage image (commands_of image) → IsAccepted image
unfolding IsAccepted
accepted image unbroken sound = record { unbroken = unbroken; sound = sound }

pub accepted_unbroken : (image : List ℕ) → IsAccepted image → NothingBreaks (BreaksImage image None)
unfolding IsAccepted
accepted_unbroken image keeps = keeps.unbroken

pub accepted_sound : (image : List ℕ) → IsAccepted image → IsSoundImage image (commands_of image)
unfolding IsAccepted
accepted_sound image keeps = keeps.sound

-- a range of places that are all inside ends inside, where it has a place
pub range_inside : (n start len : ℕ) → 0 < len → ((place : ℕ) → Covers start len place → place < n) → start + len ≤ n
range_inside n start len some inside = let last = inside (start + (len - 1)) (omega (arith, some), omega (arith, some)) in omega (arith, some, last)

pub segments_hold : (image : List ℕ) → IsAccepted image → All IsVerifiedSegment (map (segment_at image) (segments_of image (commands_of image)))
unfolding IsAccepted IsVerifiedSegment
segments_hold image keeps =
    All-map IsVerifiedSegment (segment_at image) (segments_of image (commands_of image)) (λ k d less. (keeps, All-contains_itself (segments_of image (commands_of image)) k d less))

-- the bytes of a segment that has any lie in the image
pub segment_fits : (view : SegmentView) → IsVerifiedSegment view → ¬ (filesize view.image view.place ≡ 0) → fileoff view.image view.place + filesize view.image view.place ≤ length view.image
unfolding IsVerifiedSegment
segment_fits view (keeps, (k, less, at)) some =
    range_inside (length view.image) (fileoff view.image view.place) (filesize view.image view.place) (omega (arith, some))
    (λ place covers. keeps.sound.reads place (in_segment (k, view.place, less, at, covers)))

-- where an answer is given, with what that says
pub some_given : {T : Type 0} (P Q : T → Type 0) (R : Type 0) (answer : Option T) → (IsSome answer → R) → (R → (x : T) → P x → Q x) → IfSome answer P → IfSome answer Q
some_given P Q R None given to holds = tt
some_given P Q R (Some x) given to holds = to (given refl) x holds

-- the sections of a segment
sections_held : (view : SegmentView) → IsVerifiedSegment view → All (λ places. IsVerifiedSection (section_at view.image places)) (sections_with view.image view.place)
unfolding IsVerifiedSegment IsVerifiedSection
sections_held view (keeps, has) =
    All-map (λ places. IsVerifiedSection (section_at view.image places)) (λ section. (view.place, section)) (sections_in view.image view.place)
    (λ k d less. (keeps, has, All-contains_itself (sections_in view.image view.place) k d less))

pub sections_hold : (view : SegmentView) → IsVerifiedSegment view → All IsVerifiedSection (map (section_at view.image) (sections_with view.image view.place))
sections_hold view is = All-map IsVerifiedSection (section_at view.image) (sections_with view.image view.place) (sections_held view is)

-- the bytes of a section that has any lie in the image, where it is not zero-fill
pub section_fits : (view : SectionView) → IsVerifiedSection view → is_zero_fill view.image view.place ≡ false → ¬ (section_size view.image view.place ≡ 0)
    → section_offset view.image view.place + section_size view.image view.place ≤ length view.image
unfolding IsVerifiedSection
section_fits view (keeps, (k, less, at), (j, fewer, there)) plain some =
    range_inside (length view.image) (section_offset view.image view.place) (section_size view.image view.place) (omega (arith, some))
    (λ place covers. keeps.sound.reads place (in_section (k, view.segment, less, at, (j, view.place, fewer, there, (plain, covers)))))

all_append : {X : Type 0} (P : X → Type 0) (xs ys : List X) → All P xs → All P ys → All P (xs ++ ys)
all_append P [] ys some more = more
all_append P (x ∷ xs) ys some more = cons (some 0 x (omega arith)) (all_append P xs ys (All-tail P x xs some) more)
  where
    cons : P x → All P (xs ++ ys) → All P (x ∷ (xs ++ ys))
    cons first rest zero d less = first
    cons first rest (suc k) d less = rest k d (omega arith)

all_flat : {X Y : Type 0} (P : Y → Type 0) (g : X → List Y) (xs : List X) → All (λ x. All P (g x)) xs → All P (flat_map g xs)
all_flat P g [] all = λ k d less. absurd (omega arith)
all_flat P g (x ∷ xs) all = all_append P (g x) (flat_map g xs) (all 0 x (omega arith)) (all_flat P g xs (All-tail (λ x. All P (g x)) x xs all))

-- the sections of all segments
pub all_sections_hold : (image : List ℕ) → IsAccepted image → All IsVerifiedSection (map (section_at image) (sections_of image (commands_of image)))
unfolding IsAccepted IsVerifiedSegment
all_sections_hold image keeps =
    All-map IsVerifiedSection (section_at image) (sections_of image (commands_of image))
    (all_flat (λ places. IsVerifiedSection (section_at image places)) (sections_with image) (segments_of image (commands_of image))
    (λ k d less. sections_held (segment_at image _) (keeps, All-contains_itself (segments_of image (commands_of image)) k d less)))

-- the item at an index of a list whose items have P
pub got_has : {X : Type 0} (P : X → Type 0) (xs : List X) (n : ℕ) (x : X) → slice_get xs n ≡ Some x → All P xs → P x
got_has P [] n x is all = absurd (none-some x is)
got_has P (y ∷ ys) zero x is all = subst P (same_Some y x is) (all 0 y (omega arith))
got_has P (y ∷ ys) (suc n) x is all = got_has P ys n x is (All-tail P y ys all)

-- what an iterator over a list gives at an index
pub nth_is : {X : Type 0} (r got : Option X) → option_map (λ x. x) r ≡ got → r ≡ got
nth_is None got is = is
nth_is (Some x) got is = is

-- Symbols

got_first : {X : Type 0} (xs : List X) (x : X) → slice_get xs 0 ≡ Some x → Contains xs x
got_first [] x is = absurd (none-some x is)
got_first (y ∷ ys) x is = (0, omega arith, same_Some y x is)

numbers_all : (P : ℕ → Type 0) (a n : ℕ) → ((k : ℕ) → k < a + n → P k) → All P (range_with_len a n)
numbers_all P a zero holds k d less = absurd (omega arith)
numbers_all P a (suc n) holds zero d less = holds a (omega arith)
numbers_all P a (suc n) holds (suc k) d less = numbers_all P (a + 1) n (λ j few. holds j (omega arith)) k d (omega arith)

all_if : {X : Type 0} (P : X → Type 0) (b : Bool) (xs : List X) → All P xs → All P (if b then xs else [])
all_if P true xs all = all
all_if P false xs all = λ k d less. absurd (omega arith)

-- the strings of a symtab_command, where there is one
abbrev strings_from : List ℕ → Option ℕ → Span
strings_from image first =
    option_map_or (λ symtab. record { start = stroff image symtab; len = strsize image symtab }) first (record { start = 0; len = 0 })

-- the strings of the one LC_SYMTAB
strings_are : (image : List ℕ) (t : ℕ) → first_with_cmd image loader.LC_SYMTAB (commands_of image) ≡ Some t → strings image ≡ record { start = stroff image t; len = strsize image t }
strings_are image t is = ap (strings_from image) is

module _ (image : List ℕ) (keeps : IsUnbrokenImage image) where
  item_holds : (t k : ℕ) → first_with_cmd image loader.LC_SYMTAB (commands_of image) ≡ Some t → k < nsyms image t → IsVerifiedSymbol image (strings image) (symbol_at image (symoff image t + 16 * k))
  unfolding IsVerifiedSymbol
  item_holds t k is few = (refl, refl, ended)
    where
      ended : n_strx image (symoff image t + 16 * k) ≢ 0 → HasZero image ((strings image).start + n_strx image (symoff image t + 16 * k)) ((strings image).start + (strings image).len)
      ended some =
          let (j, less, at) = got_first (with_cmd image loader.LC_SYMTAB (commands_of image)) t is in
          subst (λ (among : Span). HasZero image (among.start + n_strx image (symoff image t + 16 * k)) (among.start + among.len)) (sym (strings_are image t is))
          (keeps.sound.names (stroff image t + n_strx image (symoff image t + 16 * k)) (stroff image t + strsize image t) (inr (j, t, less, at, (k, few, (some, refl, refl)))))

  items_hold : (first : Option ℕ) → first_with_cmd image loader.LC_SYMTAB (commands_of image) ≡ first
      → All (λ p. IsVerifiedSymbol image (strings image) (symbol_at image p)) (option_map_or (λ t. items_inside image (symoff image t) 16 (nsyms image t)) first [])
  items_hold None is = λ k d less. absurd (omega arith)
  items_hold (Some t) is =
      all_if (λ p. IsVerifiedSymbol image (strings image) (symbol_at image p)) (nat_le (symoff image t + 16 * nsyms image t) (length image))
      (map (λ k. symoff image t + 16 * k) (range_with_len 0 (nsyms image t)))
      (All-map (λ p. IsVerifiedSymbol image (strings image) (symbol_at image p)) (λ k. symoff image t + 16 * k) (range_with_len 0 (nsyms image t))
      (numbers_all (λ k. IsVerifiedSymbol image (strings image) (symbol_at image (symoff image t + 16 * k))) 0 (nsyms image t) (λ k few. item_holds t k is (omega (arith, few)))))

pub range_holds : (image : List ℕ) → IsAccepted image → (first count : ℕ)
    → All (IsVerifiedSymbol image (strings image)) (map (symbol_at image) (take count (drop first (symbols_of image (commands_of image)))))
unfolding IsAccepted
range_holds image keeps first count =
    All-map (IsVerifiedSymbol image (strings image)) (symbol_at image) (take count (drop first (symbols_of image (commands_of image))))
    (All-take (λ p. IsVerifiedSymbol image (strings image) (symbol_at image p)) count (drop first (symbols_of image (commands_of image)))
    (All-drop (λ p. IsVerifiedSymbol image (strings image) (symbol_at image p)) first (symbols_of image (commands_of image))
    (items_hold image keeps (first_with_cmd image loader.LC_SYMTAB (commands_of image)) refl)))

-- the views of symbols that were read at places
pub views_of : (image : List ℕ) (places : List ℕ) → map (λ (symbol : Symbol). symbol_view image symbol.place) (map (symbol_at image) places) ≡ map (symbol_view image) places
views_of image [] = refl
views_of image (p ∷ places) = ap (λ vs. symbol_view image p ∷ vs) (views_of image places)

-- of a symbol: what was read of it
pub symbol_read : (image : List ℕ) (among : Span) (symbol : Symbol) → IsVerifiedSymbol image among symbol → symbol ≡ symbol_at image symbol.place
unfolding IsVerifiedSymbol
symbol_read image among symbol keeps = keeps.0

pub strx_read : (image : List ℕ) (among : Span) (symbol : Symbol) → IsVerifiedSymbol image among symbol → symbol.strx ≡ n_strx image symbol.place
strx_read image among symbol keeps = ap (λ (s : Symbol). s.strx) (symbol_read image among symbol keeps)

-- and that its name ends
pub name_ends : (image : List ℕ) (among : Span) (symbol : Symbol) → IsVerifiedSymbol image among symbol → symbol.strx ≢ 0 → HasZero image (among.start + symbol.strx) (among.start + among.len)
unfolding IsVerifiedSymbol
name_ends image among symbol keeps = keeps.2

-- among the strings of LC_SYMTAB
pub name_is : (image : List ℕ) (among : Span) (symbol : Symbol) (name : List ℕ) → IsVerifiedSymbol image among symbol → symbol.strx ≢ 0 → name ≡ string_from (among.start + symbol.strx) image
    → IsNameAt image (commands_of image) symbol.strx name
unfolding IsVerifiedSymbol
name_is image among symbol name (read, same, ends) some found = of_first (first_with_cmd image loader.LC_SYMTAB (commands_of image)) refl
  where
    of_first : (first : Option ℕ) → first_with_cmd image loader.LC_SYMTAB (commands_of image) ≡ first → IsSomeAnd first (λ t. name ≡ string_from (stroff image t + symbol.strx) image)
    of_first None is =
        let none : among ≡ record { start = 0; len = 0 } = same ∙ ap (strings_from image) is in
        let (z, low, high, inside, is_zero) = subst (λ (a : Span). HasZero image (a.start + symbol.strx) (a.start + a.len)) none (ends some) in
        absurd (omega (arith, high))
    of_first (Some t) is = subst (λ (a : Span). name ≡ string_from (a.start + symbol.strx) image) (same ∙ strings_are image t is) found

-- Parts of parts

take_take : (l n : ℕ) (xs : List ℕ) → l ≤ n → take l (take n xs) ≡ take l xs
take_take zero n xs few = refl
take_take (suc l) zero xs few = absurd (omega arith)
take_take (suc l) (suc n) [] few = refl
take_take (suc l) (suc n) (x ∷ xs) few = ap (λ ys. x ∷ ys) (take_take l n xs (omega arith))

-- a part of a part is a part of the whole
pub part_part : (start len past few : ℕ) (xs : List ℕ) → past + few ≤ len → part past few (part start len xs) ≡ part (start + past) few xs
part_part start len past few xs fits =
    let whole : len ≡ past + (len - past) = omega arith in
    ap (λ n. take few (drop past (take n (drop start xs)))) whole
    ∙ (ap (take few) (drop-take past (len - past) (drop start xs) ∙ ap (take (len - past)) (drop-drop past start xs)) ∙ take_take few (len - past) (drop (start + past) xs) (omega arith))

-- so many bytes from an offset on are those at so many addresses
pub fits_in : (size vmsize low vmaddr long filesize start address len : ℕ) → size ≡ vmsize → ¬ (size ≡ 0) → low ≡ vmaddr → low ≤ address → start ≡ address - low → long ≡ filesize
    → (start + len ≤ long) ↔ ((0 < vmsize) × (vmaddr ≤ address) × (address + len ≤ vmaddr + filesize))
fits_in size vmsize low vmaddr long filesize start address len is some at below from whole = (
  λ fits. (omega (arith, is, some), omega (arith, at, below), omega (arith, at, below, from, whole, fits)),
  λ (mapped, least, most). omega (arith, at, below, from, whole, most),
)

-- A search whose order does not matter

pub all_level : {X : Type 0} (xs : List X) → Rising (λ (x : X). 0) xs
all_level [] = tt
all_level (x ∷ xs) = (λ y has. le_refl 0, all_level xs)
