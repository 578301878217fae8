-- All readers take one address for the base of an image.
use Rattle.std.proofs.Common.{◌≡◌, ◌==◌, ◌&&◌, ℕ, ◌+◌, ◌≤◌, ◌<◌, ◌⊎◌, List, [], ◌∷◌, Contains, Bool, true, false, Option, None, Some, refl, sym, ap, ◌∙◌, subst, arith, rules, tests, inl, inr}
use Rattle.std.specs.Prelude.{cond, nat_lt, find}
use Rattle.std.specs.Option.{option_map}
use Rattle.std.proofs.lemmas.Bool.{and_from, eq-eqb, lt-ltb}
use Rattle.std.proofs.lemmas.Option.{none-some, same_Some}
use Rattle.macho_fields.proofs.Lists.{contains_first, contains_later, first_or_later, none_in_nil}
use Rattle.macho_fields.specs.Segment.{all_segments, vmaddr, vmsize, fileoff, filesize, shows_start}
use Rattle.macho_fields.specs.declared.rule.Rule.TheVariants as rule
use Rattle.macho_strict.specs.Rules.{BreaksStrictImage, HoldsHeaders, IsByteOfSegment}
use Rattle.macho_tables.specs.Segments.{IsText}
use Rattle.macho_readers.specs.Models.{IsBaseOf, HasOneBase}
use Rattle.macho_readers.specs.Segments.{BreaksSegmentName}
use Rattle.macho_unambiguous.proofs.Cases.{same_some, ended}
use Rattle.macho_unambiguous.proofs.FileParts.{one_part}

-- what `find` returns

module _ (test : ℕ → Bool) where
  is_step : (x s : ℕ) (xs : List ℕ) (b : Bool) → test x ≡ b → (find test xs ≡ Some s → Contains xs s × (test s ≡ true)) → cond b (Some x) (find test xs) ≡ Some s
      → Contains (x ∷ xs) s × (test s ≡ true)
  is_step x s xs true is rest here = let same = same_Some x s here in (subst (Contains (x ∷ xs)) same (contains_first x xs), subst (λ y. test y ≡ true) same is)
  is_step x s xs false is rest later = let (has, passes) = rest later in (contains_later x s xs has, passes)

  find_is : (xs : List ℕ) (s : ℕ) → find test xs ≡ Some s → Contains xs s × (test s ≡ true)
  find_is [] s e = absurd (none-some s e)
  find_is (x ∷ xs) s e = is_step x s xs (test x) refl (find_is xs s) e

  some_step : (x s : ℕ) (xs : List ℕ) (b : Bool) → test x ≡ b → test s ≡ true → (x ≡ s) ⊎ Contains xs s → (Contains xs s → (y : ℕ) × (find test xs ≡ Some y))
      → (y : ℕ) × (cond b (Some x) (find test xs) ≡ Some y)
  some_step x s xs true is passes where_s rest = (x, refl)
  some_step x s xs false is passes (inl same) rest = absurd (let both : true ≡ false = sym passes ∙ (ap test (sym same) ∙ is) in cc)
  some_step x s xs false is passes (inr later) rest = rest later

  find_some : (xs : List ℕ) (s : ℕ) → Contains xs s → test s ≡ true → (b : ℕ) × (find test xs ≡ Some b)
  find_some [] s has passes = absurd (none_in_nil s has)
  find_some (x ∷ xs) s has passes = some_step x s xs (test x) refl passes (first_or_later x s xs has) (λ later. find_some xs s later passes)

from_map : (v : ℕ → ℕ) (o : Option ℕ) (b : ℕ) → option_map v o ≡ Some b → (base : ℕ) × (o ≡ Some base) × (b ≡ v base)
from_map v None b is = absurd (none-some b is)
from_map v (Some base) b is = (base, refl, sym (same_Some (v base) b is))

-- a segment that has the start of the file has its first byte
starts : (a b c : ℕ) → (((a == 0) && nat_lt 0 b) && nat_lt 0 c) ≡ true → (a ≤ 0) × (0 < a + b)
starts a b c is = search (rules, tests)

module _ (image : List ℕ) (strict : (place : ℕ) → ¬ BreaksStrictImage image rule.SegmentFileOverlap place) (none : (place : ℕ) → ¬ BreaksSegmentName image place) where
  abbrev Shows : ℕ → Type 0
  Shows segment = shows_start image segment ≡ true

  first_byte : (segment : ℕ) → Shows segment → IsByteOfSegment image segment 0
  first_byte segment shows = starts (fileoff image segment) (filesize image segment) (vmsize image segment) shows

  one_start : (a b : ℕ) → Contains (all_segments image) a → Contains (all_segments image) b → Shows a → Shows b → a ≡ b
  one_start a b in_a in_b shows_a shows_b = one_part image strict a b 0 in_a in_b (first_byte a shows_a) (first_byte b shows_b)

  abbrev IsBase : ℕ → Type 0
  IsBase address = (segment : ℕ) × (find (shows_start image) (all_segments image) ≡ Some segment) × (address ≡ vmaddr image segment)

  from_start : (answer segment : ℕ) → answer ≡ vmaddr image segment → Contains (all_segments image) segment → Shows segment → IsBase answer
  from_start answer segment at has shows =
      let (base, is) = find_some (shows_start image) (all_segments image) segment has shows in
      let (in_base, shows_base) = find_is (shows_start image) (all_segments image) base is in
      (base, is, at ∙ ap (vmaddr image) (one_start segment base has in_base shows shows_base))

  -- a segment with the headers has the start of the file
  holder_shows : (segment : ℕ) → HoldsHeaders image segment → Shows segment
  holder_shows segment (start, holds, mapped) =
      and_from _ _ (and_from _ _ (eq-eqb _ _ start) (lt-ltb _ _ (omega (arith, holds)))) (lt-ltb _ _ mapped)

  the_base : (answer : ℕ) → IsBaseOf image answer → IsBase answer
  the_base answer (inl is) = from_map (vmaddr image) (find (shows_start image) (all_segments image)) answer is
  the_base answer (inr (segment, at, inl (has, shows, _))) = from_start answer segment at has shows
  the_base answer (inr (segment, at, inr (inl (has, holds)))) = from_start answer segment at has (holder_shows segment holds)
  the_base answer (inr (segment, at, inr (inr end))) =
      let (has, text) = ended (all_segments image) (IsText image) segment end in
      (segment, same_some (find (shows_start image) (all_segments image)) segment (λ other. none segment (has, inr (inr (inl (inl (text, other)))))), at)

  pub one_base : HasOneBase image
  one_base a b is_a is_b =
      let (s, found_s, at_s) = the_base a is_a in
      let (t, found_t, at_t) = the_base b is_b in
      at_s ∙ (ap (vmaddr image) (same_Some s t (sym found_s ∙ found_t)) ∙ sym at_t)
