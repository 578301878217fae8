-- The rooms of the first segments, read one after another.
use Rattle.std.proofs.Common.{◌≡◌, ℕ, suc, ◌+◌, ◌≤◌, ◌<◌, ◌==◌, List, [], ◌∷◌, length, drop, set, get_or, slice_get, Option, Some, None, refl, sym, ap, ◌∙◌, subst, arith, length-drop, ◌⊎◌, inl, inr}
use Rattle.std.specs.Prelude.{nat_lt, if◌then◌else◌}
use Rattle.std.specs.Option.{option_map_or}
use Rattle.std.proofs.lemmas.Bool.{cases_lt, cases_eq, lt-ltb, le-ltb}
use Rattle.std.proofs.lemmas.List.{drop_more, drop_all, length-set, get_or-set_same, get_or-set_other}
use Rattle.std.proofs.lemmas.Option.{slice_get_past, slice_get-get_or}
use Rattle.macho_rows.specs.Cursor.{start}
use Rattle.macho_rows.specs.Loads.{wanted_left}
use Rattle.macho_rows.specs.declared.cursor.KesvuotCursor.{KesvuotCursor}
use Rattle.macho_rows.specs.declared.load.Wanted.TheVariants as wanted
use Rattle.macho_fixups.specs.Locations.{segments, room_of, no_room, near_room, AreNear}
use Rattle.macho_fixups.specs.declared.location.Room.{Room}

abbrev room_at : List ℕ → ℕ → Room
room_at image k = option_map_or (room_of image) (slice_get (segments image) k) no_room

-- the rooms of so many segments were read, and the cursor is past them
pub record AreRead (image : List ℕ) (cursor : KesvuotCursor) (index : ℕ) (rooms : List Room) : Type 0 where
  pub most : index ≤ 16
  pub all : length rooms ≡ 16
  pub left : drop index (segments image) ≡ wanted_left wanted.Segments image cursor
  pub done : (k : ℕ) → k < index → get_or rooms k no_room ≡ room_at image k
  pub rest : (k : ℕ) → index ≤ k → get_or rooms k no_room ≡ no_room

-- what begins the rest of a list is the item there
first_of_rest : {X : Type 0} (xs : List X) (i : ℕ) (x : X) (rest : List X) → drop i xs ≡ x ∷ rest
    → (slice_get xs i ≡ Some x) × (drop (i + 1) xs ≡ rest)
first_of_rest xs i x rest is = elim (cases_lt i (length xs)) [
  | inl within ↦
      let more = drop_more xs i x within in
      let same : (get_or xs i x ≡ x) × (drop (i + 1) xs ≡ rest) = (cc, cc) in
      (slice_get-get_or xs i x within ∙ ap Some same.0, same.1)
  | inr past ↦ let none = drop_all i xs past in absurd (cc)
]

pub read_start : (image : List ℕ) (rooms : List Room) → length rooms ≡ 16 → ((k : ℕ) → get_or rooms k no_room ≡ no_room) → AreRead image start 0 rooms
read_start image rooms all none = record {
  most = omega arith;
  all = all;
  left = refl;
  done = λ k wrong. absurd (omega (arith, wrong));
  rest = λ k past. none k;
}

module _ (image : List ℕ) (cursor : KesvuotCursor) (index : ℕ) (rooms : List Room) (read : AreRead image cursor index rooms) where
  -- with one segment more
  pub read_more : (next : KesvuotCursor) (place : ℕ) (room : Room) → index < 16 → wanted_left wanted.Segments image cursor ≡ place ∷ wanted_left wanted.Segments image next
      → room ≡ room_of image place → AreRead image next (index + 1) (set rooms index room)
  read_more next place room less first is = record {
    most = omega arith;
    all = length-set rooms index room ∙ read.all;
    left = here.1;
    done = λ k below. elim (cases_eq k index) [
      | inl same ↦
          subst (λ (n : ℕ). get_or (set rooms index room) n no_room ≡ room_at image n) (sym same)
          (get_or-set_same rooms index room no_room within ∙ (is ∙ sym (ap (λ found. option_map_or (room_of image) found no_room) here.0)))
      | inr other ↦ get_or-set_other rooms index k room no_room other ∙ read.done k (omega (arith, other))
    ];
    rest = λ k past. get_or-set_other rooms index k room no_room (λ same. omega (arith, same, past)) ∙ read.rest k (omega arith);
  }
    where
      here : (slice_get (segments image) index ≡ Some place) × (drop (index + 1) (segments image) ≡ wanted_left wanted.Segments image next)
      here = first_of_rest (segments image) index place _ (read.left ∙ first)

      within : index < length rooms
      within = let all = read.all in omega (arith, all, less)

  -- past the sixteenth, or past the last, these are the rooms
  pub read_all : (16 ≤ index) ⊎ (wanted_left wanted.Segments image cursor ≡ []) → AreNear image rooms
  read_all end k = elim (cases_lt k 16) [
    | inl less ↦ rw (lt-ltb k 16 less) (near k less)
    | inr more ↦ rw (le-ltb k 16 more) (read.rest k (let most = read.most in omega (arith, most, more)))
  ]
    where
      near : (k : ℕ) → k < 16 → get_or rooms k no_room ≡ room_at image k
      near k less = elim (cases_lt k index) [
        | inl below ↦ read.done k below
        | inr past ↦ read.rest k past ∙ sym (ap (λ found. option_map_or (room_of image) found no_room) (slice_get_past (segments image) k (short k less past end)))
      ]
        where
          short : (k : ℕ) → k < 16 → index ≤ k → (16 ≤ index) ⊎ (wanted_left wanted.Segments image cursor ≡ []) → length (segments image) ≤ k
          short k less past (inl all) = absurd (omega arith)
          short k less past (inr none) =
              let size = length-drop index (segments image) in
              let empty : length (drop index (segments image)) ≡ 0 = ap length (read.left ∙ none) in
              omega (arith, size, empty)
