-- The slices of a universal file are listed entry by entry.
use Rattle.std.proofs.Common.{◌≡◌, ℕ, ◌+◌, List, [], ◌∷◌, ◌++◌, map, Option, None, Some, All, IfSome, IsTrue, slice_get, ◌↔◌, refl, sym, ap, ap₂, ◌∙◌, subst, arith}
use Rattle.std.proofs.lemmas.List.{map-append}
use Rattle.std.proofs.lemmas.List.Elements.{All-nil, All-cons, All-append}
use Rattle.std.proofs.lemmas.List.FromFn.{map-range_with_len_more}
use Rattle.std.specs.Option.{option_map}
use Rattle.macho_fields.specs.Layers.{NothingBreaks}
use Rattle.macho_fields.specs.Rules.{BreaksFile}
use Rattle.macho_fields.specs.Universal.{FileSlice, IsUniversal, entry_count, entry_slice, slice_bytes, slices_of, IsImage}
use Rattle.macho_fields.proofs.Sound.{slice_inside}
use Rattle.macho_fields.proofs.Slices.{first_slices, universal_slices}
use Rattle.macho_fat.specs.Slices.{slice_of, MarksRead, MarksReadInside, AreSlices}
use Rattle.macho_fat.specs.declared.slice.Slice.{Slice}

-- these are the slices of the first k entries
pub record AreFirst (file : List ℕ) (k : ℕ) (slices : List Slice) : Type 0 where
  pub all : map slice_of slices ≡ first_slices file k
  pub read : All (MarksRead file) slices

pub none_listed : (file : List ℕ) (slices : List Slice) → slices ≡ [] → AreFirst file 0 slices
none_listed file slices is = subst (AreFirst file 0) (sym is) (record { all = refl; read = All-nil (MarksRead file) })

pub same_slice : (slice : Slice) (other : FileSlice) → slice.span.start ≡ other.start → slice.span.len ≡ other.size → slice.arch ≡ other.arch → slice_of slice ≡ other
same_slice slice other start size arch = ap₂ (λ s n. of_parts s n slice.arch) start size ∙ ap (of_parts other.start other.size) arch
  where
    of_parts : ℕ → ℕ → Option (ℕ × ℕ) → FileSlice
    of_parts s n pair = record { start = s; size = n; arch = pair }

-- one slice more
pub listed_more : (file : List ℕ) (k : ℕ) (slices next : List Slice) (slice : Slice) → AreFirst file k slices → slice.span.start ≡ (entry_slice file k).start
    → slice.span.len ≡ (entry_slice file k).size → slice.arch ≡ (entry_slice file k).arch → IsTrue slice.read ↔ IsImage (slice_bytes file (entry_slice file k))
    → next ≡ slices ++ slice ∷ [] → AreFirst file (k + 1) next
listed_more file k slices next slice first start size arch read is = subst (AreFirst file (k + 1)) (sym is) (record { all = all; read = each })
  where
    same : slice_of slice ≡ entry_slice file k
    same = same_slice slice (entry_slice file k) start size arch

    all : map slice_of (slices ++ slice ∷ []) ≡ first_slices file (k + 1)
    all = map-append slice_of slices (slice ∷ []) ∙ (ap₂ (λ xs x. xs ++ x ∷ []) first.all same ∙ sym (map-range_with_len_more (entry_slice file) 0 k k (omega arith)))

    each : All (MarksRead file) (slices ++ slice ∷ [])
    each =
        All-append (MarksRead file) slices (slice ∷ []) first.read
        (All-cons (MarksRead file) slice [] (subst (λ s. IsTrue slice.read ↔ IsImage (slice_bytes file s)) (sym same) read) (All-nil (MarksRead file)))

pub all_listed : (file : List ℕ) (k : ℕ) (slices : List Slice) → IsUniversal file → k ≡ entry_count file → AreFirst file k slices → AreSlices file slices
all_listed file k slices universal all first = record { all = first.all ∙ (ap (first_slices file) all ∙ sym (universal_slices file universal)); read = first.read }

-- each slice lies inside a file that breaks none of its rules
pub marks_read : (file : List ℕ) → NothingBreaks (BreaksFile file) → (k : ℕ) (got : Option Slice) → option_map slice_of got ≡ slice_get (slices_of file) k → IfSome got (MarksReadInside file) → IfSome got (MarksRead file)
marks_read file keeps k None is inside = tt
marks_read file keeps k (Some slice) is inside = (λ read. (inside.0 read).1, λ image. inside.1 (slice_inside file keeps k (slice_of slice) (sym is), image))
