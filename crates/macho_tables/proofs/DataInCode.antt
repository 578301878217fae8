-- Where the entries of data in code break their rule.
use Rattle.std.proofs.Common.{ℕ, ◌+◌, ◌*◌, ◌≤◌, ◌<◌, List, length, None, Some, refl, arith, inl, inr}
use Rattle.std.proofs.lemmas.Bool.{cases_lt}
use Rattle.macho_fields.specs.FirstPlace.{IsLeastPlace}
use Rattle.macho_tables.specs.DataInCode.{entry_at, entry_place, entry_count, IsBadEntry, HasRest, BadEntry}
use Rattle.macho_tables.proofs.DataTables.{IsTableRule}
use Rattle.macho_tables.proofs.Items.{item_inside}

-- an entry lies in the table
pub entry_inside : (table : List ℕ) (k : ℕ) → k < entry_count table → entry_place k + 8 ≤ length table
entry_inside table k less =
    let inside = item_inside 0 8 (entry_count table) k less in
    let whole : entry_count table * 8 ≤ length table = omega arith in omega (arith, inside, whole)

-- the rule is broken at places in the table
pub bad_entry_near : (image : List ℕ) → IsTableRule image BadEntry
bad_entry_near image table place some (inl (at, rest)) = omega (arith, at, some)
bad_entry_near image table place some (inr (k, less, at, bad)) = let inside = entry_inside table k less in omega (arith, at, inside)

module _ (image table : List ℕ) (whole : ¬ HasRest table) where
  -- the entry is the first bad one
  pub first_bad_entry : (k : ℕ) → k < entry_count table → IsBadEntry image (entry_at table (entry_place k))
      → ((j : ℕ) → j < k → ¬ IsBadEntry image (entry_at table (entry_place j))) → IsLeastPlace (BadEntry image table) (Some (entry_place k))
  first_bad_entry k less bad none = (inr (k, less, refl, bad), least)
    where
      least : (other : ℕ) → BadEntry image table other → entry_place k ≤ other
      least other (inl (at, rest)) = absurd (whole rest)
      least other (inr (j, below, at, worse)) = elim (cases_lt j k) [ inl before ↦ absurd (none j before worse) | inr late ↦ omega (arith, at, late) ]

  -- none is
  pub no_bad_entry : ((j : ℕ) → j < entry_count table → ¬ IsBadEntry image (entry_at table (entry_place j))) → IsLeastPlace (BadEntry image table) None
  no_bad_entry none other (inl (at, rest)) = whole rest
  no_bad_entry none other (inr (j, below, at, worse)) = none j below worse
