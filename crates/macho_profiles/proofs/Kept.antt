-- What the verdicts of the layout and of the strict profile promise of a file that they accept, as one record.
use Rattle.std.proofs.Common.{ℕ, List, Result, Ok, Err}
use Rattle.std.specs.Prelude.{OnOk}
use Rattle.macho_fields.specs.First.{IsUnbroken}
use Rattle.macho_fields.specs.Loader.{IsSound}
use Rattle.macho_strict.specs.Accounted.{IsAccounted}
use Rattle.macho_strict.specs.First.{IsStrictlyUnbroken}
use Rattle.macho_profiles.specs.Profiles.{KeepsLayout, KeepsStrict}

module _ {T E : Type 0} (file : List ℕ) where
  pub layout_kept : (r : Result T E) → OnOk r (IsUnbroken file) → OnOk r (IsSound file) → OnOk r (KeepsLayout file)
  layout_kept (Ok x) unbroken sound = record { unbroken = unbroken; sound = sound }
  layout_kept (Err e) unbroken sound = tt

  pub strict_kept : (r : Result T E) → OnOk r (KeepsLayout file) → OnOk r (IsStrictlyUnbroken file) → OnOk r (IsAccounted file) → OnOk r (KeepsStrict file)
  strict_kept (Ok x) layout unbroken accounted = record { layout = layout; unbroken = unbroken; accounted = accounted }
  strict_kept (Err e) layout unbroken accounted = tt
