use Rattle.std.proofs.Common.{◌≡◌, Contains}
use Rattle.macho_image.specs.Segment.{SectionView}
use Rattle.macho_alike.proofs.SaidNames.{SaidIn}
use Rattle.macho_alike.proofs.Gathered.{IsWalkedTo, OfSome}
use Rattle.macho_alike.proofs.indirects.names_of_entries.Given as goal

-- what is said of the entries of the sections before is listed
abbrev pub invariant-loop-section : goal.invariant-loop-section
invariant-loop-section l =
    (goal.iterator-loop-section).can_next l.section-iterator × (goal.iterator-loop-section).is_finite l.section-iterator
    × IsWalkedTo (OfSome (SaidIn l.image l.bounds) l.initial.section-iterator) (OfSome (SaidIn l.image l.bounds) l.section-iterator) l.initial.said.items l.said.items
    × ((s : SectionView) → Contains l.section-iterator s → s.image ≡ l.image)
