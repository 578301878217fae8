use Rattle.std.proofs.Common.{◌≡◌, ◌++◌, length, All}
use Rattle.macho_fields.specs.Bytes.{bytes_of}
use Rattle.macho_image.specs.Opened.{IsCommandOf}
use Rattle.macho_strict.specs.ElementWalk.{elements_left}
use Rattle.macho_strict.proofs.elements.ElementsIterator.next.Given as goal

-- only commands that describe nothing were passed
abbrev pub invariant-loop-element : goal.invariant-loop-element
invariant-loop-element l = record {
  listed : All (IsCommandOf (bytes_of l.self-inside.image)) l.self-inside.commands;
  left : l.self-inside.described ++ elements_left (bytes_of l.self-inside.image) l.self-inside.commands
      ≡ l.initial.self-inside.described ++ elements_left (bytes_of l.initial.self-inside.image) l.initial.self-inside.commands;
}

abbrev pub decreases-loop-element : goal.decreases-loop-element
decreases-loop-element l = length l.self-inside.commands
