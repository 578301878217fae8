-- What some steps set, and which of them write.
use Rattle.std.proofs.Common.{◌≡◌, List, [], ◌∷◌, ◌++◌, fold, refl, sym, ap, ◌∙◌, append_assoc}
use Rattle.std.specs.Option.{option_to_list}
use Rattle.macho_opcodes.specs.Cursor.{moved}
use Rattle.macho_opcodes.specs.declared.step.Step.{Step}
use Rattle.macho_fixups.specs.Walks.{followed, write_from, writes_of}
use Rattle.macho_fixups.specs.declared.walk.Walk.{Walk}

-- the segment, the offset and the name are what the same steps make of a cursor
pub walk_cursor : (steps : List Step) (walk : Walk) → (fold followed walk steps).cursor ≡ fold moved walk.cursor steps
walk_cursor [] walk = refl
walk_cursor (said ∷ steps) walk = walk_cursor steps (followed walk said)

-- an opcode that writes is listed with what the steps before it set
pub writes_apart : (before rest : List Step) (walk : Walk)
    → writes_of walk (before ++ rest) ≡ writes_of walk before ++ writes_of (fold followed walk before) rest
writes_apart [] rest walk = refl
writes_apart (said ∷ before) rest walk =
    ap (λ others. option_to_list (write_from walk said) ++ others) (writes_apart before rest (followed walk said))
    ∙ sym (append_assoc (option_to_list (write_from walk said)) (writes_of (followed walk said) before) (writes_of (fold followed (followed walk said) before) rest))
