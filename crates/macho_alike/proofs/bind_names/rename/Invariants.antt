use Rattle.std.specs.Prelude.{IfSome}
use Rattle.macho_alike.specs.BindNames.{IsShared, AreRenamed}
use Rattle.macho_alike.proofs.bind_names.rename.Given as goal

-- the binds before this one are renamed, and it is known where the name of the last one is
abbrev pub invariant-loop-index : goal.invariant-loop-index
invariant-loop-index l =
    AreRenamed l.bytes.bytes.now l.initial.binds l.binds × IfSome l.last (λ last. IsShared l.bytes.bytes.now last.name last.shared)
