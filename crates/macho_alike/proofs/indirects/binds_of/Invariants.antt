use Rattle.std.proofs.Common.{◌≡◌, IfSome, map, take}
use Rattle.macho_alike.specs.Bounds.{span_of, bind_of}
use Rattle.macho_alike.proofs.indirects.binds_of.Given as goal

-- those before are listed as binds, and the bytes of the last name are known
abbrev pub invariant-loop-one : goal.invariant-loop-one
invariant-loop-one l =
    (l.binds.items ≡ map (bind_of l.image) (take l.one-index l.said)) × IfSome l.last (λ last. last.name ≡ span_of l.image last.start)
