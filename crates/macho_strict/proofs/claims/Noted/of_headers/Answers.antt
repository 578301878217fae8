use Rattle.std.proofs.Common.{◌∷◌, [], ℕ, List, subst}
use Rattle.macho_fields.specs.Bytes.{bytes_of}
use Rattle.macho_strict.specs.Claims.{AreNoted}
use Rattle.macho_strict.specs.Elements.{headers}
use Rattle.macho_strict.specs.declared.elements.Element.{Element}
use Rattle.macho_strict.proofs.claims.Noted.of_headers.Goals as goal

pub returns : goal.returns
returns c =
    subst (λ (image : List ℕ). AreNoted image (headers c.args.image.now ∷ []) c.note.new.self) c.bytes.ensures.bytes
    (subst (λ (head : Element). AreNoted (bytes_of c.bytes.result) (head ∷ []) c.note.new.self) c.headers.ensures (c.note.ensures (bytes_of c.bytes.result) [] c.new-noted.ensures))
