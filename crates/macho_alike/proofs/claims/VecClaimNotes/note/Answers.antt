use Rattle.std.proofs.Common.{[], ◌∷◌, sym}
use Rattle.std.proofs.lemmas.List.{map-append}
use Rattle.macho_alike.specs.Claims.{claim_by, AreClaims}
use Rattle.macho_alike.proofs.NotedLookUps.{noted_one}
use Rattle.macho_alike.proofs.claims.VecClaimNotes.note.Goals as goal

pub returns : goal.returns
returns c =
    noted_one (λ looks claims. AreClaims looks claims.items) c.args.name.now c.args.library c.args.self.now c.push.new.self
    (λ before are. rw (c.in_ok-push.ensures.items, are, c.new.ensures, c.ordinal_of.ensures) (sym (map-append claim_by before ((c.args.name.now, c.args.library) ∷ []))))
