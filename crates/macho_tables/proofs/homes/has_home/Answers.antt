use Rattle.macho_tables.proofs.Nots.{not_true, true_not}
use Rattle.macho_tables.proofs.homes.has_home.Goals as goal

pub returns-then-lies_in_linkedit : goal.returns-then-lies_in_linkedit
returns-then-lies_in_linkedit c =
    let lies = c.lies_in_linkedit.ensures.0 c.if-lies_in_linkedit.true in (
      λ plain. (lies.0, lies.1, λ any. not_true _ plain (c.is_encrypted.ensures.1 any)),
      λ home. true_not _ (λ encrypted. home.2 (c.is_encrypted.ensures.0 encrypted)),
    )
