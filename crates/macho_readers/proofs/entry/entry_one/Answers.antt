use Rattle.std.proofs.Common.{ℕ, List, Contains, subst}
use Rattle.macho_fields.specs.FirstPlace.{IsLeastPlace}
use Rattle.macho_fields.specs.Image.{commands_of}
use Rattle.macho_readers.specs.Entry.{HasBadEntry}
use Rattle.macho_readers.proofs.entry.entry_one.Goals as goal

pub returns : goal.returns
returns c =
    let image = c.args.image.now in
    subst (λ (these : List ℕ). IsLeastPlace (λ place. Contains (commands_of image) place × HasBadEntry these image place) c.first_bad_entry.result) c.data_entries.ensures c.first_bad_entry.ensures
