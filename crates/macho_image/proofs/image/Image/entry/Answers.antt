use Rattle.macho_image.proofs.Entries.{entry_seen}
use Rattle.macho_image.proofs.image.Image.entry.Goals as goal

pub returns : goal.returns
returns c =
    entry_seen c.args.self.now c.in_ok-base.base c.in_ok-main.main c.checked_add.result c.in_ok-base.ensures c.in_ok-main.ensures c.checked_add.ensures
