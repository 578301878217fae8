use Rattle.macho_image.proofs.Ranges.{item_at}
use Rattle.macho_image.proofs.table.TableEntries.get.Goals as goal

pub returns : goal.returns
returns g c = item_at c.args.self.now c.args.index c.range.result c.next.new.self c.next.result c.range.ensures c.next.ensures.steps
