use Rattle.macho_fields.specs.Bytes.{bytes_of}
use Rattle.macho_chains.proofs.ChainTables.{none_read, table_read}
use Rattle.macho_alike.specs.Bounds.{IsTableBound}
use Rattle.macho_alike.specs.Indirects.{IsChainBound}
use Rattle.macho_alike.proofs.ChainBounds.{none_listed, headless, headed, kept_starts, kept_slots}
use Rattle.macho_alike.proofs.Gathered.{if_ok_same, gathered_none}
use Rattle.macho_alike.proofs.bounds.add_chains.Goals as goal

pub returns-in_default : goal.returns-in_default
returns-in_default c =
    let image = c.args.image.now in
    gathered_none (IsChainBound image) c.args.bounds.now.items (none_listed image (none_read image c.of-fixups.result c.of-fixups.ensures c.in_default.is))

pub returns-in_default-header : goal.returns-in_default-header
returns-in_default-header c =
    let image = c.args.image.now in
    let is = table_read image c.of-fixups.result c.in-Some.table c.of-fixups.ensures c.in-Some.is in
    gathered_none (IsChainBound image) c.args.bounds.now.items (headless image c.in-Some.table is c.in_default-header.is)

pub add_segments-requires-clause-starts : goal.add_segments-requires-clause-starts
add_segments-requires-clause-starts c =
    let image = c.args.image.now in
    let is = table_read image c.of-fixups.result c.in-Some.table c.of-fixups.ensures c.in-Some.is in
    kept_starts image c.in-Some.table is c.in-Some-header.header c.in-Some-header.is c.requires.starts

pub add_segments-requires-clause-slots : goal.add_segments-requires-clause-slots
add_segments-requires-clause-slots c =
    let image = c.args.image.now in
    let is = table_read image c.of-fixups.result c.in-Some.table c.of-fixups.ensures c.in-Some.is in
    kept_slots image c.in-Some.table is c.in-Some-header.header c.in-Some-header.is c.requires.slots

pub returns : goal.returns
returns c =
    let image = c.args.image.now in
    let table = c.in-Some.table in
    let header = c.in-Some-header.header in
    let is = table_read image c.of-fixups.result table c.of-fixups.ensures c.in-Some.is in
    if_ok_same (IsTableBound image table.start (bytes_of table.bytes) header) (IsChainBound image) c.args.bounds.now.items c.add_segments.new.bounds.items c.add_segments.result
    (headed image table is header c.in-Some-header.is) c.add_segments.ensures
