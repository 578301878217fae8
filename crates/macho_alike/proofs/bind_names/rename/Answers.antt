use Rattle.std.proofs.Common.{refl, arith}
use Rattle.macho_fields.specs.Bytes.{bytes_of}
use Rattle.macho_alike.proofs.BindRenames.{renamed_self, renamed_more}
use Rattle.macho_alike.proofs.bind_names.rename.Goals as goal

pub loop-index-init : goal.loop-index-init
loop-index-init c = (renamed_self (bytes_of c.args.bytes) c.args.binds.now c.requires, tt)

pub place_after-shared-requires-clause-name : goal.place_after-shared-requires-clause-name
place_after-shared-requires-clause-name c = (c.loop-index.invariant.0.each c.loop-index.index c.loop-index-test.true).shared.0

pub loop-index-preserved : goal.loop-index-preserved
loop-index-preserved c = (
  renamed_more (bytes_of c.args.bytes) c.args.binds.now c.loop-index.binds c.loop-index.invariant.0 c.loop-index.index (omega (arith, c.loop-index.auto.binds, c.loop-index-test.true)) _ (record {
    place = refl;
    segment = refl;
    offset = refl;
    addend = refl;
    library = refl;
    shared = c.place_after-shared.ensures;
  }),
  c.place_after-shared.ensures,
)
