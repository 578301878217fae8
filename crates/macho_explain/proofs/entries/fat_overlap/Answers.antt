use Rattle.std.proofs.Common.{arith, below_more}
use Rattle.macho_fields.specs.Bytes.{bytes_of}
use Rattle.macho_explain.specs.Entries.{HasTable, ShareEntries}
use Rattle.macho_explain.proofs.ListedEntries.{apart, entry_is, none_earlier}
use Rattle.macho_explain.proofs.entries.fat_overlap.Goals as goal

pub loop-earlier-preserved : goal.loop-earlier-preserved
loop-earlier-preserved c =
    let file = bytes_of c.args.file in
    let index = c.in_ok-at.index in
    let earlier = c.loop-earlier.earlier in
    λ (has : HasTable file).
    let less = (c.in_ok-at.ensures.entry has).0 in
    let own = entry_is file index c.in_ok-at.slice has less c.in_ok-at.ensures.listed in
    let its = entry_is file earlier c.in_ok-other.other has (omega (arith, less, c.loop-earlier-test.true)) c.in_ok-other.ensures.listed in
    let none = apart file earlier index c.in_ok-other.other c.in_ok-at.slice its own c.in_default.ensures.none in
    below_more (λ k. ¬ ShareEntries file k index) earlier (c.loop-earlier.invariant has) none

pub returns : goal.returns
returns c =
    let file = bytes_of c.args.file in
    none_earlier (ShareEntries file) file c.args.place c.in_ok-at.index c.in_ok-at.ensures.entry
    (λ has k less. c.loop-earlier.invariant has k (omega (arith, less, c.loop-earlier-test.false)))
