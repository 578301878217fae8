use Rattle.std.proofs.Common.{◌≡◌, ◌∙◌, ◌+◌, refl, sym, ap, subst, arith}
use Rattle.std.proofs.lemmas.Bool.{false≢true}
use Rattle.macho_fields.specs.Bytes.{bytes_of}
use Rattle.macho_fields.specs.Symbol.{stroff}
use Rattle.macho_image.specs.declared.symtab.Symtab.{Symtab}
use Rattle.macho_rules.proofs.SymbolItems.{symtab_first, symtab_read}
use Rattle.macho_alike.proofs.NameLists.{AreListed, made, listed_next, passed_next, this_among, begins_inside, all_listed, name_read}
use Rattle.macho_alike.proofs.names.listed_names.Goals as goal

pub name_of-requires : goal.name_of-requires
name_of-requires c named =
    let image = c.args.image.now in
    let symtab = c.in-Some.symtab in
    let are = c.into_iter-symbol-iterator.ensures.into_iter_gives ∙ c.symbols-symbol-items.ensures in
    let start : symtab.stroff ≡ stroff image symtab.place = ap (λ (t : Symtab). t.stroff) (symtab_read image symtab c.in-Some.ensures) in
    let among = this_among image symtab.place _ _ _ c.in-Some-symbol.symbol c.in-Some-symbol.ensures.steps c.loop-symbol.names.items c.loop-symbol.invariant.2 in
    let less = begins_inside image c.requires _ are symtab.place (symtab_first image symtab c.in-Some.ensures) c.in-Some-symbol.symbol among named in
    rw c.bytes.ensures.bytes (omega (arith, less, start))

pub loop-symbol-preserved-in-Continue-1 : goal.loop-symbol-preserved-in-Continue-1
loop-symbol-preserved-in-Continue-1 c =
    let image = c.args.image.now in
    let symtab = c.in-Some.symtab in
    let found = c.in-Some-name_of.ensures in
    let start : symtab.stroff ≡ stroff image symtab.place = ap (λ (t : Symtab). t.stroff) (symtab_read image symtab c.in-Some.ensures) in
    let of = name_read image symtab.place c.in-Some-symbol.symbol c.in-Some-name_of.name (found.named.0 refl) (found.start ∙ ap (λ n. n + c.in-Some-symbol.symbol.strx) start) (bytes_of c.bytes.result) c.bytes.ensures.bytes found.len in (
      tt,
      tt,
      subst (AreListed image symtab.place _ _) (sym c.in_ok-push.ensures.items)
          (listed_next image symtab.place _ _ _ c.in-Some-symbol.symbol c.in-Some-symbol.ensures.steps c.loop-symbol.names.items c.loop-symbol.invariant.2 (made c.in-Some-name_of.name c.in-Some-symbol.symbol.place) (of, refl)),
    )

pub loop-symbol-preserved : goal.loop-symbol-preserved
loop-symbol-preserved c = (
  tt,
  tt,
  passed_next c.args.image.now c.in-Some.symtab.place _ _ _ c.in-Some-symbol.symbol c.in-Some-symbol.ensures.steps c.loop-symbol.names.items c.loop-symbol.invariant.2
      (λ named. false≢true (c.in_default-name_of.ensures.named.1 named)),
)

pub returns-clause-named : goal.returns-clause-named
returns-clause-named c =
    let image = c.args.image.now in
    let symtab = c.in-Some.symtab in
    let are = c.into_iter-symbol-iterator.ensures.into_iter_gives ∙ c.symbols-symbol-items.ensures in
    all_listed image c.requires _ are symtab.place (symtab_first image symtab c.in-Some.ensures) _ c.loop-symbol.names.items c.in-None.ensures.steps.0 c.loop-symbol.invariant.2
