use Rattle.std.proofs.Common.{◌≡◌, ◌∙◌, ◌+◌, length, Contains, refl, sym, ap, subst, arith}
use Rattle.std.proofs.lemmas.Bool.{false≢true}
use Rattle.macho_fields.specs.Bytes.{bytes_of}
use Rattle.macho_fields.specs.FirstPlace.{IsLeastPlace}
use Rattle.macho_fields.specs.Symbol.{stroff, nsyms}
use Rattle.macho_fields.proofs.Lists.{contains_first, contains_later}
use Rattle.macho_image.specs.declared.symtab.Symtab.{Symtab}
use Rattle.macho_rules.proofs.SymbolItems.{symtab_first, symtab_read}
use Rattle.macho_alike.specs.SymbolTotal.{PassesImage, BreaksSymbolTotal}
use Rattle.macho_alike.proofs.NameLists.{begins_inside}
use Rattle.macho_alike.proofs.SymbolTotals.{counted_none, counted_past, counted_more, table_rows, none_pass, found_pass, size_read}
use Rattle.macho_alike.proofs.SymbolWalks.{nothing_at}
use Rattle.macho_alike.proofs.symbol_total.symbol_total.Goals as goal

-- Found without this answer, in half a minute.
pub returns-in_err-symtab : goal.returns-in_err-symtab
returns-in_err-symtab c =
    let image = c.args.image.now in
    subst (IsLeastPlace (BreaksSymbolTotal image)) (sym c.from_residual.ensures) (nothing_at image c.in_err-symtab.ensures (PassesImage image))

pub loop-symbol-init : goal.loop-symbol-init
loop-symbol-init c =
    let image = c.args.image.now in
    let symtab = c.in_ok-symtab.symtab in
    let are = c.into_iter-symbol-iterator.ensures.into_iter_gives ∙ c.symbols-symbol-items.ensures in (
      tt,
      tt,
      counted_none image symtab.place (nsyms image symtab.place) _ (table_rows image c.requires symtab.place (symtab_first image symtab c.in_ok-symtab.ensures) _ are),
      λ s has. has,
    )

pub name_of-requires : goal.name_of-requires
name_of-requires c named =
    let image = c.args.image.now in
    let symtab = c.in_ok-symtab.symtab in
    let are = c.into_iter-symbol-iterator.ensures.into_iter_gives ∙ c.symbols-symbol-items.ensures in
    let start : symtab.stroff ≡ stroff image symtab.place = ap (λ (t : Symtab). t.stroff) (symtab_read image symtab c.in_ok-symtab.ensures) in
    let among = c.loop-symbol.invariant.3 c.in-Some.symbol (subst (λ ys. Contains ys c.in-Some.symbol) (sym c.in-Some.ensures.steps) (contains_first c.in-Some.symbol c.next.new.self)) in
    let less = begins_inside image c.requires _ are symtab.place (symtab_first image symtab c.in_ok-symtab.ensures) c.in-Some.symbol among named in
    rw c.bytes-bytes.ensures.bytes (omega (arith, less, start))

pub loop-symbol-preserved : goal.loop-symbol-preserved
loop-symbol-preserved c = (
  tt,
  tt,
  counted_past c.args.image.now c.in_ok-symtab.symtab.place _ _ _ c.in-Some.symbol c.in-Some.ensures.steps c.loop-symbol.total c.loop-symbol.invariant.2
      (λ named. false≢true (c.in_default.ensures.named.1 named)),
  λ s later. c.loop-symbol.invariant.3 s (subst (λ ys. Contains ys s) (sym c.in-Some.ensures.steps) (contains_later c.in-Some.symbol s c.next.new.self later)),
)

pub loop-symbol-preserved-else-total-limit : goal.loop-symbol-preserved-else-total-limit
loop-symbol-preserved-else-total-limit c =
    let image = c.args.image.now in
    let symtab = c.in_ok-symtab.symtab in
    let named = c.in-Some-name_of.ensures.named.0 refl in
    let start : symtab.stroff ≡ stroff image symtab.place = ap (λ (t : Symtab). t.stroff) (symtab_read image symtab c.in_ok-symtab.ensures) in
    let size = size_read image symtab.place c.in-Some.symbol named c.in-Some-name_of.name.start c.in-Some-name_of.name.len (c.in-Some-name_of.ensures.start ∙ ap (λ n. n + c.in-Some.symbol.strx) start)
    (bytes_of c.bytes-bytes.result) c.bytes-bytes.ensures.bytes c.in-Some-name_of.ensures.len in
    let limit : c.from-limit.result ≡ length image = c.from-limit.ensures ∙ (c.len.ensures.count ∙ ap length c.bytes-bytes.ensures.bytes) in (
      tt,
      tt,
      counted_more image symtab.place _ _ _ c.in-Some.symbol c.in-Some.ensures.steps c.loop-symbol.total c.loop-symbol.invariant.2 named c.in-Some-name_of.name.len size
          _ (ap (λ n. c.loop-symbol.total + (n + 1)) c.from.ensures) (omega (arith, limit, c.if-total-limit.false)),
      λ s later. c.loop-symbol.invariant.3 s (subst (λ ys. Contains ys s) (sym c.in-Some.ensures.steps) (contains_later c.in-Some.symbol s c.next.new.self later)),
    )

pub returns-then-total-limit : goal.returns-then-total-limit
returns-then-total-limit c =
    let image = c.args.image.now in
    let symtab = c.in_ok-symtab.symtab in
    let named = c.in-Some-name_of.ensures.named.0 refl in
    let start : symtab.stroff ≡ stroff image symtab.place = ap (λ (t : Symtab). t.stroff) (symtab_read image symtab c.in_ok-symtab.ensures) in
    let size = size_read image symtab.place c.in-Some.symbol named c.in-Some-name_of.name.start c.in-Some-name_of.name.len (c.in-Some-name_of.ensures.start ∙ ap (λ n. n + c.in-Some.symbol.strx) start)
    (bytes_of c.bytes-bytes.result) c.bytes-bytes.ensures.bytes c.in-Some-name_of.ensures.len in
    let limit : c.from-limit.result ≡ length image = c.from-limit.ensures ∙ (c.len.ensures.count ∙ ap length c.bytes-bytes.ensures.bytes) in
    found_pass image c.requires symtab.place (symtab_first image symtab c.in_ok-symtab.ensures) _ _ c.in-Some.symbol c.in-Some.ensures.steps c.loop-symbol.total c.loop-symbol.invariant.2
    named c.in-Some-name_of.name.len size _ (ap (λ n. c.loop-symbol.total + (n + 1)) c.from.ensures) (omega (arith, limit, c.if-total-limit.true))

pub returns : goal.returns
returns c =
    let image = c.args.image.now in
    let symtab = c.in_ok-symtab.symtab in
    none_pass image c.requires symtab.place (symtab_first image symtab c.in_ok-symtab.ensures) _ c.loop-symbol.total c.in-None.ensures.steps.0 c.loop-symbol.invariant.2
