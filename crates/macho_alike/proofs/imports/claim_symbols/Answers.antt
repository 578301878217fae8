use Rattle.std.proofs.Common.{◌≡◌, ◌∙◌, Contains, ap, subst}
use Rattle.std.proofs.lemmas.Bool.{false≢true}
use Rattle.macho_fields.specs.Symbol.{stroff}
use Rattle.macho_image.specs.Symbol.{symbol_at}
use Rattle.macho_image.specs.declared.symtab.Symtab.{Symtab}
use Rattle.macho_rules.proofs.Searches.{search_ended}
use Rattle.macho_rules.proofs.SymbolItems.{symbols_search, symtab_first, symtab_read}
use Rattle.macho_symbols.specs.Nlist.{library_ordinal}
use Rattle.macho_alike.specs.Claims.{claim_at, IsUnclaimed}
use Rattle.macho_alike.specs.Definitions.{name_of}
use Rattle.macho_alike.proofs.AgreedClaims.{same_claim, unnamed_next, claimed_next, among_itself}
use Rattle.macho_alike.proofs.SymbolWalks.{symbols_break, nothing_at}
use Rattle.macho_alike.proofs.imports.claim_symbols.Goals as goal

pub returns-in_default-clause-claimed : goal.returns-in_default-clause-claimed
returns-in_default-clause-claimed c =
    let image = c.args.image.now in
    nothing_at image c.in_default.ensures (λ symtab symbol. IsUnclaimed image c.args.claims.now.items symtab (symbol_at image symbol))

pub loop-symbol-init : goal.loop-symbol-init
loop-symbol-init c = (
  tt,
  tt,
  symbols_search c.args.image.now _ (c.into_iter-symbol-iterator.ensures.into_iter_gives ∙ c.symbols-symbol-items.ensures) (IsUnclaimed c.args.image.now c.args.claims.now.items c.in-Some.symtab.place),
  among_itself c.args.claims.now.items,
)

pub loop-symbol-preserved-in-Some-imported_name : goal.loop-symbol-preserved-in-Some-imported_name
loop-symbol-preserved-in-Some-imported_name c =
    let image = c.args.image.now in
    let symtab = c.in-Some.symtab in
    let symbol = c.in-Some-symbol.symbol in
    let begins : symtab.stroff ≡ stroff image symtab.place = ap (λ (t : Symtab). t.stroff) (symtab_read image symtab c.in-Some.ensures) in
    let name = (rw c.bytes.ensures.bytes at c.in-Some-imported_name.ensures.name) symtab.place begins in
    let claim : c.new-claim.result ≡ claim_at image symtab.place symbol = same_claim c.new-claim.result c.in-Some-imported_name.name.now (name_of image symtab.place symbol) c.library_ordinal.result (library_ordinal symbol) c.new-claim.ensures name c.library_ordinal.ensures in
    let claims = c.claim_next.new.claims.items in (
      tt,
      tt,
      claimed_next image symtab.place _ _ _ symbol c.in-Some-symbol.ensures.steps c.loop-symbol.claims.items c.loop-symbol.invariant.2 claims c.in_ok-next.ensures.kept
          (subst (Contains claims) claim c.in_ok-next.ensures.claimed),
      λ other has. c.in_ok-next.ensures.kept other (c.loop-symbol.invariant.3 other has),
    )

pub loop-symbol-preserved : goal.loop-symbol-preserved
loop-symbol-preserved c = (
  tt,
  tt,
  unnamed_next c.args.image.now c.in-Some.symtab.place _ _ _ c.in-Some-symbol.symbol c.in-Some-symbol.ensures.steps c.loop-symbol.claims.items c.loop-symbol.invariant.2
      (λ imports. false≢true (c.in_default-imported_name.ensures.named.1 imports)),
  c.loop-symbol.invariant.3,
)

pub returns-clause-claimed : goal.returns-clause-claimed
returns-clause-claimed c =
    let image = c.args.image.now in
    let symtab = c.in-Some.symtab in
    let claims = c.loop-symbol.claims.items in
    let are = c.into_iter-symbol-iterator.ensures.into_iter_gives ∙ c.symbols-symbol-items.ensures in
    search_ended _ (λ s. s.place) (IsUnclaimed image claims symtab.place) _ _ c.in-None.ensures.steps.0
    (symbols_break image _ are c.requires (IsUnclaimed image claims) symtab.place (symtab_first image symtab c.in-Some.ensures)) c.loop-symbol.invariant.2
