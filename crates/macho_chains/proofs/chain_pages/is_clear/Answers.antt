use Rattle.std.proofs.Common.{refl}
use Rattle.macho_chains.proofs.ChainPages.{encryption_listed, single_clear, none_clear}
use Rattle.macho_chains.proofs.chain_pages.is_clear.Goals as goal

pub encrypts-requires : goal.encrypts-requires
encrypts-requires c = encryption_listed c.args.image.now c.args.encryption c.requires c.in-Some.command c.in-Some.is

pub returns-in-Some : goal.returns-in-Some
returns-in-Some c =
    let single = c.requires.single.0 c.if-not-encryption.false in
    single_clear c.args.image.now c.args.encryption c.requires c.in-Some.command c.in-Some.is single c.args.span c.encrypts.result c.encrypts.ensures

pub returns-in-None : goal.returns-in-None
returns-in-None c =
    let single = c.requires.single.0 c.if-not-encryption.false in
    (λ _. none_clear c.args.image.now c.args.encryption c.requires c.in-None.is single c.args.span, λ _. refl)
