use Rattle.std.proofs.Common.{arith}
use Rattle.macho_explain.proofs.BrokenImages.{counted}
use Rattle.macho_explain.proofs.BrokenReaders.{bytes_encrypted, command_once, command_there, number_shift}
use Rattle.macho_explain.proofs.readers_law.broken_command_rule_is_about.Goals as goal

pub returns-clause-command_known : goal.returns-clause-command_known
returns-clause-command_known c = λ keeps place broken.
    let image = c.args.image.now in
    let few = counted image (λ k. let f = c.type_inv.image k in omega (arith, f.fits)) in
    command_there image few keeps place broken.0

pub returns-clause-command_once : goal.returns-clause-command_once
returns-clause-command_once c = λ keeps place broken.
    let image = c.args.image.now in
    let few = counted image (λ k. let f = c.type_inv.image k in omega (arith, f.fits)) in
    command_once image few keeps place broken

pub returns-clause-bytes_encrypted : goal.returns-clause-bytes_encrypted
returns-clause-bytes_encrypted c = λ keeps place broken.
    let image = c.args.image.now in
    let few = counted image (λ k. let f = c.type_inv.image k in omega (arith, f.fits)) in
    bytes_encrypted image few keeps place broken

pub returns-clause-number_shift : goal.returns-clause-number_shift
returns-clause-number_shift c = λ keeps place broken.
    let image = c.args.image.now in
    let few = counted image (λ k. let f = c.type_inv.image k in omega (arith, f.fits)) in
    number_shift image few keeps place broken

pub returns-clause-entry_one : goal.returns-clause-entry_one
returns-clause-entry_one c = λ keeps place broken.
    let image = c.args.image.now in
    let few = counted image (λ k. let f = c.type_inv.image k in omega (arith, f.fits)) in
    command_there image few keeps place broken.0
