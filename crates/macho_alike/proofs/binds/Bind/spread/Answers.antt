use Rattle.std.proofs.Common.{◌≡◌, ◌+◌, ◌*◌, ◌%◌, ◌^◌, ℕ, ap, arith}
use Rattle.std.proofs.lemmas.Nat.{mul-mod_second}
use Rattle.macho_alike.specs.declared.binds.Bind.{Bind}
use Rattle.macho_alike.proofs.binds.Bind.spread.Goals as goal

wraps : (offset k skip : ℕ) → (offset + k * ((skip + 8) % 2 ^ 64) % 2 ^ 64) % 2 ^ 64 ≡ (offset + k * (8 + skip)) % 2 ^ 64
wraps offset k skip =
    let product = mul-mod_second k (skip + 8) (2 ^ 64) in
    let turned : skip + 8 ≡ 8 + skip = omega arith in
    rw (product, turned) (omega arith)

pub returns : goal.returns
returns c = ap (λ (offset : ℕ). let moved : Bind = record c.args.self { offset = offset } in moved) (wraps c.args.self.offset c.args.k c.args.skip)
