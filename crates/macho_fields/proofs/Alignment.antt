-- When a power of two divides an offset.
use Rattle.std.proofs.Common.{◌≡◌, ◌↔◌, ℕ, suc, zero, ◌*◌, ◌/◌, ◌%◌, ◌^◌, ◌≤◌, ◌<◌, ◌==◌, IsTrue, sym, ap, ◌∙◌, subst, arith, eqb-true, eq-eqb, mod-eq_of_lt}
use Rattle.std.proofs.lemmas.Nat.{pow_below}
use Rattle.std.proofs.Math.Nat.{mod-add-div', mul-mod_left, pow-le-pow_right}
use Rattle.macho_fields.specs.Universal.{IsMultiple}

multiple : (offset p : ℕ) → offset % p ≡ 0 → (m : ℕ) × (m * p ≡ offset)
multiple offset p none = (offset / p, (let whole = mod-add-div' offset p in omega (arith, whole, none)))

no_rest : (offset p : ℕ) → (m : ℕ) × (m * p ≡ offset) → offset % p ≡ 0
no_rest offset p (m, is) = subst (λ n. n % p ≡ 0) is (mul-mod_left m p)

-- a power that a u64 holds divides as its remainder says
pub divides_by_rest : (offset align power : ℕ) → align < 64 → power ≡ (1 * 2 ^ align) % 2 ^ 64 → IsTrue (offset % power == 0) ↔ IsMultiple align offset
divides_by_rest offset align power small is = subst (λ p. IsTrue (offset % p == 0) ↔ IsMultiple align offset) (sym whole) (to, from)
  where
    one : 1 * 2 ^ align ≡ 2 ^ align
    one = omega arith

    below : 2 ^ align < 2 ^ 64
    below = pow_below align 64 small

    whole : power ≡ 2 ^ align
    whole = is ∙ (ap (λ n. n % 2 ^ 64) one ∙ mod-eq_of_lt below)

    to : IsTrue (offset % 2 ^ align == 0) → IsMultiple align offset
    to h = multiple offset (2 ^ align) (eqb-true (offset % 2 ^ align) 0 h)

    from : IsMultiple align offset → IsTrue (offset % 2 ^ align == 0)
    from m = eq-eqb (offset % 2 ^ align) 0 (no_rest offset (2 ^ align) m)

-- a power past the 63rd divides no offset of 64 bits but 0
pub great_power : (offset align : ℕ) → 64 ≤ align → 0 < offset → offset < 2 ^ 64 → ¬ IsMultiple align offset
great_power offset align great some fits (zero, is) = absurd (omega arith)
great_power offset align great some fits (suc m, is) = absurd (omega (arith, least, most, is))
  where
    most : 2 ^ 64 ≤ 2 ^ align
    most = pow-le-pow_right (omega arith) great

    least : 2 ^ align ≤ suc m * 2 ^ align
    least = omega arith
