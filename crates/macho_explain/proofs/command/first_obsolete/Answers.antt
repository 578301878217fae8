use Rattle.std.proofs.Common.{◌≡◌, ◌+◌, ◌<◌, ℕ, zero, suc, List, Option, None, Some, ap, arith, refl, slice_index_or}
use Rattle.std.specs.Prelude.{MatchOption}
use Rattle.std.specs.Option.{option_or}
use Rattle.macho_fields.specs.Bytes.{bytes_of}
use Rattle.macho_explain.specs.Commanded.{obsolete_counts}
use Rattle.macho_explain.specs.Compared.{IsCountShown, IsObsoleteFound}
use Rattle.macho_explain.specs.Explain.{word_at, written}
use Rattle.macho_explain.proofs.command.first_obsolete.Goals as goal

module _ (image : List ℕ) (place : ℕ) where
  abbrev at : ℕ → ℕ
  at field = word_at image (written (place + field))

  -- one of five counts is some, or none is
  first : (a b c d e : Option (ℕ × ℕ)) → IsObsoleteFound image place 0 36 a → IsObsoleteFound image place 1 44 b → IsObsoleteFound image place 2 52 c
      → IsObsoleteFound image place 4 68 d → IsObsoleteFound image place 5 76 e
      → MatchOption (option_or (option_or (option_or (option_or a b) c) d) e) ((count : ℕ) → ¬ IsCountShown image place count) (λ found. (found.0 < 6) × IsCountShown image place found.1)
  first (Some one) b c d e is also third fourth fifth = (omega (arith, is.0), (is.1, (0, 36, omega arith, refl, is.2)))
  first None (Some one) c d e is also third fourth fifth = (omega (arith, also.0), (also.1, (1, 44, omega arith, refl, also.2)))
  first None None (Some one) d e is also third fourth fifth = (omega (arith, third.0), (third.1, (2, 52, omega arith, refl, third.2)))
  first None None None (Some one) e is also third fourth fifth = (omega (arith, fourth.0), (fourth.1, (3, 68, omega arith, refl, fourth.2)))
  first None None None None (Some one) is also third fourth fifth = (omega (arith, fifth.0), (fifth.1, (4, 76, omega arith, refl, fifth.2)))
  first None None None None None is also third fourth fifth = λ count has.
      let (some, (k, field, less, there, same)) = has in
      none k count field less there some same
    where
      none : (k count field : ℕ) → k < 5 → slice_index_or obsolete_counts k field ≡ field → 0 < count → count ≡ at field → ⊥
      none zero count field less there some same = let zeros : at 36 ≡ at field = ap at there in omega (arith, zeros, is, same, some)
      none (suc zero) count field less there some same = let zeros : at 44 ≡ at field = ap at there in omega (arith, zeros, also, same, some)
      none (suc (suc zero)) count field less there some same = let zeros : at 52 ≡ at field = ap at there in omega (arith, zeros, third, same, some)
      none (suc (suc (suc zero))) count field less there some same = let zeros : at 68 ≡ at field = ap at there in omega (arith, zeros, fourth, same, some)
      none (suc (suc (suc (suc zero)))) count field less there some same = let zeros : at 76 ≡ at field = ap at there in omega (arith, zeros, fifth, same, some)
      none (suc (suc (suc (suc (suc k))))) count field less there some same = omega (arith, less)

pub returns : goal.returns
returns c =
    let image = bytes_of c.args.sliced.now.held.bytes in
    rw (c.or-4.ensures, c.or-3.ensures, c.or-2.ensures, c.or.ensures)
    (first image c.args.sliced.now.place c.obsolete.result c.obsolete-2.result c.obsolete-3.result c.obsolete-4.result c.obsolete-5.result c.obsolete.ensures c.obsolete-2.ensures c.obsolete-3.ensures c.obsolete-4.ensures c.obsolete-5.ensures)
