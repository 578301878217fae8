use Rattle.std.proofs.Common.{◌≡◌, ◌+◌, ◌≤◌, ◌^◌, ◌∷◌, [], ℕ, List, drop, ap, arith, inl, subst, sym, ◌∙◌}
use Rattle.macho_fields.specs.Bytes.{bytes_of}
use Rattle.macho_fields.specs.Image.{Follow, command_size}
use Rattle.macho_explain.specs.Explain.{all_loads}
use Rattle.macho_rows.specs.Loads.{wanted_left}
use Rattle.macho_rows.specs.declared.load.Wanted.TheVariants as wanted
use Rattle.macho_explain.proofs.Walked.{passed, within, ended}
use Rattle.macho_explain.proofs.walk.walk_end.Goals as goal

-- the commands after one follow where it ends
follow_on : (image : List ℕ) (start command size end : ℕ) (left rest : List ℕ) → left ≡ command ∷ rest → size ≡ command_size image command → Follow image start left end
    → Follow image (command + size) rest end
follow_on image start command size end left rest are sized follows =
    let here : Follow image start (command ∷ rest) end = subst (λ (xs : List ℕ). Follow image start xs end) are follows in
    subst (λ n. Follow image (command + n) rest end) (sym sized) here.2

pub loop-load-preserved : goal.loop-load-preserved
loop-load-preserved c =
    let image = bytes_of c.args.image in
    let place = c.in-Some.load.place in
    let rest = wanted_left wanted.All image c.next_wanted.new.cursor in
    let here = c.loop-load.invariant.left ∙ c.in-Some.ensures.first in
    let added : c.in_ok-count.count ≡ c.loop-load.count + 1 = grind arith in
    record {
      left = ap (λ n. drop n (all_loads image)) added ∙ passed (all_loads image) c.loop-load.count place rest here;
      few = omega (arith, added, within (all_loads image) c.loop-load.count place rest here);
      follow = λ end chain. follow_on image c.loop-load.place place c.in-Some.load.size end (wanted_left wanted.All image c.loop-load.cursor) rest c.in-Some.ensures.first c.in-Some.ensures.load.0.size (c.loop-load.invariant.follow end chain);
    }

pub returns-in_err-count : goal.returns-in_err-count
returns-in_err-count c =
    let image = bytes_of c.args.image in
    let here = c.loop-load.invariant.left ∙ c.in-Some.ensures.first in
    let less = within (all_loads image) c.loop-load.count c.in-Some.load.place (wanted_left wanted.All image c.next_wanted.new.cursor) here in
    let over : 2 ^ 32 ≤ c.loop-load.count + 1 = grind arith in
    rw c.from_residual.ensures (inl (omega (arith, less, over)))

pub returns : goal.returns
returns c =
    let image = bytes_of c.args.image in
    let none : wanted_left wanted.All image c.loop-load.cursor ≡ [] = grind arith in
    record {
      counted = omega (arith, c.loop-load.invariant.few, ended (all_loads image) c.loop-load.count (c.loop-load.invariant.left ∙ none));
      place = λ place chain. let follows : Follow image c.loop-load.place [] place = subst (λ (xs : List ℕ). Follow image c.loop-load.place xs place) none (c.loop-load.invariant.follow place chain) in sym follows;
    }
