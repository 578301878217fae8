-- An iterator whose view is the list of what remains comes nearer its end with each item.
use Rattle.std.proofs.Common.{◌≡◌, List, ◌∷◌, length, Some, ap, arith}
use Rattle.std.specs.Prelude.{⊤}
use Rattle.std.specs.Iterator.{MakesProgress, item_count}

pub nearer_end : {A B : Type 0} (before after : List B) (seen : B) (item : A) → before ≡ seen ∷ after → MakesProgress (λ _. ⊤) (item_count (λ left. left)) before (Some item) after
nearer_end before after seen item is =
    let longer : length before ≡ length (seen ∷ after) = ap length is in record {
      on = λ h. (tt, tt, omega arith);
      keeps = tt;
      rests = λ _. tt;
    }
