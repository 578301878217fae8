-- What is returned at a fault, and what is not.
use Rattle.std.proofs.Common.{◌≡◌, Result, Ok, Err, IsErrOf, ap}
use Rattle.std.specs.Prelude.{IsErrAnd}

-- what a `?` returns is the fault that it makes
pub at_fault : {T E : Type 0} (r : Result T E) (fault : E) → IsErrAnd r (λ e. e ≡ fault) → r ≡ Err fault
at_fault (Ok x) fault is = absurd is
at_fault (Err e) fault is = ap Err is

-- the same fault, of a call that returns something else
pub same_fault : {T U E : Type 0} (e f : E) → IsErrOf {T = T} (Err e) f → IsErrOf {T = U} (Err e) f
same_fault e f is = let same : e ≡ f = cc in ap Err same

-- what has an answer has no fault
pub no_fault : {T E : Type 0} (x : T) (e : E) → ¬ IsErrOf (Ok x) e
no_fault x e is = cc

-- what has a fault has no answer
pub no_answer : {T E : Type 0} (e : E) (x : T) → ¬ (Err e ≡ Ok x)
no_answer e x is = cc

-- the answer is another one
pub other_answer : {T E : Type 0} (r : Result T E) (x y : T) → r ≡ Ok x → ¬ (x ≡ y) → ¬ (r ≡ Ok y)
other_answer r x y first other second = let same : x ≡ y = cc in other same
