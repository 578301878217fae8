use Rattle.std.proofs.Common.{◌≡◌, ◌∙◌, ◌≤◌, ◌-◌, List, ℕ, [], ◌∷◌, ◌++◌, length, reverse, Option, None, refl, sym, ap, subst, arith}
use Rattle.std.specs.Option.{SomeIff}
use Rattle.std.proofs.lemmas.List.{reverse-append, reverse-reverse}
use Rattle.macho_fields.specs.Bytes.{bytes_of}
use Rattle.macho_alike.specs.TrieWalks.{AreBranchesOf}
use Rattle.macho_alike.specs.declared.trie.Branch.{Branch}
use Rattle.macho_alike.proofs.TrieWalks.{IsWalkedTo, root, walked_start, walked_all, next_of_branch, next_head, next_edges, next_fits, next_walked}
use Rattle.macho_alike.proofs.trie.least_unlike.Goals as goal

-- the last of a stack is the next one
next_is : (old stack : List Branch) (branch : Branch) → old ≡ stack ++ branch ∷ [] → reverse old ≡ branch ∷ reverse stack
next_is old stack branch is = ap reverse is ∙ reverse-append stack (branch ∷ [])

empty : (branches : List Branch) → length branches ≡ 0 → branches ≡ []
empty [] is = refl
empty (branch ∷ branches) is = absurd (omega (arith, is))

pub loop-branch-init : goal.loop-branch-init
loop-branch-init c =
    let image = bytes_of c.args.image in
    let trie = bytes_of c.args.trie in
    let first : reverse c.push.new.self.items ≡ root image trie c.args.names.now c.args.base c.requires.names ∷ [] =
    ap reverse (c.in_ok-push.ensures.items ∙ ap (λ (bs : List Branch). bs ++ root image trie c.args.names.now c.args.base c.requires.names ∷ []) c.new-waiting.ensures.items) in
    subst (λ (w : List Branch). IsWalkedTo image trie c.args.names.now c.args.base c.len-left.result w None) (sym first)
    (subst (λ (n : ℕ). IsWalkedTo image trie c.args.names.now c.args.base n (root image trie c.args.names.now c.args.base c.requires.names ∷ []) None) (sym c.len-left.ensures.count)
    (walked_start image trie c.args.names.now c.args.base c.requires.names c.requires.trie))

pub returns-in_default-read : goal.returns-in_default-read
returns-in_default-read c =
    let image = bytes_of c.args.image in
    let trie = bytes_of c.args.trie in
    let stack = c.pop.new.self.items in
    let branch = c.in-Some.branch in
    let next = next_is c.loop-branch.waiting.items stack branch c.in-Some.ensures.items in
    let walked = subst (λ (w : List Branch). IsWalkedTo image trie c.args.names.now c.args.base c.loop-branch.left w c.loop-branch.least) next c.loop-branch.invariant in
    absurd (next_head image trie c.args.names.now c.args.base c.requires.names branch (reverse stack) c.loop-branch.left c.loop-branch.least walked (sym c.read.ensures.head ∙ c.in_default-read.is))

pub read_branches-requires-clause-parent : goal.read_branches-requires-clause-parent
read_branches-requires-clause-parent c =
    let image = bytes_of c.args.image in
    let trie = bytes_of c.args.trie in
    let stack = c.pop.new.self.items in
    let branch = c.in-Some.branch in
    let next = next_is c.loop-branch.waiting.items stack branch c.in-Some.ensures.items in
    let walked = subst (λ (w : List Branch). IsWalkedTo image trie c.args.names.now c.args.base c.loop-branch.left w c.loop-branch.least) next c.loop-branch.invariant in
    next_of_branch image trie c.args.names.now c.args.base c.requires.names branch (reverse stack) c.loop-branch.left c.loop-branch.least walked

pub returns-in_default-2 : goal.returns-in_default-2
returns-in_default-2 c =
    let image = bytes_of c.args.image in
    let trie = bytes_of c.args.trie in
    let stack = c.pop.new.self.items in
    let branch = c.in-Some.branch in
    let next = next_is c.loop-branch.waiting.items stack branch c.in-Some.ensures.items in
    let walked = subst (λ (w : List Branch). IsWalkedTo image trie c.args.names.now c.args.base c.loop-branch.left w c.loop-branch.least) next c.loop-branch.invariant in
    absurd (next_edges image trie c.args.names.now c.args.base c.requires.names branch (reverse stack) c.loop-branch.left c.loop-branch.least walked
    c.in-Some-read.node (sym c.read.ensures.head ∙ c.in-Some-read.is) c.read_branches.new.branches.items
    (subst (AreBranchesOf image trie c.args.names.now branch c.in-Some-read.node c.read_branches.new.branches.items) c.in_default-2.is c.in_ok-end.ensures))

pub overflow_sub-end : goal.overflow_sub-end
overflow_sub-end c =
    let image = bytes_of c.args.image in
    let trie = bytes_of c.args.trie in
    let stack = c.pop.new.self.items in
    let branch = c.in-Some.branch in
    let next = next_is c.loop-branch.waiting.items stack branch c.in-Some.ensures.items in
    let walked = subst (λ (w : List Branch). IsWalkedTo image trie c.args.names.now c.args.base c.loop-branch.left w c.loop-branch.least) next c.loop-branch.invariant in
    let fits = next_fits image trie c.args.names.now c.args.base c.requires.names branch (reverse stack) c.loop-branch.left c.loop-branch.least walked
    c.in-Some-read.node (sym c.read.ensures.head ∙ c.in-Some-read.is) c.read_branches.new.branches.items c.in-Some-2.end
    (subst (AreBranchesOf image trie c.args.names.now branch c.in-Some-read.node c.read_branches.new.branches.items) c.in-Some-2.is c.in_ok-end.ensures) in
    let begins = fits.0 in
    omega (arith, begins)

pub returns-in_default-checked_sub : goal.returns-in_default-checked_sub
returns-in_default-checked_sub c =
    let image = bytes_of c.args.image in
    let trie = bytes_of c.args.trie in
    let stack = c.pop.new.self.items in
    let branch = c.in-Some.branch in
    let next = next_is c.loop-branch.waiting.items stack branch c.in-Some.ensures.items in
    let walked = subst (λ (w : List Branch). IsWalkedTo image trie c.args.names.now c.args.base c.loop-branch.left w c.loop-branch.least) next c.loop-branch.invariant in
    let fits = next_fits image trie c.args.names.now c.args.base c.requires.names branch (reverse stack) c.loop-branch.left c.loop-branch.least walked
    c.in-Some-read.node (sym c.read.ensures.head ∙ c.in-Some-read.is) c.read_branches.new.branches.items c.in-Some-2.end
    (subst (AreBranchesOf image trie c.args.names.now branch c.in-Some-read.node c.read_branches.new.branches.items) c.in-Some-2.is c.in_ok-end.ensures) in
    let size = c.in-Some-2.end - branch.place in
    absurd (subst (λ (o : Option ℕ). SomeIff o (size ≤ c.loop-branch.left) (c.loop-branch.left - size)) c.in_default-checked_sub.is c.checked_sub.ensures fits.1)

pub least_ending-here-requires-clause-branch : goal.least_ending-here-requires-clause-branch
least_ending-here-requires-clause-branch c =
    let image = bytes_of c.args.image in
    let trie = bytes_of c.args.trie in
    let stack = c.pop.new.self.items in
    let branch = c.in-Some.branch in
    let next = next_is c.loop-branch.waiting.items stack branch c.in-Some.ensures.items in
    let walked = subst (λ (w : List Branch). IsWalkedTo image trie c.args.names.now c.args.base c.loop-branch.left w c.loop-branch.least) next c.loop-branch.invariant in
    next_of_branch image trie c.args.names.now c.args.base c.requires.names branch (reverse stack) c.loop-branch.left c.loop-branch.least walked

pub loop-branch-smaller : goal.loop-branch-smaller
loop-branch-smaller c =
    let image = bytes_of c.args.image in
    let trie = bytes_of c.args.trie in
    let stack = c.pop.new.self.items in
    let branch = c.in-Some.branch in
    let next = next_is c.loop-branch.waiting.items stack branch c.in-Some.ensures.items in
    let walked = subst (λ (w : List Branch). IsWalkedTo image trie c.args.names.now c.args.base c.loop-branch.left w c.loop-branch.least) next c.loop-branch.invariant in
    let fits = next_fits image trie c.args.names.now c.args.base c.requires.names branch (reverse stack) c.loop-branch.left c.loop-branch.least walked
    c.in-Some-read.node (sym c.read.ensures.head ∙ c.in-Some-read.is) c.read_branches.new.branches.items c.in-Some-2.end
    (subst (AreBranchesOf image trie c.args.names.now branch c.in-Some-read.node c.read_branches.new.branches.items) c.in-Some-2.is c.in_ok-end.ensures) in
    let begins = fits.0 in
    omega (arith, begins)

pub loop-branch-preserved : goal.loop-branch-preserved
loop-branch-preserved c =
    let image = bytes_of c.args.image in
    let trie = bytes_of c.args.trie in
    let stack = c.pop.new.self.items in
    let fresh = c.read_branches.new.branches.items in
    let branch = c.in-Some.branch in
    let next = next_is c.loop-branch.waiting.items stack branch c.in-Some.ensures.items in
    let walked = subst (λ (w : List Branch). IsWalkedTo image trie c.args.names.now c.args.base c.loop-branch.left w c.loop-branch.least) next c.loop-branch.invariant in
    let more = next_walked image trie c.args.names.now c.args.base c.requires.names branch (reverse stack) c.loop-branch.left c.loop-branch.least walked
    c.in-Some-read.node (sym c.read.ensures.head ∙ c.in-Some-read.is) fresh c.in-Some-2.end
    (subst (AreBranchesOf image trie c.args.names.now branch c.in-Some-read.node fresh) c.in-Some-2.is c.in_ok-end.ensures)
    c.least_ending-here.result c.least_ending-here.ensures c.in-Some-checked_sub.rest (omega arith) in
    let added : c.extend_from_slice.new.self.items ≡ stack ++ reverse fresh =
    c.in_ok-extend_from_slice.ensures.items ∙ ap (λ (bs : List Branch). stack ++ bs) (c.deref.ensures.value ∙ c.reverse.ensures.items) in
    let waits : reverse c.extend_from_slice.new.self.items ≡ fresh ++ reverse stack =
    ap reverse added ∙ (reverse-append stack (reverse fresh) ∙ ap (λ (bs : List Branch). bs ++ reverse stack) (reverse-reverse fresh)) in
    subst (λ (w : List Branch). IsWalkedTo image trie c.args.names.now c.args.base c.in-Some-checked_sub.rest w c.lesser-least.result) (sym waits)
    (subst (IsWalkedTo image trie c.args.names.now c.args.base c.in-Some-checked_sub.rest (fresh ++ reverse stack)) (sym c.lesser-least.ensures) more)

pub returns : goal.returns
returns c =
    let image = bytes_of c.args.image in
    let trie = bytes_of c.args.trie in
    let none : reverse c.loop-branch.waiting.items ≡ [] = ap reverse (empty c.loop-branch.waiting.items (sym c.loop-branch.waiting.ok.0 ∙ c.in_default.ensures.cases.0)) in
    walked_all image trie c.args.names.now c.args.base c.requires.names c.loop-branch.left c.loop-branch.least
    (subst (λ (w : List Branch). IsWalkedTo image trie c.args.names.now c.args.base c.loop-branch.left w c.loop-branch.least) none c.loop-branch.invariant)
