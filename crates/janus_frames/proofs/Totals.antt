-- What is counted of all names: as one value changes, and as a call is entered and left.
use Rattle.std.proofs.Common.{◌≡◌, ℕ, zero, ◌+◌, List, [], ◌∷◌, length, refl, ap, ◌∙◌, arith}
use Rattle.janus_meaning.specs.Fault.{Fine}
use Rattle.janus_meaning.specs.Syntax.{Name}
use Rattle.janus_meaning.specs.Store.{Val, Num, Arr, Stk, Lent, Store, Bare, Slot, take, put, unbind, total, held_by}
use Rattle.janus_meaning.specs.World.{stacks_in, stacks_with}
use Rattle.janus_meaning.proofs.Results.{after}
use Rattle.janus_meaning.proofs.Stores.{take_total, put_total, pull_total, fill_total, bind_total, unbind_total}
use Rattle.janus_frames.specs.Cells.{parameters}
use Rattle.janus_frames.specs.Calls.{Caller, CanLend, Enters, Returns, stacks_lent, values_lent}
use Rattle.janus_frames.specs.FramesState.{FramesState, stacks_there, values_there}
use Rattle.janus_frames.specs.Stores.{write}

-- whether a value is a stack
abbrev pub one_stack : Val → ℕ
one_stack v = stacks_with v 0

abbrev pub lent_total : (Val → ℕ) → List Caller → ℕ
lent_total count [] = 0
lent_total count (c ∷ cs) = total count c.store + lent_total count cs

more_stacks : (v : Val) (k : ℕ) → stacks_with v k ≡ stacks_with v 0 + k
more_stacks (Num n) k = omega arith
more_stacks (Arr l) k = omega arith
more_stacks (Stk l) k = omega arith
more_stacks Lent k = omega arith

pub stacks-total : (s : Store) → stacks_in s ≡ total one_stack s
stacks-total Bare = refl
stacks-total (Slot x v s) = more_stacks v (stacks_in s) ∙ ap (λ n. stacks_with v 0 + n) (stacks-total s)

pub stacks-lent : (cs : List Caller) → stacks_lent cs ≡ lent_total one_stack cs
stacks-lent [] = refl
stacks-lent (c ∷ cs) = let a = stacks-total c.store in let b = stacks-lent cs in omega (arith, a, b)

pub values-lent : (cs : List Caller) → values_lent cs ≡ lent_total held_by cs
values-lent [] = refl
values-lent (c ∷ cs) = let b = values-lent cs in omega (arith, b)

module _ (count : Val → ℕ) (lent : count Lent ≡ zero) where
  -- a name has another value
  pub written-total : (x : Name) (v u : Val) (s t : Store) → write x v s ≡ Fine t → ((p : Val × Store) → take x s ≡ Fine p → p.0 ≡ u)
      → total count t + count u ≡ total count s + count v
  written-total x v u s t h f =
      let p = after (take x s) (λ q. put x v q.1) t h in
      let a = take_total count lent x s p.0 p.1 in
      let b = put_total count lent x v p.0.1 t p.2 in
      let e : count p.0.0 ≡ count u = ap count (f p.0 p.1) in
      omega (arith, a, b, e)

  pub entered-total : (xs : List Name) (s inside : Store) (cs behind : List Caller) → CanLend xs s → Enters xs s cs inside behind
      → total count inside + lent_total count behind ≡ total count s + lent_total count cs
  entered-total xs s inside cs behind can h =
      let e = h can.0 can.1 in
      let p = pull_total count lent xs s can.0 can.1 in
      let b = bind_total count (parameters (length xs)) can.0.0 inside e.0 in
      let l : lent_total count behind ≡ total count can.0.1 + lent_total count cs = ap (lent_total count) e.1 in
      omega (arith, p, b, l)

  pub left-total : (c : Caller) (cs behind : List Caller) (s back : Store) (vs : List Val) → unbind (parameters (length c.args)) s ≡ Fine vs
      → Returns (c ∷ cs) s back behind → total count back + lent_total count behind ≡ total count s + lent_total count (c ∷ cs)
  left-total c cs behind s back vs u h =
      let f = fill_total count lent c.args vs c.store back (h.1 vs u) in
      let b = unbind_total count (parameters (length c.args)) s vs u in
      let l : lent_total count behind ≡ lent_total count cs = ap (lent_total count) h.0 in
      omega (arith, f, b, l)

-- what is counted of frames
pub stacks-all : (h : FramesState) → stacks_there h ≡ total one_stack h.slots + lent_total one_stack h.callers
stacks-all h = let a = stacks-total h.slots in let b = stacks-lent h.callers in omega (arith, a, b)

pub values-all : (h : FramesState) → values_there h ≡ total held_by h.slots + lent_total held_by h.callers
values-all h = let b = values-lent h.callers in omega (arith, b)
