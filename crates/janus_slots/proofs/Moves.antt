-- The first step of a statement and the step at the end of a block: with slots they lead to the same.
use Rattle.std.proofs.Common.{◌≡◌, ℕ, ◌+◌, List, [], ◌∷◌, length, refl, ap, ◌∙◌, sym, subst, ℤ, pos}
use Rattle.std.specs.Ordering.{int_eq}
use Rattle.janus_meaning.specs.Fault.{Res, Fine, Bad, Broken, DelocalMismatch, FiAssertion, EntryAssertion, LoopAssertion, and_then, guard}
use Rattle.janus_meaning.specs.Limit.{Limits}
use Rattle.janus_meaning.specs.Word.{Update, changed}
use Rattle.janus_meaning.specs.Syntax.{Name, Exp, Stm, Blk, Do, Skip, Set, SetAt, Push, Pop, Swap, Branch, If, From, Local, LocalInt, LocalStack, Call, Proc}
use Rattle.janus_meaning.specs.Syntax.{names_of, facing}
use Rattle.janus_meaning.specs.Store.{Val, Num, Arr, Stk, Lent, Store, Bare, Slot, take, put, number, array, stack, element}
use Rattle.janus_meaning.specs.Store.{set_element, pull, fill, bind, unbind, find, held_in}
use Rattle.janus_meaning.specs.Value.{value, test}
use Rattle.janus_meaning.specs.Outside.{Outside}
use Rattle.janus_meaning.specs.Moves.{Hole, InFirst, InSecond, InLocal, InCall, Move, Over, Into, room, stack_room, value_room, choose, done, begin, leave}
use Rattle.janus_meaning.specs.Moves.{enter_call, leave_call, assign, assign_at, push, pop, must_be_zero, uncons, number_at, set_number, swap, drop_int}
use Rattle.janus_meaning.specs.Moves.{drop_int_slot, drop_stack, drop_stack_slot}
use Rattle.janus_meaning.proofs.Results.{with_parts}
use Rattle.janus_slots.specs.Slots.{slot, slot_in, slots_in, exp_in, number_in, stm_in, block_in, stacked, procedure_in, procedures_in, names_in}
use Rattle.janus_slots.specs.Slots.{in_slots, outside_in}
use Rattle.janus_slots.specs.Places.{parameters_of, sight_inside, hole_in}
use Rattle.janus_slots.specs.Law.{AreListed}
use Rattle.janus_slots.proofs.Results.{res_in, then_in, same_then, choose_in}
use Rattle.janus_slots.proofs.Stores.{beside, look_in, take_in, take_names, put_in, put_names, pull_in, fill_in, bind_in, unbind_in, find_in}
use Rattle.janus_slots.proofs.Stores.{head_same, tail_is, slots_same}
use Rattle.janus_slots.proofs.Whole.{held_same}
use Rattle.janus_slots.proofs.Values.{value_in, test_in}
use Rattle.janus_slots.proofs.Trees.{facing_in}

-- ---- assignment, push, pop and swap

module _ (g : List Name) where
  with_number_in : (x : Name) (s : Store) (next : ℤ → Store → Res Store) (onward : ℤ → Store → Res Store) → names_in s ≡ g
      → ((n : ℤ) (t : Store) → names_in t ≡ g → onward n (in_slots t) ≡ res_in in_slots (next n t))
      → and_then (take (slot_in g x) (in_slots s)) (λ t. and_then (number t.0) (λ n. onward n t.1))
      ≡ res_in in_slots (and_then (take x s) (λ t. and_then (number t.0) (λ n. next n t.1)))
  with_number_in x s next onward k h =
      then_in beside in_slots (take x s) (take (slot_in g x) (in_slots s)) (λ t. and_then (number t.0) (λ n. next n t.1))
      (λ t. and_then (number t.0) (λ n. onward n t.1)) (take_in g x s k) (λ t ht.
      same_then in_slots (number t.0) (number t.0) (λ n. next n t.1) (λ n. onward n (in_slots t.1)) refl (λ n hn.
      h n t.1 (take_names x s t ht ∙ k)))

  with_stack_in : (x : Name) (s : Store) (next : List ℤ → Store → Res Store) (onward : List ℤ → Store → Res Store) → names_in s ≡ g
      → ((l : List ℤ) (t : Store) → names_in t ≡ g → onward l (in_slots t) ≡ res_in in_slots (next l t))
      → and_then (take (slot_in g x) (in_slots s)) (λ t. and_then (stack t.0) (λ l. onward l t.1))
      ≡ res_in in_slots (and_then (take x s) (λ t. and_then (stack t.0) (λ l. next l t.1)))
  with_stack_in x s next onward k h =
      then_in beside in_slots (take x s) (take (slot_in g x) (in_slots s)) (λ t. and_then (stack t.0) (λ l. next l t.1))
      (λ t. and_then (stack t.0) (λ l. onward l t.1)) (take_in g x s k) (λ t ht.
      same_then in_slots (stack t.0) (stack t.0) (λ l. next l t.1) (λ l. onward l (in_slots t.1)) refl (λ l hl.
      h l t.1 (take_names x s t ht ∙ k)))

  with_array_in : (x : Name) (s : Store) (next : List ℤ → Store → Res Store) (onward : List ℤ → Store → Res Store) → names_in s ≡ g
      → ((l : List ℤ) (t : Store) → names_in t ≡ g → onward l (in_slots t) ≡ res_in in_slots (next l t))
      → and_then (take (slot_in g x) (in_slots s)) (λ t. and_then (array t.0) (λ l. onward l t.1))
      ≡ res_in in_slots (and_then (take x s) (λ t. and_then (array t.0) (λ l. next l t.1)))
  with_array_in x s next onward k h =
      then_in beside in_slots (take x s) (take (slot_in g x) (in_slots s)) (λ t. and_then (array t.0) (λ l. next l t.1))
      (λ t. and_then (array t.0) (λ l. onward l t.1)) (take_in g x s k) (λ t ht.
      same_then in_slots (array t.0) (array t.0) (λ l. next l t.1) (λ l. onward l (in_slots t.1)) refl (λ l hl.
      h l t.1 (take_names x s t ht ∙ k)))

  -- a value, and what is made of it
  with_value_in : (e : Exp) (s : Store) (next onward : ℤ → Res Store) → names_in s ≡ g → ((w : ℤ) → onward w ≡ res_in in_slots (next w))
      → and_then (value (exp_in g e) (in_slots s)) onward ≡ res_in in_slots (and_then (value e s) next)
  with_value_in e s next onward k h =
      same_then in_slots (value e s) (value (exp_in g e) (in_slots s)) next onward (value_in s g k e) (λ w hw. h w)

  -- the same result, and what is made of it
  with_same : {A : Type 0} (r : Res A) (next onward : A → Res Store) → ((a : A) → onward a ≡ res_in in_slots (next a))
      → and_then r onward ≡ res_in in_slots (and_then r next)
  with_same r next onward h = same_then in_slots r r next onward refl (λ a ha. h a)

  with_put_in : (x : Name) (v : Val) (s : Store) (next onward : Store → Res Store) → names_in s ≡ g
      → ((t : Store) → names_in t ≡ g → onward (in_slots t) ≡ res_in in_slots (next t))
      → and_then (put (slot_in g x) v (in_slots s)) onward ≡ res_in in_slots (and_then (put x v s) next)
  with_put_in x v s next onward k h =
      then_in in_slots in_slots (put x v s) (put (slot_in g x) v (in_slots s)) next onward (put_in g x v s k) (λ t ht. h t (put_names x v s t ht ∙ k))

  assign_in : (x : Name) (o : Update) (e : Exp) (s : Store) → names_in s ≡ g
      → assign (slot_in g x) o (exp_in g e) (in_slots s) ≡ res_in in_slots (assign x o e s)
  assign_in x o e s k =
      with_number_in x s
      (λ n t. and_then (value e t) (λ w. put x (Num (changed o n w)) t))
      (λ n t. and_then (value (exp_in g e) t) (λ w. put (slot_in g x) (Num (changed o n w)) t)) k (λ n t j.
      with_value_in e t (λ w. put x (Num (changed o n w)) t) (λ w. put (slot_in g x) (Num (changed o n w)) (in_slots t)) j (λ w.
      put_in g x (Num (changed o n w)) t j))

  assign_at_in : (a : Name) (i : Exp) (o : Update) (e : Exp) (s : Store) → names_in s ≡ g
      → assign_at (slot_in g a) (exp_in g i) o (exp_in g e) (in_slots s) ≡ res_in in_slots (assign_at a i o e s)
  assign_at_in a i o e s k =
      with_array_in a s
      (λ l t. and_then (value i t) (λ j. and_then (element l j) (λ n. and_then (value e t) (λ w. put a (Arr (set_element l j (changed o n w))) t))))
      (λ l t. and_then (value (exp_in g i) t) (λ j. and_then (element l j)
      (λ n. and_then (value (exp_in g e) t) (λ w. put (slot_in g a) (Arr (set_element l j (changed o n w))) t)))) k (λ l t m.
      with_value_in i t
      (λ j. and_then (element l j) (λ n. and_then (value e t) (λ w. put a (Arr (set_element l j (changed o n w))) t)))
      (λ j. and_then (element l j) (λ n. and_then (value (exp_in g e) (in_slots t))
      (λ w. put (slot_in g a) (Arr (set_element l j (changed o n w))) (in_slots t)))) m (λ j.
      with_same (element l j)
      (λ n. and_then (value e t) (λ w. put a (Arr (set_element l j (changed o n w))) t))
      (λ n. and_then (value (exp_in g e) (in_slots t)) (λ w. put (slot_in g a) (Arr (set_element l j (changed o n w))) (in_slots t))) (λ n.
      with_value_in e t (λ w. put a (Arr (set_element l j (changed o n w))) t)
      (λ w. put (slot_in g a) (Arr (set_element l j (changed o n w))) (in_slots t)) m (λ w.
      put_in g a (Arr (set_element l j (changed o n w))) t m))))

  push_same : (limits : Limits) (all : ℕ) (x y : Name) (s : Store) → names_in s ≡ g
      → and_then (take (slot_in g x) (in_slots s)) (λ t. and_then (number t.0) (λ n. and_then (take (slot_in g y) t.1) (λ u. and_then (stack u.0) (λ l.
      and_then (value_room limits (length l) all) (λ ok. and_then (put (slot_in g y) (Stk (n ∷ l)) u.1) (λ r. put (slot_in g x) (Num (pos 0)) r))))))
      ≡ res_in in_slots (and_then (take x s) (λ t. and_then (number t.0) (λ n. and_then (take y t.1) (λ u. and_then (stack u.0) (λ l.
      and_then (value_room limits (length l) all) (λ ok. and_then (put y (Stk (n ∷ l)) u.1) (λ r. put x (Num (pos 0)) r)))))))
  push_same limits all x y s k =
      with_number_in x s
      (λ n t. and_then (take y t) (λ u. and_then (stack u.0)
      (λ l. and_then (value_room limits (length l) all) (λ ok. and_then (put y (Stk (n ∷ l)) u.1) (λ r. put x (Num (pos 0)) r)))))
      (λ n t. and_then (take (slot_in g y) t) (λ u. and_then (stack u.0)
      (λ l. and_then (value_room limits (length l) all) (λ ok. and_then (put (slot_in g y) (Stk (n ∷ l)) u.1) (λ r. put (slot_in g x) (Num (pos 0)) r)))))
      k (λ n t j.
      with_stack_in y t
      (λ l u. and_then (value_room limits (length l) all) (λ ok. and_then (put y (Stk (n ∷ l)) u) (λ r. put x (Num (pos 0)) r)))
      (λ l u. and_then (value_room limits (length l) all) (λ ok. and_then (put (slot_in g y) (Stk (n ∷ l)) u) (λ r. put (slot_in g x) (Num (pos 0)) r))) j
      (λ l u m.
      with_same (value_room limits (length l) all)
      (λ ok. and_then (put y (Stk (n ∷ l)) u) (λ r. put x (Num (pos 0)) r))
      (λ ok. and_then (put (slot_in g y) (Stk (n ∷ l)) (in_slots u)) (λ r. put (slot_in g x) (Num (pos 0)) r)) (λ ok.
      with_put_in y (Stk (n ∷ l)) u (λ r. put x (Num (pos 0)) r) (λ r. put (slot_in g x) (Num (pos 0)) r) m (λ r i.
      put_in g x (Num (pos 0)) r i))))

  push_in : (limits : Limits) (others : ℕ) (x y : Name) (s : Store) → names_in s ≡ g
      → push limits others (slot_in g x) (slot_in g y) (in_slots s) ≡ res_in in_slots (push limits others x y s)
  push_in limits others x y s k =
      ap (λ h. and_then (take (slot_in g x) (in_slots s)) (λ t. and_then (number t.0) (λ n. and_then (take (slot_in g y) t.1) (λ u. and_then (stack u.0) (λ l.
      and_then (value_room limits (length l) (others + h))
      (λ ok. and_then (put (slot_in g y) (Stk (n ∷ l)) u.1) (λ r. put (slot_in g x) (Num (pos 0)) r)))))))
      (held_same s)
      ∙ push_same limits (others + held_in s) x y s k

  pop_in : (x y : Name) (s : Store) → names_in s ≡ g → pop (slot_in g x) (slot_in g y) (in_slots s) ≡ res_in in_slots (pop x y s)
  pop_in x y s k =
      with_number_in x s
      (λ n t. and_then (must_be_zero n) (λ ok. and_then (take y t)
      (λ u. and_then (stack u.0) (λ l. and_then (uncons l) (λ c. and_then (put y (Stk c.1) u.1) (λ r. put x (Num c.0) r))))))
      (λ n t. and_then (must_be_zero n) (λ ok. and_then (take (slot_in g y) t)
      (λ u. and_then (stack u.0) (λ l. and_then (uncons l) (λ c. and_then (put (slot_in g y) (Stk c.1) u.1) (λ r. put (slot_in g x) (Num c.0) r))))))
      k (λ n t j.
      with_same (must_be_zero n)
      (λ ok. and_then (take y t) (λ u. and_then (stack u.0) (λ l. and_then (uncons l) (λ c. and_then (put y (Stk c.1) u.1) (λ r. put x (Num c.0) r)))))
      (λ ok. and_then (take (slot_in g y) (in_slots t))
      (λ u. and_then (stack u.0) (λ l. and_then (uncons l) (λ c. and_then (put (slot_in g y) (Stk c.1) u.1) (λ r. put (slot_in g x) (Num c.0) r))))) (λ ok.
      with_stack_in y t
      (λ l u. and_then (uncons l) (λ c. and_then (put y (Stk c.1) u) (λ r. put x (Num c.0) r)))
      (λ l u. and_then (uncons l) (λ c. and_then (put (slot_in g y) (Stk c.1) u) (λ r. put (slot_in g x) (Num c.0) r))) j (λ l u m.
      with_same (uncons l)
      (λ c. and_then (put y (Stk c.1) u) (λ r. put x (Num c.0) r))
      (λ c. and_then (put (slot_in g y) (Stk c.1) (in_slots u)) (λ r. put (slot_in g x) (Num c.0) r)) (λ c.
      with_put_in y (Stk c.1) u (λ r. put x (Num c.0) r) (λ r. put (slot_in g x) (Num c.0) r) m (λ r i.
      put_in g x (Num c.0) r i)))))

  number_at_in : (x : Name) (s : Store) → names_in s ≡ g → number_at (slot_in g x) (in_slots s) ≡ number_at x s
  number_at_in x s k = ap (λ r. and_then r number) (look_in g x s k)

  set_number_in : (x : Name) (m : ℤ) (s : Store) → names_in s ≡ g → set_number (slot_in g x) m (in_slots s) ≡ res_in in_slots (set_number x m s)
  set_number_in x m s k = with_number_in x s (λ n t. put x (Num m) t) (λ n t. put (slot_in g x) (Num m) t) k (λ n t j. put_in g x (Num m) t j)

  set_names : (x : Name) (m : ℤ) (s r : Store) → set_number x m s ≡ Fine r → names_in r ≡ names_in s
  set_names x m s r h =
      with_parts (take x s) (λ t. and_then (number t.0) (λ n. put x (Num m) t.1)) r h (λ t ht h1.
      with_parts (number t.0) (λ n. put x (Num m) t.1) r h1 (λ n hn h2.
      put_names x (Num m) t.1 r h2 ∙ take_names x s t ht))

  swap_in : (x y : Name) (s : Store) → names_in s ≡ g → swap (slot_in g x) (slot_in g y) (in_slots s) ≡ res_in in_slots (swap x y s)
  swap_in x y s k =
      same_then in_slots (number_at x s) (number_at (slot_in g x) (in_slots s))
      (λ n. and_then (number_at y s) (λ m. and_then (set_number x m s) (λ t. set_number y n t)))
      (λ n. and_then (number_at (slot_in g y) (in_slots s)) (λ m. and_then (set_number (slot_in g x) m (in_slots s)) (λ t. set_number (slot_in g y) n t)))
      (number_at_in x s k) (λ n hn.
      same_then in_slots (number_at y s) (number_at (slot_in g y) (in_slots s))
      (λ m. and_then (set_number x m s) (λ t. set_number y n t))
      (λ m. and_then (set_number (slot_in g x) m (in_slots s)) (λ t. set_number (slot_in g y) n t))
      (number_at_in y s k) (λ m hm.
      then_in in_slots in_slots (set_number x m s) (set_number (slot_in g x) m (in_slots s)) (λ t. set_number y n t) (λ t. set_number (slot_in g y) n t)
      (set_number_in x m s k) (λ t ht. set_number_in y n t (set_names x m s t ht ∙ k))))

-- ---- moves

abbrev pub move_in : List Name → List Proc → List Name → Move → Move
move_in es ps g (Over s) = Over (in_slots s)
move_in es ps g (Into b h s) = Into (block_in es (sight_inside ps h g) b) (hole_in es g h) (in_slots s)

-- a call's caller has the names that are in sight outside of the call
abbrev pub IsNamed : List Name → Hole → Type 0
IsNamed g (InFirst w a t b) = Unit {0}
IsNamed g (InSecond w a s b) = Unit {0}
IsNamed g (InLocal x (LocalInt a b)) = Unit {0}
IsNamed g (InLocal x LocalStack) = Unit {0}
IsNamed g (InCall w f xs c) = names_in c ≡ g

module _ (es : List Name) where
  done_in : (ps : List Proc) (g : List Name) (r q : Res Store) → q ≡ res_in in_slots r → done q ≡ res_in (move_in es ps g) (done r)
  done_in ps g r q e = then_in in_slots (move_in es ps g) r q (λ s. Fine (Over s)) (λ s. Fine (Over s)) e (λ s h. refl)

  call_in : (ps : List Proc) (g : List Name) (f : Name) (xs : List Name) (s : Store) (go : Blk → Store → Store → Move) (onward : Blk → Store → Store → Move)
      → AreListed es ps → names_in s ≡ g
      → ((p : Proc) (c t : Store) → find f ps ≡ Fine p
      → onward (block_in es (names_of p.params) p.body) (in_slots c) (in_slots t) ≡ move_in es ps g (go p.body c t))
      → enter_call (procedures_in es ps) (number_in es f) (slots_in g xs) (in_slots s) onward ≡ res_in (move_in es ps g) (enter_call ps f xs s go)
  call_in ps g f xs s go onward l k h =
      then_in (procedure_in es) (move_in es ps g) (find f ps) (find (number_in es f) (procedures_in es ps))
      (λ p. and_then (pull xs s) (λ t. and_then (bind (names_of p.params) t.0) (λ inside. Fine (go p.body t.1 inside))))
      (λ p. and_then (pull (slots_in g xs) (in_slots s)) (λ t. and_then (bind (names_of p.params) t.0) (λ inside. Fine (onward p.body t.1 inside))))
      (find_in es f ps l) (λ p hp.
      then_in beside (move_in es ps g) (pull xs s) (pull (slots_in g xs) (in_slots s))
      (λ t. and_then (bind (names_of p.params) t.0) (λ inside. Fine (go p.body t.1 inside)))
      (λ t. and_then (bind (names_of (stacked p.params)) t.0) (λ inside. Fine (onward (block_in es (names_of p.params) p.body) t.1 inside)))
      (pull_in g xs s k) (λ t ht.
      then_in in_slots (move_in es ps g) (bind (names_of p.params) t.0) (bind (names_of (stacked p.params)) t.0)
      (λ inside. Fine (go p.body t.1 inside))
      (λ inside. Fine (onward (block_in es (names_of p.params) p.body) (in_slots t.1) inside))
      (bind_in p.params t.0) (λ inside hi. ap Fine (h p t.1 inside hp))))

  begin_same : (out : Outside) (c : Stm) (s : Store) → AreListed es out.procedures
      → begin (outside_in es out) (stm_in es (names_in s) c) (in_slots s) ≡ res_in (move_in es out.procedures (names_in s)) (begin out c s)
  begin_same out (Do Skip) s l = refl
  begin_same out (Do (Set x o e)) s l = done_in out.procedures (names_in s) (assign x o e s) _ (assign_in (names_in s) x o e s refl)
  begin_same out (Do (SetAt a i o e)) s l = done_in out.procedures (names_in s) (assign_at a i o e s) _ (assign_at_in (names_in s) a i o e s refl)
  begin_same out (Do (Push x y)) s l = done_in out.procedures (names_in s) (push out.limits out.values x y s) _
      (push_in (names_in s) out.limits out.values x y s refl)
  begin_same out (Do (Pop x y)) s l = done_in out.procedures (names_in s) (pop x y s) _ (pop_in (names_in s) x y s refl)
  begin_same out (Do (Swap x y)) s l = done_in out.procedures (names_in s) (swap x y s) _ (swap_in (names_in s) x y s refl)
  begin_same out (Branch If a p q b) s l =
      let g : List Name = names_in s in
      same_then (move_in es out.procedures g) (room out.frames) (room out.frames)
      (λ ok. and_then (test a s) (λ v. choose v (Fine (Into p (InFirst If a q b) s)) (Fine (Into q (InSecond If a p b) s))))
      (λ ok. and_then (test (exp_in g a) (in_slots s)) (λ v. choose v
      (Fine (Into (block_in es g p) (InFirst If (exp_in g a) (block_in es g q) (exp_in g b)) (in_slots s)))
      (Fine (Into (block_in es g q) (InSecond If (exp_in g a) (block_in es g p) (exp_in g b)) (in_slots s)))))
      refl (λ ok hok.
      same_then (move_in es out.procedures g) (test a s) (test (exp_in g a) (in_slots s))
      (λ v. choose v (Fine (Into p (InFirst If a q b) s)) (Fine (Into q (InSecond If a p b) s)))
      (λ v. choose v
      (Fine (Into (block_in es g p) (InFirst If (exp_in g a) (block_in es g q) (exp_in g b)) (in_slots s)))
      (Fine (Into (block_in es g q) (InSecond If (exp_in g a) (block_in es g p) (exp_in g b)) (in_slots s))))
      (test_in s g refl a) (λ v hv.
      choose_in (move_in es out.procedures g) v (Fine (Into p (InFirst If a q b) s)) (Fine (Into q (InSecond If a p b) s)) _ _ refl refl))
  begin_same out (Branch From a p q b) s l =
      let g : List Name = names_in s in
      same_then (move_in es out.procedures g) (room out.frames) (room out.frames)
      (λ ok. and_then (test a s) (λ v. choose v (Fine (Into p (InFirst From a q b) s)) (Bad EntryAssertion)))
      (λ ok. and_then (test (exp_in g a) (in_slots s)) (λ v. choose v
      (Fine (Into (block_in es g p) (InFirst From (exp_in g a) (block_in es g q) (exp_in g b)) (in_slots s)))
      (Bad EntryAssertion)))
      refl (λ ok hok.
      same_then (move_in es out.procedures g) (test a s) (test (exp_in g a) (in_slots s))
      (λ v. choose v (Fine (Into p (InFirst From a q b) s)) (Bad EntryAssertion))
      (λ v. choose v
      (Fine (Into (block_in es g p) (InFirst From (exp_in g a) (block_in es g q) (exp_in g b)) (in_slots s)))
      (Bad EntryAssertion))
      (test_in s g refl a) (λ v hv.
      choose_in (move_in es out.procedures g) v (Fine (Into p (InFirst From a q b) s)) (Bad EntryAssertion) _ _ refl refl))
  begin_same out (Local x (LocalInt a b) p) s l =
      let g : List Name = names_in s in
      same_then (move_in es out.procedures g) (room out.frames) (room out.frames)
      (λ ok. and_then (value a s) (λ v. Fine (Into p (InLocal x (LocalInt a b)) (Slot x (Num v) s))))
      (λ ok. and_then (value (exp_in g a) (in_slots s))
      (λ v. Fine (Into (block_in es (x ∷ g) p) (InLocal (slot (length g)) (LocalInt (exp_in g a) (exp_in g b))) (Slot (slot (length g)) (Num v) (in_slots s)))))
      refl (λ ok hok.
      same_then (move_in es out.procedures g) (value a s) (value (exp_in g a) (in_slots s))
      (λ v. Fine (Into p (InLocal x (LocalInt a b)) (Slot x (Num v) s)))
      (λ v. Fine (Into (block_in es (x ∷ g) p) (InLocal (slot (length g)) (LocalInt (exp_in g a) (exp_in g b))) (Slot (slot (length g)) (Num v) (in_slots s))))
      (value_in s g refl a) (λ v hv. refl))
  begin_same out (Local x LocalStack p) s l =
      let g : List Name = names_in s in
      same_then (move_in es out.procedures g) (room out.frames) (room out.frames)
      (λ ok. and_then (stack_room out.stacks) (λ ok. Fine (Into p (InLocal x LocalStack) (Slot x (Stk []) s))))
      (λ ok. and_then (stack_room out.stacks) (λ ok. Fine
      (Into (block_in es (x ∷ g) p) (InLocal (slot (length g)) LocalStack) (Slot (slot (length g)) (Stk []) (in_slots s)))))
      refl (λ ok hok.
      same_then (move_in es out.procedures g) (stack_room out.stacks) (stack_room out.stacks)
      (λ ok. Fine (Into p (InLocal x LocalStack) (Slot x (Stk []) s)))
      (λ ok. Fine (Into (block_in es (x ∷ g) p) (InLocal (slot (length g)) LocalStack) (Slot (slot (length g)) (Stk []) (in_slots s))))
      refl (λ ok hs. refl))
  begin_same out (Call w f xs) s l =
      let g : List Name = names_in s in
      same_then (move_in es out.procedures g) (room out.frames) (room out.frames)
      (λ ok. enter_call out.procedures f xs s (λ body caller inside. Into (facing w body) (InCall w f xs caller) inside))
      (λ ok. enter_call (procedures_in es out.procedures) (number_in es f) (slots_in g xs) (in_slots s)
      (λ body caller inside. Into (facing w body) (InCall w (number_in es f) (slots_in g xs) caller) inside))
      refl (λ ok hok.
      call_in out.procedures g f xs s (λ body caller inside. Into (facing w body) (InCall w f xs caller) inside)
      (λ body caller inside. Into (facing w body) (InCall w (number_in es f) (slots_in g xs) caller) inside) l refl (λ p c t hp.
      ap (λ b. Into b (InCall w (number_in es f) (slots_in g xs) (in_slots c)) (in_slots t)) (facing_in es (names_of p.params) w p.body)
      ∙ ap (λ (r : Res Proc). Into (block_in es (parameters_of r) (facing w p.body)) (InCall w (number_in es f) (slots_in g xs) (in_slots c))
      (in_slots t)) (sym hp)))

  -- the first step of a statement
  pub begin_in : (out : Outside) (g : List Name) (c : Stm) (s : Store) → AreListed es out.procedures → names_in s ≡ g
      → begin (outside_in es out) (stm_in es g c) (in_slots s) ≡ res_in (move_in es out.procedures g) (begin out c s)
  begin_in out g c s l k =
      subst (λ g. begin (outside_in es out) (stm_in es g c) (in_slots s) ≡ res_in (move_in es out.procedures g) (begin out c s)) k (begin_same out c s l)

  -- ---- the ends of locals and calls

  drop_int_slot_in : (g : List Name) (b : Exp) (v : Val) (s : Store) → names_in s ≡ g
      → drop_int_slot (exp_in g b) v (in_slots s) ≡ res_in in_slots (drop_int_slot b v s)
  drop_int_slot_in g b (Num n) s k =
      same_then in_slots (value b s) (value (exp_in g b) (in_slots s)) (λ w. and_then (guard (int_eq n w) DelocalMismatch) (λ ok. Fine s))
      (λ w. and_then (guard (int_eq n w) DelocalMismatch) (λ ok. Fine (in_slots s))) (value_in s g k b) (λ w hw.
      same_then in_slots (guard (int_eq n w) DelocalMismatch) (guard (int_eq n w) DelocalMismatch) (λ ok. Fine s) (λ ok. Fine (in_slots s)) refl
      (λ ok hok. refl))
  drop_int_slot_in g b (Arr l) s k = refl
  drop_int_slot_in g b (Stk l) s k = refl
  drop_int_slot_in g b Lent s k = refl

  drop_int_in : (g : List Name) (x : Name) (b : Exp) (s : Store) → names_in s ≡ x ∷ g
      → drop_int (slot (length g)) (exp_in g b) (in_slots s) ≡ res_in in_slots (drop_int x b s)
  drop_int_in g x b Bare k = refl
  drop_int_in g x b (Slot y v s) k =
      let t : names_in s ≡ g = tail_is y x (names_in s) g k in
      ap (λ q. and_then (guard q Broken) (λ ok. drop_int_slot (exp_in g b) v (in_slots s))) (slots_same (length (names_in s)) (length g) (ap length t))
      ∙ drop_int_slot_in g b v s t
      ∙ sym (ap (λ q. res_in in_slots (and_then (guard q Broken) (λ ok. drop_int_slot b v s))) (head_same y x (names_in s) g k))

  drop_stack_slot_in : (v : Val) (s : Store) → drop_stack_slot v (in_slots s) ≡ res_in in_slots (drop_stack_slot v s)
  drop_stack_slot_in (Num n) s = refl
  drop_stack_slot_in (Arr l) s = refl
  drop_stack_slot_in (Stk []) s = refl
  drop_stack_slot_in (Stk (n ∷ l)) s = refl
  drop_stack_slot_in Lent s = refl

  drop_stack_in : (g : List Name) (x : Name) (s : Store) → names_in s ≡ x ∷ g → drop_stack (slot (length g)) (in_slots s) ≡ res_in in_slots (drop_stack x s)
  drop_stack_in g x Bare k = refl
  drop_stack_in g x (Slot y v s) k =
      let t : names_in s ≡ g = tail_is y x (names_in s) g k in
      ap (λ q. and_then (guard q Broken) (λ ok. drop_stack_slot v (in_slots s))) (slots_same (length (names_in s)) (length g) (ap length t))
      ∙ drop_stack_slot_in v s
      ∙ sym (ap (λ q. res_in in_slots (and_then (guard q Broken) (λ ok. drop_stack_slot v s))) (head_same y x (names_in s) g k))

  leave_call_in : (ps : List Proc) (g : List Name) (f : Name) (xs : List Name) (c s : Store) → AreListed es ps → names_in s ≡ parameters_of (find f ps)
      → names_in c ≡ g
      → leave_call (procedures_in es ps) (number_in es f) (slots_in g xs) (in_slots c) (in_slots s) ≡ res_in in_slots (leave_call ps f xs c s)
  leave_call_in ps g f xs c s l k kc =
      then_in (procedure_in es) in_slots (find f ps) (find (number_in es f) (procedures_in es ps))
      (λ p. and_then (unbind (names_of p.params) s) (λ vs. fill xs vs c))
      (λ p. and_then (unbind (names_of p.params) (in_slots s)) (λ vs. fill (slots_in g xs) vs (in_slots c)))
      (find_in es f ps l) (λ p hp.
      same_then in_slots (unbind (names_of p.params) s) (unbind (names_of (stacked p.params)) (in_slots s))
      (λ vs. fill xs vs c) (λ vs. fill (slots_in g xs) vs (in_slots c))
      (unbind_in p.params s (k ∙ ap parameters_of hp)) (λ vs hvs. fill_in g xs vs c kc))

  -- the step at the end of a block
  pub leave_in : (ps : List Proc) (g : List Name) (h : Hole) (b : Blk) (s : Store) → AreListed es ps → names_in s ≡ sight_inside ps h g → IsNamed g h
      → leave (procedures_in es ps) (hole_in es g h) (block_in es (sight_inside ps h g) b) (in_slots s) ≡ res_in (move_in es ps g) (leave ps h b s)
  leave_in ps g (InFirst If a q b) p s l k n =
      same_then (move_in es ps g) (test b s) (test (exp_in g b) (in_slots s)) (λ v. choose v (Fine (Over s)) (Bad FiAssertion))
      (λ v. choose v (Fine (Over (in_slots s))) (Bad FiAssertion))
      (test_in s g k b) (λ v hv. choose_in (move_in es ps g) v (Fine (Over s)) (Bad FiAssertion) _ _ refl refl)
  leave_in ps g (InSecond If a p b) q s l k n =
      same_then (move_in es ps g) (test b s) (test (exp_in g b) (in_slots s)) (λ v. choose v (Bad FiAssertion) (Fine (Over s)))
      (λ v. choose v (Bad FiAssertion) (Fine (Over (in_slots s))))
      (test_in s g k b) (λ v hv. choose_in (move_in es ps g) v (Bad FiAssertion) (Fine (Over s)) _ _ refl refl)
  leave_in ps g (InFirst From a q b) p s l k n =
      same_then (move_in es ps g) (test b s) (test (exp_in g b) (in_slots s)) (λ v. choose v (Fine (Over s)) (Fine (Into q (InSecond From a p b) s)))
      (λ v. choose v (Fine (Over (in_slots s))) (Fine (Into (block_in es g q) (InSecond From (exp_in g a) (block_in es g p) (exp_in g b)) (in_slots s))))
      (test_in s g k b) (λ v hv. choose_in (move_in es ps g) v (Fine (Over s)) (Fine (Into q (InSecond From a p b) s)) _ _ refl refl)
  leave_in ps g (InSecond From a p b) q s l k n =
      same_then (move_in es ps g) (test a s) (test (exp_in g a) (in_slots s)) (λ v. choose v (Bad LoopAssertion) (Fine (Into p (InFirst From a q b) s)))
      (λ v. choose v (Bad LoopAssertion) (Fine (Into (block_in es g p) (InFirst From (exp_in g a) (block_in es g q) (exp_in g b)) (in_slots s))))
      (test_in s g k a) (λ v hv. choose_in (move_in es ps g) v (Bad LoopAssertion) (Fine (Into p (InFirst From a q b) s)) _ _ refl refl)
  leave_in ps g (InLocal x (LocalInt a b)) p s l k n = done_in ps g (drop_int x b s) _ (drop_int_in g x b s k)
  leave_in ps g (InLocal x LocalStack) p s l k n = done_in ps g (drop_stack x s) _ (drop_stack_in g x s k)
  leave_in ps g (InCall w f xs c) p s l k n = done_in ps g (leave_call ps f xs c s) _ (leave_call_in ps g f xs c s l k n)
