-- Reading, taking, putting and passing of values: with slots in place of names they do the same.
use Rattle.std.proofs.Common.{◌≡◌, ℕ, suc, List, [], ◌∷◌, length, cond, Bool, true, false, refl, ap, ◌∙◌, sym, arith}
use Rattle.janus_meaning.specs.Fault.{Res, Fine, Broken, and_then, guard}
use Rattle.janus_meaning.specs.Syntax.{Name, Proc, Kind, names_of}
use Rattle.janus_meaning.specs.Store.{Val, Num, Arr, Stk, Lent, Store, Bare, Slot, same_name, look, look_at, take, take_at, take_slot, put, put_at}
use Rattle.janus_meaning.specs.Store.{put_slot, pull, fill, bind, unbind, pick, find}
use Rattle.janus_meaning.proofs.Results.{with_parts, by_fine}
use Rattle.janus_meaning.proofs.Stores.{same_name_self, put-take, fill-pull}
use Rattle.janus_slots.specs.Slots.{slot, slot_in, slots_in, number_in, stacked, procedure_in, procedures_in, names_in, in_slots}
use Rattle.janus_slots.specs.Law.{AreListed}
use Rattle.janus_slots.proofs.Results.{res_in, then_in}
use Rattle.janus_slots.proofs.NamesInSight.{IsBelow, slot_in_below, numbers_same}

-- ---- reading

look_at_same : (b : Bool) (n : ℕ) (z : Name) (v : Val) (s : Store) (r : Res Val) → IsBelow n z → look z s ≡ r
    → look (cond b (slot n) z) (Slot (slot n) v s) ≡ look_at b v r
look_at_same true n z v s r h e = ap (λ b. look_at b v (look (slot n) s)) (same_name_self (slot n))
look_at_same false n z v s r h e = ap (λ b. look_at b v (look z s)) (h n (omega arith)) ∙ e

look_same : (x : Name) (s : Store) → look (slot_in (names_in s) x) (in_slots s) ≡ look x s
look_same x Bare = refl
look_same x (Slot y v s) =
    look_at_same (same_name x y) (length (names_in s)) (slot_in (names_in s) x) v (in_slots s) (look x s) (slot_in_below (names_in s) x) (look_same x s)

pub look_in : (g : List Name) (x : Name) (s : Store) → names_in s ≡ g → look (slot_in g x) (in_slots s) ≡ look x s
look_in g x s k = ap (λ g. look (slot_in g x) (in_slots s)) (sym k) ∙ look_same x s

-- ---- taking

-- what is taken, beside the rest in slots
abbrev pub beside : {A : Type 0} → A × Store → A × Store
beside t = (t.0, in_slots t.1)

take_slot_names : (y : Name) (v : Val) (s : Store) (t : Val × Store) → take_slot y v s ≡ Fine t → names_in t.1 ≡ y ∷ names_in s
take_slot_names y (Num n) s t h = by_fine (λ t. names_in t.1 ≡ y ∷ names_in s) _ t h refl
take_slot_names y (Arr l) s t h = by_fine (λ t. names_in t.1 ≡ y ∷ names_in s) _ t h refl
take_slot_names y (Stk l) s t h = by_fine (λ t. names_in t.1 ≡ y ∷ names_in s) _ t h refl
take_slot_names y Lent s t h = cc

take_at_names : (b : Bool) (x y : Name) (v : Val) (s : Store) (t : Val × Store) → ((t : Val × Store) → take x s ≡ Fine t → names_in t.1 ≡ names_in s)
    → take_at b y v s (take x s) ≡ Fine t → names_in t.1 ≡ y ∷ names_in s
take_at_names true x y v s t ih h = take_slot_names y v s t h
take_at_names false x y v s t ih h =
    with_parts (take x s) (λ t. Fine (t.0, Slot y v t.1)) t h
    (λ r e f. by_fine (λ t. names_in t.1 ≡ y ∷ names_in s) _ t f (ap (λ g. y ∷ g) (ih r e)))

-- the names stay
pub take_names : (x : Name) (s : Store) (t : Val × Store) → take x s ≡ Fine t → names_in t.1 ≡ names_in s
take_names x Bare t h = cc
take_names x (Slot y v s) t h = take_at_names (same_name x y) x y v s t (take_names x s) h

take_slot_same : (y : Name) (v : Val) (s : Store) → take_slot (slot (length (names_in s))) v (in_slots s) ≡ res_in beside (take_slot y v s)
take_slot_same y (Num n) s = refl
take_slot_same y (Arr l) s = refl
take_slot_same y (Stk l) s = refl
take_slot_same y Lent s = refl

take_at_same : (b : Bool) (x y : Name) (v : Val) (s : Store) → take (slot_in (names_in s) x) (in_slots s) ≡ res_in beside (take x s)
    → take (cond b (slot (length (names_in s))) (slot_in (names_in s) x)) (Slot (slot (length (names_in s))) v (in_slots s))
    ≡ res_in beside (take_at b y v s (take x s))
take_at_same true x y v s ih =
    let n : Name = slot (length (names_in s)) in
    ap (λ b. take_at b n v (in_slots s) (take n (in_slots s))) (same_name_self n) ∙ take_slot_same y v s
take_at_same false x y v s ih =
    let n : Name = slot (length (names_in s)) in
    let z : Name = slot_in (names_in s) x in
    ap (λ b. take_at b n v (in_slots s) (take z (in_slots s))) (slot_in_below (names_in s) x (length (names_in s)) (omega arith))
    ∙ then_in beside beside (take x s) (take z (in_slots s)) (λ t. Fine (t.0, Slot y v t.1)) (λ t. Fine (t.0, Slot n v t.1)) ih
    (λ t ht. ap (λ (g : List Name). Fine (t.0, Slot (slot (length g)) v (in_slots t.1))) (sym (take_names x s t ht)))

take_same : (x : Name) (s : Store) → take (slot_in (names_in s) x) (in_slots s) ≡ res_in beside (take x s)
take_same x Bare = refl
take_same x (Slot y v s) = take_at_same (same_name x y) x y v s (take_same x s)

pub take_in : (g : List Name) (x : Name) (s : Store) → names_in s ≡ g → take (slot_in g x) (in_slots s) ≡ res_in beside (take x s)
take_in g x s k = ap (λ g. take (slot_in g x) (in_slots s)) (sym k) ∙ take_same x s

-- ---- putting

pub put_names : (x : Name) (u : Val) (s t : Store) → put x u s ≡ Fine t → names_in t ≡ names_in s
put_names x u s t h = sym (take_names x t (u, s) (put-take x u s t h))

put_slot_same : (y : Name) (v : Val) (s : Store) (u : Val) → put_slot (slot (length (names_in s))) v (in_slots s) u ≡ res_in in_slots (put_slot y v s u)
put_slot_same y Lent s (Num n) = refl
put_slot_same y Lent s (Arr l) = refl
put_slot_same y Lent s (Stk l) = refl
put_slot_same y Lent s Lent = refl
put_slot_same y (Num n) s u = refl
put_slot_same y (Arr l) s u = refl
put_slot_same y (Stk l) s u = refl

put_at_same : (b : Bool) (x y : Name) (v : Val) (s : Store) (u : Val) → put (slot_in (names_in s) x) u (in_slots s) ≡ res_in in_slots (put x u s)
    → put (cond b (slot (length (names_in s))) (slot_in (names_in s) x)) u (Slot (slot (length (names_in s))) v (in_slots s))
    ≡ res_in in_slots (put_at b y v s u (put x u s))
put_at_same true x y v s u ih =
    let n : Name = slot (length (names_in s)) in
    ap (λ b. put_at b n v (in_slots s) u (put n u (in_slots s))) (same_name_self n) ∙ put_slot_same y v s u
put_at_same false x y v s u ih =
    let n : Name = slot (length (names_in s)) in
    let z : Name = slot_in (names_in s) x in
    ap (λ b. put_at b n v (in_slots s) u (put z u (in_slots s))) (slot_in_below (names_in s) x (length (names_in s)) (omega arith))
    ∙ then_in in_slots in_slots (put x u s) (put z u (in_slots s)) (λ t. Fine (Slot y v t)) (λ t. Fine (Slot n v t)) ih
    (λ t ht. ap (λ (g : List Name). Fine (Slot (slot (length g)) v (in_slots t))) (sym (put_names x u s t ht)))

put_same : (x : Name) (u : Val) (s : Store) → put (slot_in (names_in s) x) u (in_slots s) ≡ res_in in_slots (put x u s)
put_same x u Bare = refl
put_same x u (Slot y v s) = put_at_same (same_name x y) x y v s u (put_same x u s)

pub put_in : (g : List Name) (x : Name) (u : Val) (s : Store) → names_in s ≡ g → put (slot_in g x) u (in_slots s) ≡ res_in in_slots (put x u s)
put_in g x u s k = ap (λ g. put (slot_in g x) u (in_slots s)) (sym k) ∙ put_same x u s

-- ---- arguments

pub pull_names : (xs : List Name) (s : Store) (t : List Val × Store) → pull xs s ≡ Fine t → names_in t.1 ≡ names_in s
pull_names [] s t h = by_fine (λ t. names_in t.1 ≡ names_in s) _ t h refl
pull_names (x ∷ xs) s t h =
    with_parts (take x s) (λ t. and_then (pull xs t.1) (λ u. Fine (t.0 ∷ u.0, u.1))) t h (λ p e f.
    with_parts (pull xs p.1) (λ u. Fine (p.0 ∷ u.0, u.1)) t f (λ u i j.
    by_fine (λ t. names_in t.1 ≡ names_in s) _ t j (pull_names xs p.1 u i ∙ take_names x s p e)))

pub pull_in : (g xs : List Name) (s : Store) → names_in s ≡ g → pull (slots_in g xs) (in_slots s) ≡ res_in beside (pull xs s)
pull_in g [] s k = refl
pull_in g (x ∷ xs) s k =
    then_in beside beside (take x s) (take (slot_in g x) (in_slots s)) (λ t. and_then (pull xs t.1) (λ u. Fine (t.0 ∷ u.0, u.1)))
    (λ t. and_then (pull (slots_in g xs) t.1) (λ u. Fine (t.0 ∷ u.0, u.1))) (take_in g x s k) (λ t ht.
    then_in beside beside (pull xs t.1) (pull (slots_in g xs) (in_slots t.1)) (λ u. Fine (t.0 ∷ u.0, u.1)) (λ u. Fine (t.0 ∷ u.0, u.1))
    (pull_in g xs t.1 (take_names x s t ht ∙ k)) (λ u hu. refl))

pub fill_names : (xs : List Name) (vs : List Val) (s t : Store) → fill xs vs s ≡ Fine t → names_in t ≡ names_in s
fill_names xs vs s t h = sym (pull_names xs t (vs, s) (fill-pull xs vs s t h))

pub fill_in : (g xs : List Name) (vs : List Val) (s : Store) → names_in s ≡ g → fill (slots_in g xs) vs (in_slots s) ≡ res_in in_slots (fill xs vs s)
fill_in g [] [] s k = refl
fill_in g [] (v ∷ vs) s k = refl
fill_in g (x ∷ xs) [] s k = refl
fill_in g (x ∷ xs) (v ∷ vs) s k =
    then_in in_slots in_slots (fill xs vs s) (fill (slots_in g xs) vs (in_slots s)) (λ t. put x v t) (λ t. put (slot_in g x) v t) (fill_in g xs vs s k)
    (λ t ht. put_in g x v t (fill_names xs vs s t ht ∙ k))

-- ---- parameters

pub length_names : {A : Type 0} (l : List (Name × A)) → length (names_of l) ≡ length l
length_names [] = refl
length_names (e ∷ l) = ap suc (length_names l)

pub bind_names : (ps : List Name) (vs : List Val) (s : Store) → bind ps vs ≡ Fine s → names_in s ≡ ps
bind_names [] [] s h = by_fine (λ s. names_in s ≡ []) Bare s h refl
bind_names [] (v ∷ vs) s h = cc
bind_names (p ∷ ps) [] s h = cc
bind_names (p ∷ ps) (v ∷ vs) s h =
    with_parts (bind ps vs) (λ t. Fine (Slot p v t)) s h
    (λ t e f. by_fine (λ s. names_in s ≡ p ∷ ps) (Slot p v t) s f (ap (λ g. p ∷ g) (bind_names ps vs t e)))

pub bind_in : (l : List (Name × Kind)) (vs : List Val) → bind (names_of (stacked l)) vs ≡ res_in in_slots (bind (names_of l) vs)
bind_in [] [] = refl
bind_in [] (v ∷ vs) = refl
bind_in (e ∷ l) [] = refl
bind_in (e ∷ l) (v ∷ vs) =
    then_in in_slots in_slots (bind (names_of l) vs) (bind (names_of (stacked l)) vs) (λ t. Fine (Slot e.0 v t)) (λ t. Fine (Slot (slot (length l)) v t))
    (bind_in l vs)
    (λ t ht. ap (λ (n : ℕ). Fine (Slot (slot n) v (in_slots t))) (sym (ap length (bind_names (names_of l) vs t ht) ∙ length_names l)))

head_is : (x y : Name) (g h : List Name) → x ∷ g ≡ y ∷ h → x ≡ y
head_is x y g h e = cc

pub tail_is : (x y : Name) (g h : List Name) → x ∷ g ≡ y ∷ h → g ≡ h
tail_is x y g h e = cc

-- a name that stands first is the first one's
pub head_same : (x y : Name) (g h : List Name) → x ∷ g ≡ y ∷ h → same_name y x ≡ true
head_same x y g h e = ap (same_name y) (head_is x y g h e) ∙ same_name_self y

pub slots_same : (m n : ℕ) → m ≡ n → same_name (slot n) (slot m) ≡ true
slots_same m n e = ap (λ m. same_name (slot n) (slot m)) e ∙ same_name_self (slot n)

pub unbind_in : (l : List (Name × Kind)) (s : Store) → names_in s ≡ names_of l → unbind (names_of (stacked l)) (in_slots s) ≡ unbind (names_of l) s
unbind_in [] Bare k = refl
unbind_in [] (Slot y v s) k = refl
unbind_in (e ∷ l) Bare k = refl
unbind_in (e ∷ l) (Slot y v s) k =
    let t : names_in s ≡ names_of l = tail_is y e.0 (names_in s) (names_of l) k in
    ap (λ b. and_then (guard b Broken) (λ u. and_then (unbind (names_of (stacked l)) (in_slots s)) (λ vs. Fine (v ∷ vs))))
    (slots_same (length (names_in s)) (length l) (ap length t ∙ length_names l))
    ∙ ap (λ q. and_then q (λ vs. Fine (v ∷ vs))) (unbind_in l s t)
    ∙ sym (ap (λ b. and_then (guard b Broken) (λ u. and_then (unbind (names_of l) s) (λ vs. Fine (v ∷ vs)))) (head_same y e.0 (names_in s) (names_of l) k))

-- ---- procedures

pick_same : (es : List Name) (b : Bool) (p : Proc) (r q : Res Proc) → q ≡ res_in (procedure_in es) r
    → pick b (procedure_in es p) q ≡ res_in (procedure_in es) (pick b p r)
pick_same es true p r q e = refl
pick_same es false p r q e = e

pub find_in : (es : List Name) (f : Name) (ps : List Proc) → AreListed es ps
    → find (number_in es f) (procedures_in es ps) ≡ res_in (procedure_in es) (find f ps)
find_in es f [] h = refl
find_in es f (p ∷ ps) h =
    ap (λ b. pick b (procedure_in es p) (find (number_in es f) (procedures_in es ps))) (numbers_same es f p.name h.0)
    ∙ pick_same es (same_name f p.name) p (find f ps) (find (number_in es f) (procedures_in es ps)) (find_in es f ps h.1)
