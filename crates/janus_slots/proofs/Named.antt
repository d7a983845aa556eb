-- Every place that is reached has the names in its store that are in sight there, and every open call's caller those outside of the call.
use Rattle.std.proofs.Common.{◌≡◌, ℕ, zero, suc, List, [], ◌∷◌, refl, ap, ◌∙◌, sym, subst}
use Rattle.janus_meaning.specs.Fault.{Res, Fine, Bad, and_then}
use Rattle.janus_meaning.specs.Syntax.{Name, Stm, Blk, Nil, Cons, Do, Branch, If, From, Local, LocalInt, LocalStack, Call, Proc, names_of, facing}
use Rattle.janus_meaning.specs.Store.{Val, Num, Stk, Store, Slot, pull, fill, bind, unbind, find, cleared}
use Rattle.janus_meaning.specs.Value.{value, test}
use Rattle.janus_meaning.specs.Outside.{Outside}
use Rattle.janus_meaning.specs.Moves.{Hole, InFirst, InSecond, InLocal, InCall, rebuild, Move, Over, Into, room, stack_room, done, begin, leave, leave_call}
use Rattle.janus_meaning.specs.Moves.{drop_int, drop_stack}
use Rattle.janus_meaning.specs.Stepping.{Frame, Framed, Place, BeforeBlock, AfterBlock, BeforeOne, AfterOne, Next, To, End, Halt, gap, depth, beyond}
use Rattle.janus_meaning.specs.Stepping.{arrive, after_room, step, go_on, steps, frames_of}
use Rattle.janus_meaning.proofs.Results.{with_parts, by_fine}
use Rattle.janus_meaning.proofs.Local.{choose_is, done_is, dropped_int, dropped_stack}
use Rattle.janus_meaning.proofs.Shapes.{begin_keeps}
use Rattle.janus_slots.specs.Slots.{names_in}
use Rattle.janus_slots.specs.Places.{parameters_of, sight_inside, sight_at}
use Rattle.janus_slots.proofs.Stores.{pull_names, fill_names, bind_names, tail_is}
use Rattle.janus_slots.proofs.Whole.{names_cleared}
use Rattle.janus_slots.proofs.Moves.{IsNamed}

-- ---- one move

-- where a move leads from a store with the names g
abbrev pub MovesNamed : List Proc → List Name → Move → Type 0
MovesNamed ps g (Over r) = names_in r ≡ g
MovesNamed ps g (Into b h r) = (names_in r ≡ sight_inside ps h g) × IsNamed g h

same_names : (r s : Store) → cleared r ≡ cleared s → names_in r ≡ names_in s
same_names r s e = sym (names_cleared r) ∙ ap names_in e ∙ names_cleared s

-- a statement that opens nothing
over_named : (out : Outside) (c : Stm) (s : Store) (r : Res Store) (m : Move) → begin out c s ≡ done r → done r ≡ Fine m
    → MovesNamed out.procedures (names_in s) m
over_named out c s r m e h =
    done_is r m (MovesNamed out.procedures (names_in s)) h (λ t ht. same_names t s (begin_keeps out c s (Over t) (e ∙ ap done ht)))

call_named : (ps : List Proc) (f : Name) (xs : List Name) (s : Store) (p : Proc) (t : List Val × Store) (r : Store) → find f ps ≡ Fine p
    → pull xs s ≡ Fine t → bind (names_of p.params) t.0 ≡ Fine r
    → (names_in r ≡ parameters_of (find f ps)) × (names_in t.1 ≡ names_in s)
call_named ps f xs s p t r hp ht hr = (bind_names (names_of p.params) t.0 r hr ∙ sym (ap parameters_of hp), pull_names xs s t ht)

begin_named_same : (out : Outside) (c : Stm) (s : Store) (m : Move) → begin out c s ≡ Fine m → MovesNamed out.procedures (names_in s) m
begin_named_same out (Do k) s m h = over_named out (Do k) s _ m refl h
begin_named_same out (Branch If a p q b) s m h =
    with_parts (room out.frames) _ m h (λ u hu h1. with_parts (test a s) _ m h1 (λ v hv h2. choose_is v _ _ m (MovesNamed out.procedures (names_in s) m) h2
    (λ e h3. by_fine (MovesNamed out.procedures (names_in s)) (Into p (InFirst If a q b) s) m h3 (refl, tt))
    (λ e h3. by_fine (MovesNamed out.procedures (names_in s)) (Into q (InSecond If a p b) s) m h3 (refl, tt))))
begin_named_same out (Branch From a p q b) s m h =
    with_parts (room out.frames) _ m h (λ u hu h1. with_parts (test a s) _ m h1 (λ v hv h2. choose_is v _ _ m (MovesNamed out.procedures (names_in s) m) h2
    (λ e h3. by_fine (MovesNamed out.procedures (names_in s)) (Into p (InFirst From a q b) s) m h3 (refl, tt))
    (λ e h3. cc)))
begin_named_same out (Local x (LocalInt a b) p) s m h =
    with_parts (room out.frames) _ m h (λ u hu h1. with_parts (value a s) _ m h1 (λ v hv h2.
    by_fine (MovesNamed out.procedures (names_in s)) (Into p (InLocal x (LocalInt a b)) (Slot x (Num v) s)) m h2 (refl, tt)))
begin_named_same out (Local x LocalStack p) s m h =
    with_parts (room out.frames) _ m h (λ u hu h1. with_parts (stack_room out.stacks) _ m h1 (λ v hv h2.
    by_fine (MovesNamed out.procedures (names_in s)) (Into p (InLocal x LocalStack) (Slot x (Stk []) s)) m h2 (refl, tt)))
begin_named_same out (Call w f xs) s m h =
    with_parts (room out.frames) _ m h (λ u hu h1. with_parts (find f out.procedures) _ m h1
    (λ p hp h2. with_parts (pull xs s) _ m h2 (λ t ht h3. with_parts (bind (names_of p.params) t.0) _ m h3 (λ r hr h4.
    by_fine (MovesNamed out.procedures (names_in s)) (Into (facing w p.body) (InCall w f xs t.1) r) m h4
    (call_named out.procedures f xs s p t r hp ht hr)))))

begin_named : (out : Outside) (g : List Name) (c : Stm) (s : Store) (m : Move) → begin out c s ≡ Fine m → names_in s ≡ g → MovesNamed out.procedures g m
begin_named out g c s m h k = subst (λ g. MovesNamed out.procedures g m) k (begin_named_same out c s m h)

returned : (ps : List Proc) (f : Name) (xs : List Name) (c s r : Store) → leave_call ps f xs c s ≡ Fine r → names_in r ≡ names_in c
returned ps f xs c s r h =
    with_parts (find f ps) (λ p. and_then (unbind (names_of p.params) s) (λ vs. fill xs vs c)) r h (λ p hp h1.
    with_parts (unbind (names_of p.params) s) (λ vs. fill xs vs c) r h1 (λ vs hvs h2. fill_names xs vs c r h2))

leave_named : (ps : List Proc) (g : List Name) (h : Hole) (b : Blk) (s : Store) (m : Move) → leave ps h b s ≡ Fine m → names_in s ≡ sight_inside ps h g
    → IsNamed g h → MovesNamed ps g m
leave_named ps g (InFirst If a q b) p s m e k n =
    with_parts (test b s) _ m e (λ v hv h1. choose_is v _ _ m (MovesNamed ps g m) h1
    (λ w h2. by_fine (MovesNamed ps g) (Over s) m h2 k) (λ w h2. cc))
leave_named ps g (InSecond If a p b) q s m e k n =
    with_parts (test b s) _ m e (λ v hv h1. choose_is v _ _ m (MovesNamed ps g m) h1
    (λ w h2. cc) (λ w h2. by_fine (MovesNamed ps g) (Over s) m h2 k))
leave_named ps g (InFirst From a q b) p s m e k n =
    with_parts (test b s) _ m e (λ v hv h1. choose_is v _ _ m (MovesNamed ps g m) h1
    (λ w h2. by_fine (MovesNamed ps g) (Over s) m h2 k) (λ w h2. by_fine (MovesNamed ps g) (Into q (InSecond From a p b) s) m h2 (k, tt)))
leave_named ps g (InSecond From a p b) q s m e k n =
    with_parts (test a s) _ m e (λ v hv h1. choose_is v _ _ m (MovesNamed ps g m) h1
    (λ w h2. cc) (λ w h2. by_fine (MovesNamed ps g) (Into p (InFirst From a q b) s) m h2 (k, tt)))
leave_named ps g (InLocal x (LocalInt a b)) p s m e k n =
    done_is (drop_int x b s) m (MovesNamed ps g) e (λ r h.
    let w = dropped_int x b s r h in tail_is x x (names_in r) g (ap names_in w.2 ∙ k))
leave_named ps g (InLocal x LocalStack) p s m e k n =
    done_is (drop_stack x s) m (MovesNamed ps g) e (λ r h. tail_is x x (names_in r) g (ap names_in (dropped_stack x s r h) ∙ k))
leave_named ps g (InCall w f xs c) p s m e k n =
    done_is (leave_call ps f xs c s) m (MovesNamed ps g) e (λ r h. returned ps f xs c s r h ∙ n)

-- ---- places

module _ (ps : List Proc) (g : List Name) where
  abbrev pub AreNamed : List Frame → Type 0
  AreNamed [] = Unit {0}
  AreNamed (Framed h before after ∷ fs) = IsNamed (sight_at ps g fs) h × AreNamed fs

  -- what holds at a place with its store, where the names of g are in sight outside of all
  abbrev pub IsSound : List Frame → Store → Type 0
  IsSound fs s = (names_in s ≡ sight_at ps g fs) × AreNamed fs

  abbrev pub LeadsSound : Next → Type 0
  LeadsSound (To p s) = IsSound (frames_of p) s
  LeadsSound End = Unit {0}
  LeadsSound (Halt f) = Unit {0}

  gap_sound : (before after : Blk) (fs : List Frame) (s : Store) → IsSound fs s → IsSound (frames_of (gap before after fs)) s
  gap_sound before Nil fs s o = o
  gap_sound before (Cons c after) fs s o = o

  room_sound : (b : Blk) (fs : List Frame) (s : Store) (r : Res (Unit {0})) → IsSound fs s → LeadsSound (after_room b fs s r)
  room_sound b fs s (Fine u) o = gap_sound Nil b fs s o
  room_sound b fs s (Bad f) o = tt

  arrive_sound : (c : Stm) (before after : Blk) (fs : List Frame) (r : Res Move) → AreNamed fs
      → ((m : Move) → r ≡ Fine m → MovesNamed ps (sight_at ps g fs) m) → LeadsSound (arrive c before after fs r)
  arrive_sound c before after fs (Fine (Over s)) o h = (h (Over s) refl, o)
  arrive_sound c before after fs (Fine (Into b i s)) o h = let w = h (Into b i s) refl in (w.0, (w.1, o))
  arrive_sound c before after fs (Bad f) o h = tt

pub step_sound : (out : Outside) (g : List Name) (p : Place) (s : Store) → IsSound out.procedures g (frames_of p) s → LeadsSound out.procedures g (step out p s)
step_sound out g (BeforeBlock b fs) s o = room_sound out.procedures g b fs s (room (depth out.frames fs)) o
step_sound out g (AfterBlock b []) s o = tt
step_sound out g (AfterBlock b (Framed h before after ∷ fs)) s o =
    arrive_sound out.procedures g (rebuild h b) before after fs (leave out.procedures h b s) o.1.1
    (λ m e. leave_named out.procedures (sight_at out.procedures g fs) h b s m e o.0 o.1.0)
step_sound out g (BeforeOne c before after fs) s o =
    arrive_sound out.procedures g c before after fs (begin (beyond fs out) c s) o.1
    (λ m e. begin_named (beyond fs out) (sight_at out.procedures g fs) c s m e o.0)
step_sound out g (AfterOne c before after fs) s o = gap_sound out.procedures g (Cons c before) after fs s o

go_on_sound : (out : Outside) (g : List Name) (n : ℕ) (x : Next) → LeadsSound out.procedures g x
    → ((p : Place) (s : Store) → IsSound out.procedures g (frames_of p) s → LeadsSound out.procedures g (steps out n p s))
    → LeadsSound out.procedures g (go_on x (steps out n))
go_on_sound out g n (To p s) o h = h p s o
go_on_sound out g n End o h = tt
go_on_sound out g n (Halt f) o h = tt

pub steps_sound : (out : Outside) (g : List Name) (n : ℕ) (p : Place) (s : Store) → IsSound out.procedures g (frames_of p) s
    → LeadsSound out.procedures g (steps out n p s)
steps_sound out g zero p s o = o
steps_sound out g (suc n) p s o = go_on_sound out g n (step out p s) (step_sound out g p s o) (steps_sound out g n)
