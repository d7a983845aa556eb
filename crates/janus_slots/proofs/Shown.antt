-- What is seen from outside of open statements: with slots it is the same, and its oldest names are those that stand outside of all.
use Rattle.std.proofs.Common.{◌≡◌, suc, ◌+◌, ◌-◌, List, [], ◌∷◌, ◌++◌, length, refl, ap, ◌∙◌, sym, arith, length-append}
use Rattle.janus_meaning.specs.Fault.{Res, Fine, Bad, or_else}
use Rattle.janus_meaning.specs.Syntax.{Name, Proc, LocalInt, LocalStack}
use Rattle.janus_meaning.specs.Store.{Store, Bare, Slot, fill, values_in}
use Rattle.janus_meaning.specs.World.{size_of, dropped, oldest}
use Rattle.janus_meaning.specs.Moves.{Hole, InFirst, InSecond, InLocal, InCall, seen, seen_call}
use Rattle.janus_meaning.specs.Stepping.{Frame, Framed, Place, BeforeBlock, AfterBlock, BeforeOne, AfterOne, seen_through, frames_of, shown}
use Rattle.janus_slots.specs.Slots.{slots_in, procedures_in, names_in, in_slots, under_names}
use Rattle.janus_slots.specs.Places.{sight_inside, sight_at, hole_in, frames_in, place_in}
use Rattle.janus_slots.proofs.Results.{res_in}
use Rattle.janus_slots.proofs.Stores.{fill_names, fill_in, tail_is}
use Rattle.janus_slots.proofs.Whole.{names_size, values_same, oldest_same, under_same}
use Rattle.janus_slots.proofs.Moves.{IsNamed}
use Rattle.janus_slots.proofs.Named.{AreNamed, IsSound}

-- ---- the oldest names of a store

dropped_names : (new g : List Name) (s : Store) → names_in s ≡ new ++ g → names_in (dropped (length new) s) ≡ g
dropped_names [] g s k = k
dropped_names (x ∷ new) g Bare k = cc
dropped_names (x ∷ new) g (Slot y v s) k = dropped_names new g s (tail_is y x (names_in s) (new ++ g) k)

oldest_names : (s q : Store) (new : List Name) → names_in q ≡ new ++ names_in s → names_in (oldest (size_of s) q) ≡ names_in s
oldest_names s q new k =
    let a : length (names_in q) ≡ size_of q = names_size q in
    let b : length (names_in q) ≡ length (new ++ names_in s) = ap length k in
    let c : length (new ++ names_in s) ≡ length new + length (names_in s) = length-append new (names_in s) in
    let d : length (names_in s) ≡ size_of s = names_size s in
    let e : size_of q - size_of s ≡ length new = omega (arith, a, b, c, d) in
    ap (λ n. names_in (dropped n q)) e ∙ dropped_names new (names_in s) q k

-- the oldest names give the oldest part back
pub oldest_under : (s q m : Store) (new : List Name) → names_in q ≡ new ++ names_in s → in_slots q ≡ m
    → under_names (names_in s) (oldest (size_of s) m) ≡ oldest (size_of s) q
oldest_under s q m new k e =
    ap (λ m. under_names (names_in s) (oldest (size_of s) m)) (sym e)
    ∙ ap (under_names (names_in s)) (oldest_same (size_of s) q)
    ∙ ap (λ g. under_names g (in_slots (oldest (size_of s) q))) (sym (oldest_names s q new k))
    ∙ under_same (oldest (size_of s) q)

-- ---- calls

length_slots : (g xs : List Name) → length (slots_in g xs) ≡ length xs
length_slots g [] = refl
length_slots g (x ∷ xs) = ap suc (length_slots g xs)

or_else_in : (r : Res Store) (c : Store) → or_else (res_in in_slots r) (in_slots c) ≡ in_slots (or_else r c)
or_else_in (Fine s) c = refl
or_else_in (Bad f) c = refl

seen_call_in : (g xs : List Name) (c s : Store) → names_in c ≡ g → seen_call (slots_in g xs) (in_slots c) (in_slots s) ≡ in_slots (seen_call xs c s)
seen_call_in g xs c s k =
    ap (λ n. or_else (fill (slots_in g xs) (values_in (oldest n (in_slots s))) (in_slots c)) (in_slots c)) (length_slots g xs)
    ∙ ap (λ t. or_else (fill (slots_in g xs) (values_in t) (in_slots c)) (in_slots c)) (oldest_same (length xs) s)
    ∙ ap (λ vs. or_else (fill (slots_in g xs) vs (in_slots c)) (in_slots c)) (values_same (oldest (length xs) s))
    ∙ ap (λ r. or_else r (in_slots c)) (fill_in g xs (values_in (oldest (length xs) s)) c k)
    ∙ or_else_in (fill xs (values_in (oldest (length xs) s)) c) c

or_else_names : (r : Res Store) (c : Store) → ((t : Store) → r ≡ Fine t → names_in t ≡ names_in c) → names_in (or_else r c) ≡ names_in c
or_else_names (Fine t) c h = h t refl
or_else_names (Bad f) c h = refl

seen_call_names : (xs : List Name) (c s : Store) → names_in (seen_call xs c s) ≡ names_in c
seen_call_names xs c s =
    or_else_names (fill xs (values_in (oldest (length xs) s)) c) c (λ t e. fill_names xs (values_in (oldest (length xs) s)) c t e)

-- ---- open statements

one_more : (new : List Name) (x : Name) (g : List Name) → new ++ x ∷ g ≡ (new ++ x ∷ []) ++ g
one_more [] x g = refl
one_more (y ∷ new) x g = ap (λ l. y ∷ l) (one_more new x g)

module _ (ps : List Proc) where
  seen_in : (es g : List Name) (h : Hole) (s : Store) → IsNamed g h → seen (procedures_in es ps) (hole_in es g h) (in_slots s) ≡ in_slots (seen ps h s)
  seen_in es g (InFirst w a t b) s n = refl
  seen_in es g (InSecond w a t b) s n = refl
  seen_in es g (InLocal x (LocalInt a b)) s n = refl
  seen_in es g (InLocal x LocalStack) s n = refl
  seen_in es g (InCall w f xs c) s n = seen_call_in g xs c s n

  -- the names of g are the oldest ones
  abbrev pub EndsIn : List Name → Store → Type 0
  EndsIn g s = (new : List Name) × (names_in s ≡ new ++ g)

  seen_ends : (g : List Name) (h : Hole) (s : Store) → EndsIn (sight_inside ps h g) s → IsNamed g h → EndsIn g (seen ps h s)
  seen_ends g (InFirst w a t b) s k n = k
  seen_ends g (InSecond w a t b) s k n = k
  seen_ends g (InLocal x (LocalInt a b)) s k n = (k.0 ++ x ∷ [], k.1 ∙ one_more k.0 x g)
  seen_ends g (InLocal x LocalStack) s k n = (k.0 ++ x ∷ [], k.1 ∙ one_more k.0 x g)
  seen_ends g (InCall w f xs c) s k n = ([], seen_call_names xs c s ∙ n)

  module _ (g : List Name) where
    through_in : (es : List Name) (fs : List Frame) (s : Store) → AreNamed ps g fs
        → seen_through (procedures_in es ps) (frames_in es ps g fs) (in_slots s) ≡ in_slots (seen_through ps fs s)
    through_in es [] s n = refl
    through_in es (Framed h before after ∷ fs) s n =
        ap (seen_through (procedures_in es ps) (frames_in es ps g fs)) (seen_in es (sight_at ps g fs) h s n.0) ∙ through_in es fs (seen ps h s) n.1

    through_ends : (fs : List Frame) (s : Store) → EndsIn (sight_at ps g fs) s → AreNamed ps g fs → EndsIn g (seen_through ps fs s)
    through_ends [] s k n = k
    through_ends (Framed h before after ∷ fs) s k n = through_ends fs (seen ps h s) (seen_ends (sight_at ps g fs) h s k n.0) n.1

    frames_same : (es : List Name) (p : Place) → frames_of (place_in es ps g p) ≡ frames_in es ps g (frames_of p)
    frames_same es (BeforeBlock b fs) = refl
    frames_same es (AfterBlock b fs) = refl
    frames_same es (BeforeOne c before after fs) = refl
    frames_same es (AfterOne c before after fs) = refl

    -- what a place shows
    pub shown_in : (es : List Name) (p : Place) (s : Store) → IsSound ps g (frames_of p) s
        → shown (procedures_in es ps) (place_in es ps g p) (in_slots s) ≡ in_slots (shown ps p s)
    shown_in es p s o = ap (λ fs. seen_through (procedures_in es ps) fs (in_slots s)) (frames_same es p) ∙ through_in es (frames_of p) s o.1

    pub shown_ends : (p : Place) (s : Store) → IsSound ps g (frames_of p) s → EndsIn g (shown ps p s)
    shown_ends p s o = through_ends (frames_of p) s ([], o.0) o.1
