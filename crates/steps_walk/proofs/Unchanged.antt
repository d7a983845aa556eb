-- Steps that change no value.
use Rattle.std.proofs.Common.{◌≡◌, ℕ, zero, List, [], ◌∷◌, ◌++◌, Bool, true, false, refl, ap, ◌∙◌, sym, subst}
use Rattle.janus_meaning.specs.Fault.{Fault, Res, Fine, Bad, and_then, FiAssertion, EntryAssertion, LoopAssertion}
use Rattle.janus_meaning.specs.Syntax.{Exp, Stm, Blk, Proc, Do, Skip, Set, SetAt, Push, Pop, Swap, Branch, If, From, Local, Call, inverse}
use Rattle.janus_meaning.specs.Syntax.{Name}
use Rattle.janus_meaning.specs.Store.{Store}
use Rattle.janus_meaning.specs.Value.{test}
use Rattle.janus_meaning.specs.Outside.{Outside}
use Rattle.janus_meaning.specs.Moves.{Hole, InFirst, InSecond, InLocal, InCall, rebuild, inverse_hole}
use Rattle.janus_meaning.specs.Moves.{Move, Over, Into, begin, leave, choose, room}
use Rattle.janus_meaning.specs.Stepping.{Frame, Framed, Place, BeforeBlock, AfterBlock, BeforeOne, AfterOne, Next, To, End, Halt, step, steps, go_on, arrive}
use Rattle.janus_meaning.specs.Stepping.{after_room, beyond, depth, mirror}
use Rattle.janus_linear.specs.declared.code.Order.TheVariants.{Straight}
use Rattle.janus_linear.specs.Layout.{place_at}
use Rattle.janus_linear.specs.Within.{within}
use Rattle.janus_slots.specs.Slots.{stm_in}
use Rattle.janus_syntax.specs.Tree as text
use Rattle.janus_syntax.specs.View.{plain_stm}
use Rattle.janus_machine.specs.declared.direction.Direction.{Direction}
use Rattle.janus_machine.specs.declared.direction.Direction.TheVariants.{Forward, Inverse}
use Rattle.janus_machine.specs.Cursor.{direction_of}
use Rattle.janus_machine.specs.Cursors.{place_in, place_of, outside_of}
use Rattle.janus_machine.specs.Steps.{alone}
use Rattle.janus_machine.specs.Whereabouts.{faced, faces_inverse}
use Rattle.janus_places.specs.declared.part.Part.{Part}
use Rattle.janus_places.specs.Spots as spots
use Rattle.janus_places.specs.Spots.{Spot, part_of, form_of}
use Rattle.janus_places.specs.Standing.{IsAt, IsTold, code_of}
use Rattle.janus_syntax.specs.declared.token.Span.{Span}
use Rattle.janus_syntax.specs.Tree.{Block}
use Rattle.std.specs.Prelude.{Option, IsTrue}
use Rattle.kernel_runner.proofs.Going.{safe_on}
use Rattle.steps_walk.specs.declared.level.Level.{Level}
use Rattle.steps_walk.specs.declared.level.Spot as level_spot
use Rattle.steps_walk.specs.declared.walk.Walk.{Walk}
use Rattle.steps_walk.specs.Walk.{runner_of, program_of, is_outside, IsWalking}
use Rattle.steps_walk.specs.Bodies.{parameters_of, text_body}
use Rattle.steps_walk.specs.Where.{names_at, text_block}
use Rattle.steps_walk.specs.Standing.{TellsPlace}
use Rattle.steps_walk.specs.Quiet.{is_quiet, is_quiet_form, LeavesValues}

no : false ≡ true → ⊥
no e = cc

-- ---- in the meaning

-- a test, or nothing to do
abbrev IsQuietStm : Stm → Type 0
IsQuietStm (Do Skip) = Unit {0}
IsQuietStm (Do (Set x o e)) = ⊥
IsQuietStm (Do (SetAt a i o e)) = ⊥
IsQuietStm (Do (Push x y)) = ⊥
IsQuietStm (Do (Pop x y)) = ⊥
IsQuietStm (Do (Swap x y)) = ⊥
IsQuietStm (Branch w a s t b) = Unit {0}
IsQuietStm (Local x k s) = ⊥
IsQuietStm (Call w f xs) = ⊥

abbrev IsQuietHole : Hole → Type 0
IsQuietHole (InFirst w a t b) = Unit {0}
IsQuietHole (InSecond w a s b) = Unit {0}
IsQuietHole (InLocal x k) = ⊥
IsQuietHole (InCall w f xs c) = ⊥

-- a place from which a step changes no value
abbrev pub IsQuietPlace : Place → Type 0
IsQuietPlace (BeforeBlock b fs) = Unit {0}
IsQuietPlace (AfterBlock b []) = ⊥
IsQuietPlace (AfterBlock b (Framed h before after ∷ fs)) = IsQuietHole h
IsQuietPlace (BeforeOne c before after fs) = IsQuietStm c
IsQuietPlace (AfterOne c before after fs) = Unit {0}

-- a move that keeps the store
abbrev Keeps : Store → Res Move → Type 0
Keeps s (Fine (Over t)) = t ≡ s
Keeps s (Fine (Into b h t)) = t ≡ s
Keeps s (Bad f) = Unit {0}

module _ (s : Store) where
  behind : {A : Type 0} (r : Res A) (f : A → Res Move) → ((a : A) → Keeps s (f a)) → Keeps s (and_then r f)
  behind (Fine a) f h = h a
  behind (Bad e) f h = tt

  chosen : (v : Bool) (p q : Res Move) → Keeps s p → Keeps s q → Keeps s (choose v p q)
  chosen true p q h k = h
  chosen false p q h k = k

  -- the test before a move
  tested : (a : Exp) (p q : Res Move) → Keeps s p → Keeps s q → Keeps s (and_then (test a s) (λ v. choose v p q))
  tested a p q h k = behind (test a s) (λ v. choose v p q) (λ v. chosen v p q h k)

  begun : (out : Outside) (c : Stm) → IsQuietStm c → Keeps s (begin out c s)
  begun out (Do Skip) k = refl
  begun out (Do (Set x o e)) k = absurd k
  begun out (Do (SetAt a i o e)) k = absurd k
  begun out (Do (Push x y)) k = absurd k
  begun out (Do (Pop x y)) k = absurd k
  begun out (Do (Swap x y)) k = absurd k
  begun out (Branch If a p q b) k =
      behind (room out.frames) (λ ok. and_then (test a s) (λ v. choose v (Fine (Into p (InFirst If a q b) s)) (Fine (Into q (InSecond If a p b) s)))) (λ ok.
      tested a (Fine (Into p (InFirst If a q b) s)) (Fine (Into q (InSecond If a p b) s)) refl refl)
  begun out (Branch From a p q b) k =
      behind (room out.frames) (λ ok. and_then (test a s) (λ v. choose v (Fine (Into p (InFirst From a q b) s)) (Bad EntryAssertion))) (λ ok.
      tested a (Fine (Into p (InFirst From a q b) s)) (Bad EntryAssertion) refl tt)
  begun out (Local x o p) k = absurd k
  begun out (Call w f xs) k = absurd k

  left : (ps : List Proc) (h : Hole) (b : Blk) → IsQuietHole h → Keeps s (leave ps h b s)
  left ps (InFirst If a q b) p k = tested b (Fine (Over s)) (Bad FiAssertion) refl tt
  left ps (InSecond If a p b) q k = tested b (Bad FiAssertion) (Fine (Over s)) tt refl
  left ps (InFirst From a q b) p k = tested b (Fine (Over s)) (Fine (Into q (InSecond From a p b) s)) refl refl
  left ps (InSecond From a p b) q k = tested a (Bad LoopAssertion) (Fine (Into p (InFirst From a q b) s)) tt refl
  left ps (InLocal x o) p k = absurd k
  left ps (InCall w f xs c) p k = absurd k

  store_of : (p q : Place) (u t : Store) → To p u ≡ To q t → t ≡ u
  store_of p q u t e = cc

  halts : (f : Fault) (q : Place) (t : Store) → Halt f ≡ To q t → ⊥
  halts f q t e = cc

  arrives : (c : Stm) (before after : Blk) (fs : List Frame) (r : Res Move) (q : Place) (t : Store) → Keeps s r →
      arrive c before after fs r ≡ To q t → t ≡ s
  arrives c before after fs (Fine (Over u)) q t k e = store_of (AfterOne c before after fs) q u t e ∙ k
  arrives c before after fs (Fine (Into b h u)) q t k e = store_of (BeforeBlock b (Framed h before after ∷ fs)) q u t e ∙ k
  arrives c before after fs (Bad f) q t k e = absurd (halts f q t e)

  entered : (b : Blk) (fs : List Frame) (r : Res (Unit {0})) (q : Place) (t : Store) → after_room b fs s r ≡ To q t → t ≡ s
  entered b fs (Fine u) q t e = store_of _ q s t e
  entered b fs (Bad f) q t e = absurd (halts f q t e)

  stepped : (out : Outside) (p q : Place) (t : Store) → IsQuietPlace p → step out p s ≡ To q t → t ≡ s
  stepped out (BeforeBlock b fs) q t k e = entered b fs (room (depth out.frames fs)) q t e
  stepped out (AfterBlock b []) q t k e = absurd k
  stepped out (AfterBlock b (Framed h before after ∷ fs)) q t k e =
      arrives (rebuild h b) before after fs (leave out.procedures h b s) q t (left out.procedures h b k) e
  stepped out (BeforeOne c before after fs) q t k e =
      arrives c before after fs (begin (beyond fs out) c s) q t (begun (beyond fs out) c k) e
  stepped out (AfterOne c before after fs) q t k e = store_of _ q s t e

-- one step of many
one_step : (out : Outside) (n : Next) (q : Place) (t : Store) → go_on n (steps out zero) ≡ To q t → n ≡ To q t
one_step out (To p s) q t e = e
one_step out End q t e = e
one_step out (Halt f) q t e = e

-- ---- places of the text

quiet_within : (us : List Frame) (p : Place) → IsQuietPlace p → IsQuietPlace (within us p)
quiet_within us (BeforeBlock b fs) k = tt
quiet_within us (AfterBlock b []) k = absurd k
quiet_within us (AfterBlock b (Framed h before after ∷ fs)) k = k
quiet_within us (BeforeOne c before after fs) k = k
quiet_within us (AfterOne c before after fs) k = tt

quiet_stm : (es g : List Name) (s : text.Stm) → is_quiet_form (form_of s) ≡ true → IsQuietStm (stm_in es g (plain_stm s))
quiet_stm es g text.Skip e = tt
quiet_stm es g (text.Assign x u a) e = absurd (no e)
quiet_stm es g (text.AssignElement x i u a) e = absurd (no e)
quiet_stm es g (text.Push x y) e = absurd (no e)
quiet_stm es g (text.Pop x y) e = absurd (no e)
quiet_stm es g (text.Swap x y) e = absurd (no e)
quiet_stm es g (text.If a s t b) e = tt
quiet_stm es g (text.Loop a s t b) e = tt
quiet_stm es g (text.LocalInt x a s y b) e = absurd (no e)
quiet_stm es g (text.LocalStack x s y) e = absurd (no e)
quiet_stm es g (text.Call f xs) e = absurd (no e)
quiet_stm es g (text.Uncall f xs) e = absurd (no e)

quiet_hole : (h : Hole) (b : Blk) → IsQuietStm (rebuild h b) → IsQuietHole h
quiet_hole (InFirst w a t e) b k = tt
quiet_hole (InSecond w a s e) b k = tt
quiet_hole (InLocal x o) b k = absurd k
quiet_hole (InCall w f xs c) b k = absurd k

quiet_inverse : (c : Stm) → IsQuietStm c → IsQuietStm (inverse c)
quiet_inverse (Do Skip) k = tt
quiet_inverse (Do (Set x o e)) k = absurd k
quiet_inverse (Do (SetAt a i o e)) k = absurd k
quiet_inverse (Do (Push x y)) k = absurd k
quiet_inverse (Do (Pop x y)) k = absurd k
quiet_inverse (Do (Swap x y)) k = absurd k
quiet_inverse (Branch w a s t b) k = tt
quiet_inverse (Local x o s) k = absurd k
quiet_inverse (Call w f xs) k = absurd k

quiet_turned : (h : Hole) → IsQuietHole h → IsQuietHole (inverse_hole h)
quiet_turned (InFirst w a t b) k = tt
quiet_turned (InSecond w a s b) k = tt
quiet_turned (InLocal x o) k = absurd k
quiet_turned (InCall w f xs c) k = absurd k

module _ (es g : List Name) where
  quiet_on : (s : Spot) (p : Place) → IsAt es g s p → is_quiet false (part_of s) ≡ true → IsQuietPlace p
  quiet_on spots.Begin p is e = absurd (no e)
  quiet_on spots.End p is e = absurd (no e)
  quiet_on (spots.Before xs s) (BeforeBlock b fs) is e = absurd is
  quiet_on (spots.Before xs s) (AfterBlock b fs) is e = absurd is
  quiet_on (spots.Before xs s) (BeforeOne c before after fs) is e = subst IsQuietStm (sym is) (quiet_stm es (xs ++ g) s e)
  quiet_on (spots.Before xs s) (AfterOne c before after fs) is e = absurd is
  quiet_on (spots.After xs s) (BeforeBlock b fs) is e = absurd is
  quiet_on (spots.After xs s) (AfterBlock b fs) is e = absurd is
  quiet_on (spots.After xs s) (BeforeOne c before after fs) is e = absurd is
  quiet_on (spots.After xs s) (AfterOne c before after fs) is e = tt
  quiet_on (spots.Enters xs s w) (BeforeBlock b fs) is e = tt
  quiet_on (spots.Enters xs s w) (AfterBlock b fs) is e = absurd is
  quiet_on (spots.Enters xs s w) (BeforeOne c before after fs) is e = absurd is
  quiet_on (spots.Enters xs s w) (AfterOne c before after fs) is e = absurd is
  quiet_on (spots.Leaves xs s w) (BeforeBlock b fs) is e = absurd is
  quiet_on (spots.Leaves xs s w) (AfterBlock b []) is e = absurd is
  quiet_on (spots.Leaves xs s w) (AfterBlock b (Framed h before after ∷ fs)) is e =
      quiet_hole h b (subst IsQuietStm (sym is.0) (quiet_stm es (xs ++ g) s e))
  quiet_on (spots.Leaves xs s w) (BeforeOne c before after fs) is e = absurd is
  quiet_on (spots.Leaves xs s w) (AfterOne c before after fs) is e = absurd is

  quiet_back : (s : Spot) (p : Place) → IsAt es g s p → is_quiet true (part_of s) ≡ true → IsQuietPlace (mirror p)
  quiet_back spots.Begin p is e = absurd (no e)
  quiet_back spots.End p is e = absurd (no e)
  quiet_back (spots.Before xs s) (BeforeBlock b fs) is e = absurd is
  quiet_back (spots.Before xs s) (AfterBlock b fs) is e = absurd is
  quiet_back (spots.Before xs s) (BeforeOne c before after fs) is e = tt
  quiet_back (spots.Before xs s) (AfterOne c before after fs) is e = absurd is
  quiet_back (spots.After xs s) (BeforeBlock b fs) is e = absurd is
  quiet_back (spots.After xs s) (AfterBlock b fs) is e = absurd is
  quiet_back (spots.After xs s) (BeforeOne c before after fs) is e = absurd is
  quiet_back (spots.After xs s) (AfterOne c before after fs) is e = quiet_inverse c (subst IsQuietStm (sym is) (quiet_stm es (xs ++ g) s e))
  quiet_back (spots.Enters xs s w) (BeforeBlock b []) is e = absurd is
  quiet_back (spots.Enters xs s w) (BeforeBlock b (Framed h before after ∷ fs)) is e =
      quiet_turned h (quiet_hole h b (subst IsQuietStm (sym is.0) (quiet_stm es (xs ++ g) s e)))
  quiet_back (spots.Enters xs s w) (AfterBlock b fs) is e = absurd is
  quiet_back (spots.Enters xs s w) (BeforeOne c before after fs) is e = absurd is
  quiet_back (spots.Enters xs s w) (AfterOne c before after fs) is e = absurd is
  quiet_back (spots.Leaves xs s w) (BeforeBlock b fs) is e = absurd is
  quiet_back (spots.Leaves xs s w) (AfterBlock b fs) is e = tt
  quiet_back (spots.Leaves xs s w) (BeforeOne c before after fs) is e = absurd is
  quiet_back (spots.Leaves xs s w) (AfterOne c before after fs) is e = absurd is

  quiet_faced : (d : Direction) (s : Spot) (p : Place) → IsAt es g s p → is_quiet (faces_inverse d) (part_of s) ≡ true → IsQuietPlace (faced d p)
  quiet_faced Forward s p is e = quiet_on s p is e
  quiet_faced Inverse s p is e = quiet_back s p is e

  quiet_told : (d : Direction) (b : Block) (n : ℕ) (p : Part) (at : Option Span) (told : IsTold es g b n p at) → is_quiet (faces_inverse d) p ≡ true →
      (here : Place) → here ≡ faced d (place_at Straight (code_of es g b) n) → IsQuietPlace here
  quiet_told d b n p at told e here is =
      subst IsQuietPlace (sym is)
      (quiet_faced d told.spot (place_at Straight (code_of es g b) n) told.stands.is (ap (is_quiet (faces_inverse d)) (sym told.part) ∙ e))

-- ---- of a walk

module _ {L : Type 0} (w : Walk L) (walking : IsWalking w) where
  abbrev here : Place
  here = place_in (runner_of w).procedures (program_of w).book (runner_of w).cursor

  quiet_here : (level : Level) (spot : level_spot.Spot) → TellsPlace w (level, spot) → is_quiet level.inverse spot.part ≡ true → IsQuietPlace here
  quiet_here level spot tells e = by (is_outside w) refl
    where
      d : Direction
      d = direction_of (runner_of w).cursor

      faces : is_quiet (faces_inverse d) spot.part ≡ true
      faces = ap (λ (b : Bool). is_quiet b spot.part) (sym tells.here.faces) ∙ e

      by : (out : Bool) → is_outside w ≡ out → IsQuietPlace here
      by true out =
          let there = tells.there walking.table out walking.stands.at walking.stands.stands in
          quiet_told (runner_of w).entries (names_at walking.stands.at) d (text_block (program_of w)) there.n spot.part spot.span there.told faces here there.place
      by false out =
          let there = tells.called walking out in
          quiet_told (runner_of w).entries (parameters_of there.procedure) d (text_body there.procedure) level.at spot.part spot.span there.told faces here
          there.place

  left_values : IsQuietPlace here → LeavesValues w
  left_values k = λ next came.
      let v = (runner_of w).counted.store in
      let safe = safe_on (runner_of w) (program_of w) walking.stands.at 1 walking.stands.stands in
      let out = alone safe.0 safe.1 in
      let p = place_of (runner_of w).procedures (program_of w).book (runner_of w).cursor v.callers in
      let one = one_step out (step out p v.slots) _ next.counted.store.slots (came safe.0 safe.1 safe.2 safe.3 safe.4) in
      stepped v.slots out p _ next.counted.store.slots
      (quiet_within (outside_of (runner_of w).procedures (program_of w).book (runner_of w).cursor v.callers) here k) one

  pub leaves_values : (level : Level) (spot : level_spot.Spot) → TellsPlace w (level, spot) → (b : Bool) → b ≡ is_quiet level.inverse spot.part → IsTrue b →
      LeavesValues w
  leaves_values level spot tells b is quiet = left_values (quiet_here level spot tells (sym is ∙ quiet))
