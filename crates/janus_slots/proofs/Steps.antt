-- With slots in place of names, each step is the same.
use Rattle.std.proofs.Common.{◌≡◌, ℕ, zero, suc, pred, ◌+◌, List, [], ◌∷◌, refl, ap, ◌∙◌}
use Rattle.janus_meaning.specs.Fault.{Res, Fine, Bad}
use Rattle.janus_meaning.specs.Syntax.{Name, Stm, Blk, Nil, Cons, Proc, LocalInt, LocalStack}
use Rattle.janus_meaning.specs.Store.{Store}
use Rattle.janus_meaning.specs.Outside.{Outside}
use Rattle.janus_meaning.specs.Moves.{Hole, InFirst, InSecond, InLocal, InCall, rebuild, Move, Over, Into, room, live_in, kept_in, begin, leave}
use Rattle.janus_meaning.specs.Stepping.{Frame, Framed, Place, BeforeBlock, AfterBlock, BeforeOne, AfterOne, Next, To, End, Halt, depth, live}
use Rattle.janus_meaning.specs.Stepping.{kept, beyond, arrive, after_room, step, go_on, steps, frames_of}
use Rattle.janus_slots.specs.Slots.{stm_in, block_in, procedures_in, names_in, in_slots, outside_in}
use Rattle.janus_slots.specs.Places.{sight_inside, sight_at, hole_in, frames_in, place_in, next_in}
use Rattle.janus_slots.specs.Law.{AreListed, StepsAreTheSame}
use Rattle.janus_slots.proofs.Results.{res_in}
use Rattle.janus_slots.proofs.Whole.{held_same}
use Rattle.janus_slots.proofs.Trees.{gap_in, rebuild_in}
use Rattle.janus_slots.proofs.Moves.{move_in, begin_in, leave_in}
use Rattle.janus_slots.proofs.Named.{IsSound, LeadsSound, step_sound}

-- ---- what stands outside of open statements

live_same : (es g : List Name) (h : Hole) (k : ℕ) → live_in (hole_in es g h) k ≡ live_in h k
live_same es g (InFirst w a t b) k = refl
live_same es g (InSecond w a s b) k = refl
live_same es g (InLocal x (LocalInt a b)) k = refl
live_same es g (InLocal x LocalStack) k = refl
live_same es g (InCall w f xs c) k = refl

kept_same : (es g : List Name) (h : Hole) (n : ℕ) → kept_in (hole_in es g h) n ≡ kept_in h n
kept_same es g (InFirst w a t b) n = refl
kept_same es g (InSecond w a s b) n = refl
kept_same es g (InLocal x (LocalInt a b)) n = refl
kept_same es g (InLocal x LocalStack) n = refl
kept_same es g (InCall w f xs c) n = ap (λ m. n + m) (held_same c)

module _ (es : List Name) (ps : List Proc) (g : List Name) where
  depth_in : (d : ℕ) (fs : List Frame) → depth d (frames_in es ps g fs) ≡ depth d fs
  depth_in d [] = refl
  depth_in d (Framed h before after ∷ fs) = ap (λ n. pred (pred n)) (depth_in d fs)

  live_frames : (k : ℕ) (fs : List Frame) → live k (frames_in es ps g fs) ≡ live k fs
  live_frames k [] = refl
  live_frames k (Framed h before after ∷ fs) =
      live_same es (sight_at ps g fs) h (live k (frames_in es ps g fs)) ∙ ap (live_in h) (live_frames k fs)

  kept_frames : (n : ℕ) (fs : List Frame) → kept n (frames_in es ps g fs) ≡ kept n fs
  kept_frames n [] = refl
  kept_frames n (Framed h before after ∷ fs) =
      kept_same es (sight_at ps g fs) h (kept n (frames_in es ps g fs)) ∙ ap (kept_in h) (kept_frames n fs)

  beyond_frames : (fs : List Frame) (out : Outside) → beyond (frames_in es ps g fs) out ≡ beyond fs out
  beyond_frames fs out =
      ap (λ n. record out { frames = pred n; stacks = live out.stacks (frames_in es ps g fs); values = kept out.values (frames_in es ps g fs) })
      (depth_in out.frames fs)
      ∙ ap (λ n. record out { frames = pred (depth out.frames fs); stacks = n; values = kept out.values (frames_in es ps g fs) }) (live_frames out.stacks fs)
      ∙ ap (λ n. record out { frames = pred (depth out.frames fs); stacks = live out.stacks fs; values = n }) (kept_frames out.values fs)

  -- ---- where a move leads

  arrive_in : (c : Stm) (before after : Blk) (fs : List Frame) (r : Res Move)
      → arrive (stm_in es (sight_at ps g fs) c) (block_in es (sight_at ps g fs) before) (block_in es (sight_at ps g fs) after) (frames_in es ps g fs)
      (res_in (move_in es ps (sight_at ps g fs)) r)
      ≡ next_in es ps g (arrive c before after fs r)
  arrive_in c before after fs (Fine (Over s)) = refl
  arrive_in c before after fs (Fine (Into b h s)) = refl
  arrive_in c before after fs (Bad f) = refl

  room_in : (b : Blk) (fs : List Frame) (s : Store) (r : Res (Unit {0}))
      → after_room (block_in es (sight_at ps g fs) b) (frames_in es ps g fs) (in_slots s) r ≡ next_in es ps g (after_room b fs s r)
  room_in b fs s (Fine u) = ap (λ p. To p (in_slots s)) (gap_in es ps g Nil b fs)
  room_in b fs s (Bad f) = refl

-- ---- one step

pub step_in : (es : List Name) (out : Outside) (g : List Name) (p : Place) (s : Store) → AreListed es out.procedures → IsSound out.procedures g (frames_of p) s
    → step (outside_in es out) (place_in es out.procedures g p) (in_slots s) ≡ next_in es out.procedures g (step out p s)
step_in es out g (BeforeBlock b fs) s l o =
    ap (λ n. after_room (block_in es (sight_at out.procedures g fs) b) (frames_in es out.procedures g fs) (in_slots s) (room n))
    (depth_in es out.procedures g out.frames fs)
    ∙ room_in es out.procedures g b fs s (room (depth out.frames fs))
step_in es out g (AfterBlock b []) s l o = refl
step_in es out g (AfterBlock b (Framed h before after ∷ fs)) s l o =
    let ps : List Proc = out.procedures in
    let v : List Name = sight_at ps g fs in
    ap (λ c. arrive c (block_in es v before) (block_in es v after) (frames_in es ps g fs)
    (leave (procedures_in es ps) (hole_in es v h) (block_in es (sight_inside ps h v) b) (in_slots s))) (rebuild_in es ps v h b)
    ∙ ap (arrive (stm_in es v (rebuild h b)) (block_in es v before) (block_in es v after) (frames_in es ps g fs)) (leave_in es ps v h b s l o.0 o.1.0)
    ∙ arrive_in es ps g (rebuild h b) before after fs (leave ps h b s)
step_in es out g (BeforeOne c before after fs) s l o =
    let ps : List Proc = out.procedures in
    let v : List Name = sight_at ps g fs in
    ap (λ w. arrive (stm_in es v c) (block_in es v before) (block_in es v after) (frames_in es ps g fs) (begin w (stm_in es v c) (in_slots s)))
    (beyond_frames es ps g fs (outside_in es out))
    ∙ ap (arrive (stm_in es v c) (block_in es v before) (block_in es v after) (frames_in es ps g fs)) (begin_in es (beyond fs out) v c s l o.0)
    ∙ arrive_in es ps g c before after fs (begin (beyond fs out) c s)
step_in es out g (AfterOne c before after fs) s l o =
    ap (λ p. To p (in_slots s)) (gap_in es out.procedures g (Cons c before) after fs)

-- ---- n steps

go_on_in : (es : List Name) (out : Outside) (g : List Name) (n : ℕ) (x : Next) → LeadsSound out.procedures g x
    → ((p : Place) (s : Store) → IsSound out.procedures g (frames_of p) s
    → steps (outside_in es out) n (place_in es out.procedures g p) (in_slots s) ≡ next_in es out.procedures g (steps out n p s))
    → go_on (next_in es out.procedures g x) (steps (outside_in es out) n) ≡ next_in es out.procedures g (go_on x (steps out n))
go_on_in es out g n (To p s) o h = h p s o
go_on_in es out g n End o h = refl
go_on_in es out g n (Halt f) o h = refl

pub steps_in : (es : List Name) (out : Outside) (g : List Name) → AreListed es out.procedures → (n : ℕ) (p : Place) (s : Store)
    → IsSound out.procedures g (frames_of p) s
    → steps (outside_in es out) n (place_in es out.procedures g p) (in_slots s) ≡ next_in es out.procedures g (steps out n p s)
steps_in es out g l zero p s o = refl
steps_in es out g l (suc n) p s o =
    ap (λ x. go_on x (steps (outside_in es out) n)) (step_in es out g p s l o)
    ∙ go_on_in es out g n (step out p s) (step_sound out g p s o) (steps_in es out g l n)

pub steps_are_the_same : StepsAreTheSame
steps_are_the_same es out n b s l = steps_in es out (names_in s) l n (BeforeBlock b []) s (refl, tt)
