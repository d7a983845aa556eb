-- Where travels lead, and that a redo that follows an undo gives back what the undo left.
use Rattle.std.proofs.Common.{◌≡◌, ℕ, ◌+◌, ◌-◌, ◌<◌, ◌≤◌, Bool, true, false, IsTrue, List, get_or, zero, suc, refl, sym, ap, ◌∙◌, subst, arith}
use Rattle.kernel_machine.specs.State.{Node, Past, Idle, State, root, ancestor}
use Rattle.kernel_machine.specs.Legal.{can_undo, can_redo, IsLegal}
use Rattle.kernel_machine.specs.Slices.{finished_by, finished, cells, stepped, moved}
use Rattle.kernel_machine.specs.Begins.{travel_to}
use Rattle.kernel_machine.specs.Request.{Undo, Redo}
use Rattle.kernel_machine.specs.Midway.{after, gone}
use Rattle.kernel_machine.specs.Ends.{MoveEnds, EndsUnless}
use Rattle.machine_laws.specs.Travels.{descendant, favoured, UndoGoesUp, RedoGoesDown, GotoGoesThere, RedoGivesBack}
use Rattle.kernel_machine.specs.declared.travel.Travel.{Travel}
use Rattle.kernel_machine.specs.declared.travel.Aim.{Aim}
use Rattle.kernel_machine.specs.declared.travel.Aim.TheVariants as aim
use Rattle.kernel_machine.specs.declared.outcome.TravelEnd.{TravelEnd}
use Rattle.kernel_machine.specs.declared.outcome.TravelEnd.TheVariants.{All}
use Rattle.kernel_machine.specs.declared.outcome.Outcome.{Outcome}
use Rattle.kernel_machine.specs.declared.outcome.Outcome.TheVariants as outcome
use Rattle.kernel_machine.proofs.Trees.{all_above, set_back}
use Rattle.machine_laws.proofs.Jobs.{jobs_end}

-- ---- what is left of a travel

abbrev pub left_of : Aim → ℕ → ℕ → ℕ → ℕ → Travel
left_of a up down went_up went_down = record { aim = a; up = up; down = down; went_up = went_up; went_down = went_down }

step_up : (a : Aim) (up down i j : ℕ) → 0 < up → stepped (left_of a up down i j) ≡ left_of a (up - 1) down (i + 1) j
step_up a zero down i j l = absurd (omega arith)
step_up a (suc up) down i j l = refl

move_up : (s : Past) (a : Aim) (up down i j : ℕ) → 0 < up → moved s (left_of a up down i j) ≡ record s { position = (get_or s.nodes s.position root).parent }
move_up s a zero down i j l = absurd (omega arith)
move_up s a (suc up) down i j l = refl

pub after_up : (a : Aim) (up down j : ℕ) → j ≤ up → after (travel_to a up down) j ≡ left_of a (up - j) down j 0
after_up a up down zero l = (let e : up - 0 ≡ up = omega arith in rw e refl)
after_up a up down (suc j) l =
    let e : up - j - 1 ≡ up - suc j = omega arith in
    let f : j + 1 ≡ suc j = omega arith in
    ap stepped (after_up a up down j (omega arith)) ∙ step_up a (up - j) down j 0 (omega arith) ∙ rw (e, f) refl

pub after_down : (a : Aim) (up down j : ℕ) → j ≤ down → after (travel_to a up down) (up + j) ≡ left_of a 0 (down - j) up j
after_down a up down zero l =
    let e : up + 0 ≡ up = omega arith in
    let f : up - up ≡ 0 = omega arith in
    let g : down - 0 ≡ down = omega arith in
    rw (e, g) (subst (λ (x : ℕ). after (travel_to a up down) up ≡ left_of a x down up 0) f (after_up a up down up (omega arith)))
after_down a up down (suc j) l =
    let e : up + suc j ≡ suc (up + j) = omega arith in
    let f : down - j - 1 ≡ down - suc j = omega arith in
    let h : j + 1 ≡ suc j = omega arith in
    rw e (ap stepped (after_down a up down j (omega arith)) ∙ rw (f, h) refl)

gone_up : (s : Past) (a : Aim) (up down j : ℕ) → j ≤ up → gone s (travel_to a up down) j ≡ record s { position = ancestor s.nodes s.position j }
gone_up s a up down zero l = refl
gone_up s a up down (suc j) l =
    ap (λ (t : Travel). moved (gone s (travel_to a up down) j) t) (after_up a up down j (omega arith))
    ∙ ap (λ (x : Past). moved x (left_of a (up - j) down j 0)) (gone_up s a up down j (omega arith))
    ∙ move_up (record s { position = ancestor s.nodes s.position j }) a (up - j) down j 0 (omega arith)

pub undo_goes_up_far : UndoGoesUp
undo_goes_up_far s k j l = gone_up s aim.Undo k 0 j l

redo_step : (s : Past) (down i j : ℕ) → moved s (left_of aim.Redo 0 down i j) ≡ record s { position = get_or s.favourites s.position 0 }
redo_step s down i j = ap (λ (f : List ℕ). record s { favourites = f; position = get_or s.favourites s.position 0 }) (set_back s.favourites s.position)

redo_left : (k j : ℕ) → (i : ℕ) × (went : ℕ) × (after (travel_to aim.Redo 0 k) j ≡ left_of aim.Redo 0 i 0 went)
redo_left k zero = (k, 0, refl)
redo_left k (suc j) = (let h = redo_left k j in (h.0 - 1, h.1 + 1, ap stepped h.2))

pub redo_goes_down_far : RedoGoesDown
redo_goes_down_far s k zero = refl
redo_goes_down_far s k (suc j) =
    let left = redo_left k j in
    ap (λ (t : Travel). moved (gone s (travel_to aim.Redo 0 k) j) t) left.2
    ∙ ap (λ (x : Past). moved x (left_of aim.Redo 0 left.0 0 left.1)) (redo_goes_down_far s k j)
    ∙ redo_step (record s { position = descendant s.favourites s.position j }) left.0 0 left.1

pub moved_nodes : (s : Past) (t : Travel) (up : ℕ) → t.up ≡ up → (moved s t).nodes ≡ s.nodes
moved_nodes s t zero e = rw e refl
moved_nodes s t (suc up) e = rw e refl

pub moved_worlds : (s : Past) (t : Travel) (up : ℕ) → t.up ≡ up → (moved s t).worlds ≡ s.worlds
moved_worlds s t zero e = rw e refl
moved_worlds s t (suc up) e = rw e refl

gone_nodes : (s : Past) (t : Travel) (j : ℕ) → (gone s t j).nodes ≡ s.nodes
gone_nodes s t zero = refl
gone_nodes s t (suc j) = moved_nodes (gone s t j) (after t j) (after t j).up refl ∙ gone_nodes s t j

gone_worlds : (s : Past) (t : Travel) (j : ℕ) → (gone s t j).worlds ≡ s.worlds
gone_worlds s t zero = refl
gone_worlds s t (suc j) = moved_worlds (gone s t j) (after t j) (after t j).up refl ∙ gone_worlds s t j

goto_down : (s : Past) (n up down j : ℕ) → 0 < j → j ≤ down → (gone s (travel_to (aim.Goto n) up down) (up + j)).position ≡ ancestor s.nodes n (down - j)
goto_down s n up down zero some l = absurd (omega arith)
goto_down s n up down (suc j) some l =
    let e : up + suc j ≡ suc (up + j) = omega arith in
    let f : down - j - 1 ≡ down - suc j = omega arith in
    rw e (ap (λ (t : Travel). (moved (gone s (travel_to (aim.Goto n) up down) (up + j)) t).position) (after_down (aim.Goto n) up down j (omega arith))
    ∙ ap (λ (nodes : List Node). ancestor nodes n (down - j - 1)) (gone_nodes s (travel_to (aim.Goto n) up down) (up + j))
    ∙ ap (λ (i : ℕ). ancestor s.nodes n i) f)

goto_favours : (s : Past) (n up down j : ℕ) → j < down →
    (gone s (travel_to (aim.Goto n) up down) (up + j + 1)).favourites ≡ favoured (gone s (travel_to (aim.Goto n) up down) (up + j))
    (ancestor s.nodes n (down - j - 1))
goto_favours s n up down j l =
    let e : up + j + 1 ≡ suc (up + j) = omega arith in
    rw e (ap (λ (t : Travel). (moved (gone s (travel_to (aim.Goto n) up down) (up + j)) t).favourites) (after_down (aim.Goto n) up down j (omega arith))
    ∙ ap (λ (nodes : List Node). favoured (gone s (travel_to (aim.Goto n) up down) (up + j)) (ancestor nodes n (down - j - 1)))
    (gone_nodes s (travel_to (aim.Goto n) up down) (up + j)))

pub goto_goes_there : GotoGoesThere
goto_goes_there s n up down j = (
  λ l. gone_up s (aim.Goto n) up down j l,
  λ some l. goto_down s n up down j some l,
  λ l. goto_favours s n up down j l,
  gone_nodes s (travel_to (aim.Goto n) up down) j,
  gone_worlds s (travel_to (aim.Goto n) up down) j,
)

-- ---- back again

descendant_first : (favourites : List ℕ) (n j : ℕ) → descendant favourites n (suc j) ≡ descendant favourites (get_or favourites n 0) j
descendant_first favourites n zero = refl
descendant_first favourites n (suc j) = ap (λ (k : ℕ). get_or favourites k 0) (descendant_first favourites n j)

-- along the favourites back down
back_down : (s : Past) (k : ℕ) → IsLegal s → ((j : ℕ) → j < k → 0 < ancestor s.nodes s.position j) →
    descendant s.favourites (ancestor s.nodes s.position k) k ≡ s.position
back_down s zero g above = refl
back_down s (suc k) g above =
    descendant_first s.favourites (ancestor s.nodes s.position (suc k)) k
    ∙ ap (λ (n : ℕ). descendant s.favourites n k) (g.favoured k (above k (omega arith)))
    ∙ back_down s k g (λ j l. above j (omega arith))

there_and_back : (s : Past) (k : ℕ) → IsLegal s → IsTrue (can_undo s.nodes s.position k) →
    gone (gone s (travel_to aim.Undo k 0) k) (travel_to aim.Redo 0 k) k ≡ s
there_and_back s k g can =
    ap (λ (x : Past). gone x (travel_to aim.Redo 0 k) k) (undo_goes_up_far s k k (omega arith))
    ∙ redo_goes_down_far (record s { position = ancestor s.nodes s.position k }) k k
    ∙ ap (λ (n : ℕ). record s { position = n }) (back_down s k g (λ j l. all_above s.nodes s.position k j can l))

-- a whole undo, and a whole redo
pub undid_all : (s : Past) (t : Travel) (k : ℕ) (can : Bool) (new : State) → cells t ≡ k → MoveEnds s t can (outcome.Undid k All) new →
    ((j : ℕ) (end : TravelEnd) → finished (after t j) end ≡ outcome.Undid k All → end ≡ All) →
    (new ≡ record { past = gone s t k; job = Idle }) × (can ≡ true)
undid_all s t k false new size m only = absurd (let e = m.0 in cc)
undid_all s t k true new size m only =
    let end : m.1 ≡ All = only m.0 m.1 (sym m.2.tells) in
    let j : m.0 ≡ k = m.2.all.0 end ∙ size in
    (m.2.stands ∙ ap (λ (n : ℕ). record { past = gone s t n; job = Idle }) j, refl)

pub redid_all : (s : Past) (t : Travel) (k : ℕ) (can : Bool) (new : State) → cells t ≡ k → MoveEnds s t can (outcome.Redid k All) new →
    ((j : ℕ) (end : TravelEnd) → finished (after t j) end ≡ outcome.Redid k All → end ≡ All) →
    new ≡ record { past = gone s t k; job = Idle }
redid_all s t k false new size m only = absurd (let e = m.0 in cc)
redid_all s t k true new size m only =
    let end : m.1 ≡ All = only m.0 m.1 (sym m.2.tells) in
    let j : m.0 ≡ k = m.2.all.0 end ∙ size in
    m.2.stands ∙ ap (λ (n : ℕ). record { past = gone s t n; job = Idle }) j

unfoldable pub end_of_outcome : Outcome → TravelEnd
end_of_outcome (outcome.Undid j end) = end
end_of_outcome (outcome.Redid j end) = end
end_of_outcome (outcome.Went i j end) = end
end_of_outcome o = All

pub end_told : (t : Travel) (end : TravelEnd) → end_of_outcome (finished t end) ≡ end
unfolding end_of_outcome
end_told t end = by_aim t.aim t.went_up t.went_down end
  where
    by_aim : (a : Aim) (i j : ℕ) (end : TravelEnd) → end_of_outcome (finished_by a i j end) ≡ end
    by_aim aim.Undo i j end = refl
    by_aim aim.Redo i j end = refl
    by_aim (aim.Goto n) i j end = refl

-- what ended otherwise than by a refusal was taken before a shutdown
pub undone_open : (closing : Bool) (s : Past) (k : ℕ) (new : State) → EndsUnless closing s (Undo k) (outcome.Undid k All) new →
    MoveEnds s (travel_to aim.Undo k 0) (can_undo s.nodes s.position k) (outcome.Undid k All) new
undone_open false s k new h = h
undone_open true s k new h = absurd (let e = h.0 in cc)

pub redone_open : (closing : Bool) (s : Past) (k : ℕ) (new : State) → EndsUnless closing s (Redo k) (outcome.Redid k All) new →
    MoveEnds s (travel_to aim.Redo 0 k) (can_redo s.favourites s.position k) (outcome.Redid k All) new
redone_open false s k new h = h
redone_open true s k new h = absurd (let e = h.0 in cc)

pub redo_gives_back : RedoGivesBack
unfolding end_of_outcome
redo_gives_back old mid later new k undo redo told_undo told_redo g idle next run ends same then run_on ends_on =
    let size : k + 0 ≡ k = omega arith in
    let other : 0 + k ≡ k = omega arith in
    let first = undid_all old.state.past (travel_to aim.Undo k 0) k _ mid.state size
    (undone_open old.closing old.state.past k mid.state (jobs_end old mid (Undo k) undo told_undo (outcome.Undid k All) idle next run ends))
    (λ j end e. sym (end_told (after (travel_to aim.Undo k 0) j) end) ∙ ap end_of_outcome e) in
    let there = same ∙ first.0 in
    let again : later.state.job ≡ Idle = ap (λ (s : State). s.job) there in
    let second = redid_all later.state.past (travel_to aim.Redo 0 k) k _ new.state other
    (redone_open later.closing later.state.past k new.state (jobs_end later new (Redo k) redo told_redo (outcome.Redid k All) again then run_on ends_on))
    (λ j end e. sym (end_told (after (travel_to aim.Redo 0 k) j) end) ∙ ap end_of_outcome e) in
    ap (λ (s : State). s.past) second
    ∙ ap (λ (s : State). gone s.past (travel_to aim.Redo 0 k) k) there
    ∙ there_and_back old.state.past k g first.1
