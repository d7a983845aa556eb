-- Undo and redo of an accepted cell: no fault, and as many steps as the cell took.
use Rattle.std.proofs.Common.{◌≡◌, ℕ, ◌+◌, ◌<◌, ◌≤◌, false, inl, inr, refl, sym, ap, subst}
use Rattle.janus_meaning.specs.World.{World}
use Rattle.kernel_machine.specs.Travel.{next_way}
use Rattle.kernel_machine.specs.declared.travel.Travel.{Travel}
use Rattle.kernel_machine.specs.declared.travel.Way.{Way}
use Rattle.kernel_machine.specs.declared.travel.Way.TheVariants.{Up, Down}
use Rattle.kernel_machine.specs.Language.{CodeExec}
use Rattle.kernel_machine.specs.Reached.{Reaches}
use Rattle.kernel_machine.specs.declared.progress.Progress.{Progress}
use Rattle.kernel_machine.specs.declared.progress.Progress.TheVariants.{Went, Ended, Stopped}
use Rattle.kernel_machine.specs.State.{Past, Move, State, Job as Open, Entered, Inside, here, below, code_of}
use Rattle.kernel_machine.specs.Legal.{IsPossible, IsPossibleAt, IsInTimeAt, IsLegal}
use Rattle.kernel_machine.specs.Slices.{Settles, Comes, SlicesAt}
use Rattle.kernel_machine.specs.Runs.{Machine}
use Rattle.machine_laws.specs.Travels.{steps_of, end_world, IsOnTime, SettlesOnTime, NeverFaults, IsMirrored}
use Rattle.kernel_machine.specs.declared.heading.Heading.TheVariants.{GoesOn}
use Rattle.kernel_machine.specs.declared.outcome.Sliced.{Sliced}
use Rattle.kernel_machine.proofs.LanguageLaws.{exec_inverted, part_inverted, exec_no_stop, exec_same}
use Rattle.kernel_machine.proofs.Trees.{run_above, run_below, up_possible, next_below}

-- the code of an undo or a redo has this run
ran_by : (s : Past) (travel : Travel) (way : Way) → IsLegal s → IsPossible s.nodes s.favourites s.position travel → next_way travel ≡ way →
    CodeExec (code_of s (Move travel)) (here s) (steps_of s travel) (end_world s travel)
ran_by s travel Up g p way = rw (way, code_of, steps_of, end_world) (run_above s g (up_possible s travel way p).0)
ran_by s travel Down g p way = rw (way, code_of, steps_of, end_world) (run_below s (below s travel) g (next_below s travel g way p))

pub ran_to_end : (s : Past) (travel : Travel) → IsLegal s → IsPossible s.nodes s.favourites s.position travel →
    CodeExec (code_of s (Move travel)) (here s) (steps_of s travel) (end_world s travel)
ran_to_end s travel g p = ran_by s travel (next_way travel) g p refl

pub never_faults : NeverFaults
never_faults s travel m j fault w g p r = exec_no_stop _ _ _ _ _ _ (ran_to_end s travel g p) r.1

comes_on_time : (s : Past) (travel : Travel) (c m : ℕ) (ran : Progress) (w : World) (told : Sliced) (new : State) → IsLegal s →
    IsPossible s.nodes s.favourites s.position travel →
    Reaches (code_of s (Move travel)) (here s) (c + m) ran w → Comes s (Move travel) (c + m) ran w told new → IsOnTime s travel c m told new
comes_on_time s travel c m Went w told new g p r a =
    let ran = ran_to_end s travel g p in
    (ran, inl (r.1 (steps_of s travel) (end_world s travel) ran, a.0, a.1))
comes_on_time s travel c m (Ended n) w told new g p r a =
    let same = exec_same (code_of s (Move travel)) (here s) n (steps_of s travel) w (end_world s travel) r.0 (ran_to_end s travel g p) in
    let steps : n ≡ steps_of s travel = same.0 in
    let low : n ≤ c + m = r.1 in (
      ran_to_end s travel g p,
      inr (
        subst (λ (x : ℕ). x ≤ c + m) steps low,
        subst (λ (x : World). Settles s (Move travel) (steps_of s travel) x told new) same.1 (subst (λ (x : ℕ). Settles s (Move travel) x w told new) steps a),
      ),
    )
comes_on_time s travel c m (Stopped j fault) w told new g p r a = absurd (never_faults s travel (c + m) j fault w g p r)

slice_on_time : (s : State) (travel : Travel) (c m : ℕ) (job : Open) (told : Sliced) (new : State) →
    job ≡ Inside (record { work = Move travel; count = c; heading = GoesOn }) → IsLegal s.past → IsPossibleAt s.past job → IsInTimeAt s.past job →
    SlicesAt s.past job m false told new → (c < steps_of s.past travel) × IsOnTime s.past travel c m told new
slice_on_time s travel c m job told new e g p t a =
    let inside : Entered = record { work = Move travel; count = c; heading = GoesOn } in
    let goes : SlicesAt s.past (Inside inside) m false told new = subst (λ (j : Open). SlicesAt s.past j m false told new) e a in
    let possible : IsPossibleAt s.past (Inside inside) = subst (λ (j : Open). IsPossibleAt s.past j) e p in
    let in_time : IsInTimeAt s.past (Inside inside) = subst (λ (j : Open). IsInTimeAt s.past j) e t in (
      in_time (steps_of s.past travel) (end_world s.past travel) (ran_to_end s.past travel g possible),
      comes_on_time s.past travel c m goes.0 goes.1 told new g possible goes.2 goes.3,
    )

pub settles_on_time : SettlesOnTime
settles_on_time old new travel c m answer g e a =
    subst (λ (x : State). (c < steps_of old.state.past travel) × IsOnTime old.state.past travel c m answer x) (sym (ap (λ (x : Machine). x.state) a.2))
    (slice_on_time old.state travel c m old.state.job answer a.0 e g.legal g.possible g.in_time a.1)

pub is_mirrored : IsMirrored
is_mirrored cell w u v n j good e p = (exec_inverted cell w n v good e, part_inverted cell w n j u v good e p)
