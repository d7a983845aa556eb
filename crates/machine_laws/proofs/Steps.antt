-- The number of steps that a slice takes: it is the only one, and the counts tell it.
use Rattle.std.specs.Prelude.{Bool, true, false}
use Rattle.std.proofs.Common.{◌≡◌, ℕ, ◌+◌, ◌-◌, ◌<◌, ◌≤◌, zero, suc, sym, ap, ◌∙◌, subst, arith, inl, inr}
use Rattle.std.proofs.lemmas.Bool.{cases_lt}
use Rattle.janus_meaning.specs.World.{World}
use Rattle.janus_meaning.specs.Faults.{fault_of}
use Rattle.kernel_machine.specs.Language.{CodePart}
use Rattle.kernel_machine.specs.Reached.{Reaches}
use Rattle.kernel_machine.specs.declared.progress.Progress.{Progress}
use Rattle.kernel_machine.specs.declared.progress.Progress.TheVariants.{Went, Ended, Stopped}
use Rattle.kernel_machine.specs.State.{Past, State, Work, Posted, Move, Job, Entered, Idle, Border, Inside, here, code_of, ShownAt}
use Rattle.kernel_machine.specs.Legal.{IsLegal, IsPossibleAt, IsPossibleWork, IsInTimeAt, IsInTime}
use Rattle.kernel_machine.specs.Slices.{HasEnded, Backs, Comes, SlicesIn, SlicesAt}
use Rattle.machine_laws.specs.Travels.{end_world}
use Rattle.kernel_machine.specs.declared.heading.Why.{Why}
use Rattle.kernel_machine.specs.declared.heading.Why.TheVariants.{WasAsked, Faulted}
use Rattle.kernel_machine.specs.declared.heading.Heading.{Heading}
use Rattle.kernel_machine.specs.declared.heading.Heading.TheVariants.{GoesOn, GoesBack}
use Rattle.kernel_machine.specs.declared.outcome.Sliced.{Sliced}
use Rattle.kernel_machine.specs.StepsOfSlices.{steps_on, TakesOn, TakesIn, TakesAt}
use Rattle.machine_laws.specs.CountedSteps.{TakesOneNumber, StaysAt, AreStepsOfNode, IsDoneIn, CountsOn, CountsBack, CountsIn, StepsAreCounted}
use Rattle.kernel_machine.proofs.LanguageLaws.{exec_same, stop_no_part}
use Rattle.machine_laws.proofs.Determined.{reach_same}
use Rattle.machine_laws.proofs.OnTime.{ran_to_end}

-- ---- one number

takes_on_same : (s : Past) (work : Work) (c m k j : ℕ) → TakesOn s work c m k → TakesOn s work c m j → k ≡ j
takes_on_same s work c m k j a b =
    let same = reach_same (code_of s work) (here s) (c + m) a.0 b.0 a.1 b.1 a.2 b.2 in
    a.3 ∙ ap (λ (ran : Progress). steps_on c m ran) same.0 ∙ sym b.3

takes_in_same : (s : Past) (work : Work) (c : ℕ) (heading : Heading) (m k j : ℕ) (asked : Bool) → TakesIn s work c heading m asked k →
    TakesIn s work c heading m asked j → k ≡ j
takes_in_same s work c GoesOn m k j false a b = takes_on_same s work c m k j a b
takes_in_same s work c GoesOn m k j true a b = a ∙ sym b
takes_in_same s work c (GoesBack why) m k j asked a b = a ∙ sym b

takes_same : (s : Past) (job : Job) (m k j : ℕ) (asked : Bool) → TakesAt s job m asked k → TakesAt s job m asked j → k ≡ j
takes_same s Idle m k j asked a b = a ∙ sym b
takes_same s (Border travel) m k j asked a b = a ∙ sym b
takes_same s (Inside e) m k j asked a b = takes_in_same s e.work e.count e.heading m k j asked a b

pub takes_one_number : TakesOneNumber
takes_one_number s m k j asked a b = takes_same s.past s.job m k j asked a b

-- ---- the counts

back_counts : (s : Past) (work : Work) (why : Why) (c left k : ℕ) (told : Sliced) (new : State) → left ≤ c → k ≡ c - left → Backs s work why left told new →
    CountsBack s work c k new
back_counts s work why c zero k told new l e b = inr (b.1, omega arith)
back_counts s work why c (suc left) k told new l e b = inl (suc left, omega arith, (GoesBack why, b.1))

-- the cell that came to its end took the steps that its node has
steps_of_node : (s : Past) (work : Work) (n : ℕ) (w : World) → IsLegal s → IsPossibleWork s work → HasEnded s work n w → AreStepsOfNode s work n
steps_of_node s (Posted cell) n w g p e = tt
steps_of_node s (Move travel) n w g p e = (exec_same (code_of s (Move travel)) (here s) n _ w (end_world s travel) e (ran_to_end s travel g p)).0

-- a fault that code meets stands no earlier than where it stands
no_earlier : (s : Past) (work : Work) (c m j : ℕ) (w : World) (fault : _) → IsInTime s work c GoesOn → (v : World) × CodePart (code_of s work) (here s) c v →
    Reaches (code_of s work) (here s) m (Stopped j fault) w → c ≤ j
no_earlier s work c m j w fault t v r = elim (cases_lt j c) [
  | inl l ↦ absurd (stop_no_part (code_of s work) (here s) j c v.0 (fault_of fault) r.1 l v.1 (λ u e. (let low : c < c = t c u e in omega arith)))
  | inr l ↦ l
]

stop_counts : (s : Past) (work : Work) (c j k : ℕ) (why : Why) (told : Sliced) (new : State) → c ≤ j → k ≡ j - c → Backs s work why j told new →
    CountsOn s work c k told new
stop_counts s work c zero k why told new l e b = inr (inr (b.1, omega arith, omega arith))
stop_counts s work c (suc j) k why told new l e b =
    let count : suc j ≡ c + k = omega arith in
    inl (subst (λ (n : ℕ). StaysAt s work n new) count (GoesBack why, b.1))

comes_counts : (s : Past) (work : Work) (c m k : ℕ) (ran : Progress) (w : World) (told : Sliced) (new : State) → IsLegal s → IsPossibleWork s work →
    IsInTime s work c GoesOn → (v : World) × CodePart (code_of s work) (here s) c v →
    k ≡ steps_on c m ran → Reaches (code_of s work) (here s) (c + m) ran w → Comes s work (c + m) ran w told new → CountsOn s work c k told new
comes_counts s work c m k Went w told new g p t v e r a =
    let count : c + m ≡ c + k = omega arith in
    inl (subst (λ (n : ℕ). StaysAt s work n new) count (GoesOn, a.1))
comes_counts s work c m k (Ended n) w told new g p t v e r a =
    let low : c < n = t n w r.0 in
    let count : n ≡ c + k = omega arith in
    inr (inl (subst (λ (i : ℕ). IsDoneIn s work i told new) count (w, r.0, a, steps_of_node s work n w g p r.0)))
comes_counts s work c m k (Stopped j fault) w told new g p t v e r a =
    stop_counts s work c j k (Faulted fault j) told new (no_earlier s work c (c + m) j w fault t v r) e a

in_counts : (s : Past) (work : Work) (c : ℕ) (heading : Heading) (m k : ℕ) (asked : Bool) (told : Sliced) (new : State) → IsLegal s → IsPossibleWork s work →
    IsInTime s work c heading → (v : World) × CodePart (code_of s work) (here s) c v →
    SlicesIn s work c heading m asked told new → TakesIn s work c heading m asked k → CountsIn s work c heading asked k told new
in_counts s work c GoesOn m k false told new g p t v a b =
    let same = reach_same (code_of s work) (here s) (c + m) a.0 b.0 a.1 b.1 a.2 b.2 in
    comes_counts s work c m k a.0 a.1 told new g p t v (b.3 ∙ ap (λ (ran : Progress). steps_on c m ran) (sym same.0)) a.2 a.3
in_counts s work c GoesOn m k true told new g p t v a b = back_counts s work (WasAsked c) c (c - m) k told new (omega arith) b a
in_counts s work c (GoesBack why) m k asked told new g p t v a b = back_counts s work why c (c - m) k told new (omega arith) b a

at_counts : (s : Past) (job : Job) (e : Entered) (m k : ℕ) (asked : Bool) (told : Sliced) (new : State) → job ≡ Inside e → IsLegal s → IsPossibleAt s job →
    IsInTimeAt s job → (v : World) × ShownAt s job v →
    SlicesAt s job m asked told new → TakesAt s job m asked k → CountsIn s e.work e.count e.heading asked k told new
at_counts s job e m k asked told new f g p t v a b =
    in_counts s e.work e.count e.heading m k asked told new g (subst (λ (j : Job). IsPossibleAt s j) f p) (subst (λ (j : Job). IsInTimeAt s j) f t)
    (subst (λ (j : Job). (w : World) × ShownAt s j w) f v) (subst (λ (j : Job). SlicesAt s j m asked told new) f a)
    (subst (λ (j : Job). TakesAt s j m asked k) f b)

pub steps_are_counted : StepsAreCounted
steps_are_counted s new e m k asked answer g f a b = at_counts s.past s.job e m k asked answer new f g.legal g.possible g.in_time g.shown a b
