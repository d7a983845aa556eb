-- A begin with a given answer leads to one machine, whatever memory was wanting.
use Rattle.std.proofs.Common.{◌≡◌, ◌∙◌, ℕ, ◌+◌, Bool, true, false, List, [], ◌∷◌, zero, suc, inl, inr, sym, ap, subst}
use Rattle.janus_meaning.specs.World.{Cell}
use Rattle.kernel_machine.specs.State.{Past, State, Posted, Job as Open, Idle, Border, Inside, here, is_full}
use Rattle.kernel_machine.specs.Legal.{can_undo, can_redo}
use Rattle.kernel_machine.specs.Slices.{cells}
use Rattle.kernel_machine.specs.Begins.{travel_to, Enters, Departs, TakesMove, TakesGoto, TakesCell}
use Rattle.kernel_machine.specs.Runs.{Machine, BeginsAt, IsBegin, Takes, TakesUnless, noted, end_of_begun}
use Rattle.kernel_machine.specs.Request.{Request, RunCell, Undo, Redo, Goto, raised}
use Rattle.kernel_machine.specs.declared.travel.Aim.TheVariants as aim
use Rattle.kernel_machine.specs.declared.travel.Travel.{Travel}
use Rattle.kernel_machine.specs.declared.heading.Heading.TheVariants.{GoesOn}
use Rattle.kernel_machine.specs.declared.outcome.Begun.{Begun}
use Rattle.kernel_machine.proofs.Trees.{meeting_same}
use Rattle.machine_laws.proofs.Refusals.{one_cell}

enters : (s : Past) (t : Travel) (told : Begun) (new other : State) → Enters s t told new → Enters s t told other → new ≡ other
enters s t told new other a b = elim a [
  | inl x ↦ elim b [ inl y ↦ x.1 ∙ sym y.1 | inr y ↦ absurd (let e = sym x.0 ∙ y.0 in cc) ]
  | inr x ↦ elim b [ inl y ↦ absurd (let e = sym y.0 ∙ x.0 in cc) | inr y ↦ x.2 ∙ sym y.2 ]
]

departs : (left : ℕ) (s : Past) (t : Travel) (told : Begun) (new other : State) → Departs left s t told new → Departs left s t told other → new ≡ other
departs zero s t told new other a b = a.1 ∙ sym b.1
departs (suc left) s t told new other a b = enters s t told new other a b

move : (s : Past) (t : Travel) (can : Bool) (told : Begun) (new other : State) → TakesMove s t can told new → TakesMove s t can told other → new ≡ other
move s t false told new other a b = a.1 ∙ sym b.1
move s t true told new other a b = departs (cells t) s t told new other a b

goto : (s : Past) (n : ℕ) (known : Bool) (told : Begun) (new other : State) → TakesGoto s n known told new → TakesGoto s n known told other → new ≡ other
goto s n false told new other a b = a.1 ∙ sym b.1
goto s n true told new other a b =
    let same = meeting_same s.nodes s.position n a.0 a.1 b.0 b.1 a.2 b.2 in
    departs (a.0 + a.1) s (travel_to (aim.Goto n) a.0 a.1) told new other a.3
    (subst (λ (j : ℕ). Departs (a.0 + j) s (travel_to (aim.Goto n) a.0 j) told other) (sym same.1)
    (subst (λ (i : ℕ). Departs (i + b.1) s (travel_to (aim.Goto n) i b.1) told other) (sym same.0) b.3))

cell : (s : Past) (text : List ℕ) (full : Bool) (told : Begun) (new other : State) → TakesCell s text full told new → TakesCell s text full told other →
    new ≡ other
cell s text true told new other a b = a.1 ∙ sym b.1
cell s text false told new other a b = elim a [
  | inl x ↦ elim b [
    | inl y ↦
        (let same : x.0 ≡ y.0 = one_cell (here s) text x.0 y.0 x.1 y.1 in
        x.3 ∙ ap (λ (c : Cell). record { past = s; job = Inside (record { work = Posted c; count = 0; heading = GoesOn }) }) same ∙ sym y.3)
    | inr y ↦ absurd (let e = sym x.2 ∙ y.2 in cc)
  ]
  | inr x ↦ elim b [ inl y ↦ absurd (let e = sym y.2 ∙ x.2 in cc) | inr y ↦ x.3 ∙ sym y.3 ]
]

takes : (s : Past) (r : Request) (told : Begun) (new other : State) → Takes s r told new → Takes s r told other → new ≡ other
takes s (RunCell text silent store) told new other a b = cell s text (is_full s) told new other a b
takes s (Undo k) told new other a b = move s (travel_to aim.Undo k 0) (can_undo s.nodes s.position k) told new other a b
takes s (Redo k) told new other a b = move s (travel_to aim.Redo 0 k) (can_redo s.favourites s.position k) told new other a b
takes s (Goto n) told new other a b = goto s n _ told new other a b

taken : (closing : Bool) (s : Past) (r : Request) (told : Begun) (new other : State) → TakesUnless closing s r told new → TakesUnless closing s r told other →
    new ≡ other
taken false s r told new other a b = takes s r told new other a b
taken true s r told new other a b = a.1 ∙ sym b.1

begins : (old : Machine) (job : Open) (queue : List Request) (told : Begun) (new other : Machine) → BeginsAt old job queue told new →
    BeginsAt old job queue told other → new ≡ other
begins old Idle [] told new other a b = a.1 ∙ sym b.1
begins old Idle (first ∷ rest) told new other a b =
    let same = taken old.closing old.state.past first told a.0 b.0 a.1 b.1 in
    a.2 ∙ ap (λ (x : State). record old { state = x; queue = rest; counter = raised old.counter first }) same ∙ sym b.2
begins old (Border t) queue told new other a b =
    let same = enters old.state.past t told a.0 b.0 a.1 b.1 in
    a.2 ∙ ap (λ (x : State). record old { state = x }) same ∙ sym b.2
begins old (Inside e) queue told new other a b = a.1 ∙ sym b.1

pub one_begin : (old : Machine) (told : Begun) (new other : Machine) → IsBegin old told new → IsBegin old told other → new ≡ other
one_begin old told new other a b =
    let same = begins old old.state.job old.queue told a.0 b.0 a.1 b.1 in
    a.2 ∙ ap (λ (x : Machine). noted x (end_of_begun told)) same ∙ sym b.2
