-- A cell that is begun, and the walk from there.
use Rattle.std.proofs.lemmas.Bool.Decides.{leb_tells}
use Rattle.std.proofs.Common.{◌≡◌, ◌∙◌, ◌+◌, ◌<◌, ◌≤◌, ◌⊎◌, inl, inr, leb, arith, Bool, ℕ, List, [], ◌∷◌, ◌++◌, false, true, map, refl, ap, ap₂, sym, subst}
use Rattle.std.specs.Prelude.{Option, None, Some, IfNone, IfSome, Result, Ok, Err, IsOk, IsTrue, OnOk, IfOk}
use Rattle.std.specs.Io.KnownBytes.{Appends}
use Rattle.exact_write.proofs.SendLemmas.{appends_join}
use Rattle.steps_walk.specs.OpenCell.{IsOpenCell}
use Rattle.steps_walk.specs.open_cell.OpenCell.{OpenCell}
use Rattle.cells_program.specs.Served.{lane}
use Rattle.kernel_machine.specs.Request.{RunCell}
use Rattle.kernel_machine.specs.Runs.{Machine, new_machine, IsPost, IsBegin}
use Rattle.kernel_machine.specs.declared.outcome.Begun.TheVariants.{Going}
use Rattle.steps_walk.specs.Runner.{Is, Inside}
use Rattle.steps_walk.specs.program.Program.{Program}
use Rattle.steps_walk.specs.runner.Runner.{Runner}
use Rattle.steps_walk.specs.Program.{cell_of_program}
use Rattle.steps_walk.specs.Fields.{past_of}
use Rattle.kernel_machine.specs.Language.{Forward}
use Rattle.kernel_machine.specs.State as state
use Rattle.kernel_machine.specs.declared.heading.Heading.TheVariants.{GoesOn}
use Rattle.steps_walk.specs.declared.walk.Walk.{Walk}
use Rattle.steps_walk.specs.Walk.{runner_of, program_of, tree_of, IsWalking}
use Rattle.steps_program.specs.declared.source.Source.{Source}
use Rattle.steps_program.specs.Before.{Stage, Text, Finds, cell_of, sought, text_of}
use Rattle.steps_program.specs.Transcript.{ReadsAll, Transcribes}
use Rattle.steps_program.proofs.Telling.{Goes}
use Rattle.steps_program.specs.Walked.{AreRead, Begins, StandsInside, Enters, TellsWalk, WalksThrough}

-- the walk has the runner and the program of an open cell
pub stands_inside : {L : Type 0} (inside : Machine) (o : OpenCell L) (w : Walk L) → runner_of w ≡ o.runner → program_of w ≡ o.program →
    tree_of w ≡ o.tree → IsOpenCell inside.state o → StandsInside inside w
stands_inside {L} inside o w e f k h = record {
  at = h.at;
  stands = subst (λ (r : Runner L). Is r (Inside (program_of w) h.at false)) (sym e)
      (subst (λ (p : Program). Is o.runner (Inside p h.at false)) (sym f) h.stands);
  code = h.code ∙ ap (λ (p : Program). Forward (cell_of_program p)) (sym f);
  world = h.world;
  past = ap past_of k ∙ h.past;
  job = h.job
      ∙ ap (λ (p : Program). state.Inside (record { work = state.Posted (cell_of_program p); count = h.at.count; heading = GoesOn })) (sym f);
}

pub begun : {E : Type 0} (old posted new : Machine) (text : List ℕ) (number : ℕ) (r : Result (Unit {0}) E) →
    IsPost old lane (RunCell text false true) (Ok number) posted → OnOk r (IsBegin posted Going new) → OnOk r (Begins old text new)
begun old posted new text number (Ok u) p b = (posted, number, p, b)
begun old posted new text number (Err e) p b = tt

pub enters : {L E : Type 0} (old : Machine) (text : List ℕ) (inside : Machine) (r : Result (Walk L) E) → Begins old text inside →
    IfOk r (StandsInside inside) → IfOk r (Enters old text)
enters old text inside (Ok w) begins stands = record { inside = inside; begins = begins; stands = stands }
enters old text inside (Err e) begins stands = tt

pub anyway : {A E : Type 0} (P : Type 0) (r : Result A E) → P → OnOk r P
anyway P (Ok x) h = h
anyway P (Err e) h = tt

-- of what is in an option, or of none
pub some_of : {A : Type 0} (P : A → Type 0) (o : Option A) (a : A) → o ≡ Some a → IfSome o P → P a
some_of {A} P o a e h = subst (λ (x : Option A). IfSome x P) e h

pub none_of : {A : Type 0} (P : Type 0) (o : Option A) → o ≡ None → IfNone o P → P
none_of {A} P o e h = subst (λ (x : Option A). IfNone x P) e h

-- of a test that may fail
pub if_true : {E : Type 0} (r : Result Bool E) (P Q : Type 0) → (P → Q) → IfOk r (λ b. IsTrue b → P) → IfOk r (λ b. IsTrue b → Q)
if_true (Ok b) P Q f h = λ yes. f (h yes)
if_true (Err e) P Q f h = h

-- of each node up to one, and of the next
pub one_more_node : (P : ℕ → Type 0) (k : ℕ) → ((n : ℕ) → 0 < n → n ≤ k → P n) → P (k + 1) → (n : ℕ) → 0 < n → n ≤ k + 1 → P n
one_more_node P k h last n some low = by (leb_tells n k)
  where
    by : ((leb n k ≡ true) × (n ≤ k)) ⊎ ((leb n k ≡ false) × (k < n)) → P n
    by (inl e) = h n some e.1
    by (inr e) = let l = e.1 in let z : k + 1 ≡ n = omega (arith, l, low) in subst P z last

-- what a walk comes to is told for the whole run
pub told_ok : {E F : Type 0} (P : Type 0) (r : Result (Unit {0}) E) (t : Result (Unit {0}) F) → (IsOk t → IsOk r) → OnOk r P → OnOk t P
told_ok P (Ok u) t f h = anyway P t h
told_ok P (Err e) (Ok u) f h = absurd (never (f refl))
  where
    never : false ≡ true → ⊥
    never e = cc
told_ok P (Err e) (Err d) f h = tt

-- the walk is entered, and then its transcript is written
abbrev pub Walks : (L : Type 0) → Machine → List ℕ → List Text → Option (List ℕ) → Option (List ℕ) → Option (List ℕ) → Type 0
Walks L m text texts input a b =
    (w : Walk L) × (told : List ℕ) × IsWalking w × Enters m text w × TellsWalk texts w input told × Appends a b told

pub walked : {L E : Type 0} (m : Machine) (text : List ℕ) (texts : List Text) (input a b : Option (List ℕ)) (w : Walk L) (r : Result (Unit {0}) E) →
    IsWalking w → Enters m text w → OnOk r (Goes (TellsWalk texts w input) a b) → OnOk r (Walks L m text texts input a b)
walked m text texts input a b w (Ok u) walks enters (told, tells, sent) = (w, told, walks, enters, tells, sent)
walked m text texts input a b w (Err e) walks enters h = tt

-- the places that a transcript tells are those of the texts
pub told_as_read : {L E : Type 0} (sources : List Source) (texts : List Text) (w : Walk L) (input a b : Option (List ℕ)) (r : Result (Unit {0}) E) →
    map text_of sources ≡ texts → OnOk r (AreRead sources w) → OnOk r (Goes (Transcribes sources w (ReadsAll input)) a b) →
    OnOk r (Goes (TellsWalk texts w input) a b)
told_as_read sources texts w input a b (Ok u) are read (out, h, sent) =
    (out, record { sources = sources; are = are; read = read; transcribes = h }, sent)
told_as_read sources texts w input a b (Err e) are read h = tt

-- behind what is written of the cells before
module _ (L : Type 0) {E : Type 0} (cell : Option ℕ) (file : List ℕ) (input a b c : Option (List ℕ)) (m : Machine) (texts : List Text) (text : Text) where
  pub whole : (s : Stage) (before : List ℕ) → Finds (sought cell file) file new_machine s before → s.machine ≡ m → texts ≡ s.ran → text ≡ cell_of s →
      Appends a b before → (r : Result (Unit {0}) E) → OnOk r (Walks L m text.0 (texts ++ text ∷ []) input b c) →
      OnOk r (Goes (WalksThrough L cell file input) a c)
  whole s before finds at are is sent (Ok u) (w, told, walks, entered, tells, more) = (
    before ++ told,
    record {
      stage = s;
      before = before;
      finds = finds;
      walk = w;
      walks = walks;
      enters = subst (λ (n : Machine). Enters n s.gathered w) (sym at) (subst (λ (t : List ℕ). Enters m t w) (ap (λ (t : Text). t.0) is) entered);
      told = told;
      tells = subst (λ (l : List Text). TellsWalk l w input told) (ap₂ (λ (xs : List Text) (x : Text). xs ++ x ∷ []) are is) tells;
      is = refl;
    },
    appends_join a b c before told sent more,
  )
  whole s before finds at are is sent (Err e) h = tt
