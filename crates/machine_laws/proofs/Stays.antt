-- Each state that a run reaches is legal.
use Rattle.std.proofs.Common.{ℕ, ◌≤◌, [], ◌∷◌, sym, ap, subst}
use Rattle.kernel_machine.specs.Language.{Forward}
use Rattle.kernel_machine.specs.State.{Past, Work, Posted, Move, Job as Open, Inside, here, code_of}
use Rattle.kernel_machine.specs.Midway.{count_of, IsReason, Holds}
use Rattle.kernel_machine.specs.LegalState.{WasBegun, HasBegun}
use Rattle.kernel_machine.specs.Runs.{Machine}
use Rattle.kernel_machine.specs.Request.{Request, RunCell, Undo, Redo, Goto}
use Rattle.machine_laws.specs.Theorems.{StaysLegal, GoesBackForItsReason}
use Rattle.kernel_machine.specs.declared.heading.Why.{Why}
use Rattle.kernel_machine.specs.declared.heading.Heading.TheVariants.{GoesBack}
use Rattle.kernel_machine.proofs.Stays.{legal_at, step_legal}

pub stays_legal : StaysLegal
stays_legal old new [] [] g r = legal_at old.state new.state (ap (λ (m : Machine). m.state) r) g
stays_legal old new [] (t ∷ answers) g r = absurd r
stays_legal old new (e ∷ events) [] g r = absurd r
stays_legal old new (e ∷ events) (t ∷ answers) g r = stays_legal r.0 new events answers (step_legal old e t r.0 g r.1) r.2

-- ---- jobs that go back

reason_in : (p : Past) (r : Request) (s : Past) (work : Work) (c : ℕ) (why : Why) →
    Holds p r (record { past = s; job = Inside (record { work = work; count = c; heading = GoesBack why }) }) →
    (c ≤ count_of why) × IsReason (code_of s work) (here s) why
reason_in p (RunCell text silent store) s (Posted cell) c why h =
    subst (λ (x : Past). (c ≤ count_of why) × IsReason (Forward cell) (here x) why) (sym h.0.0.same) h.0.1
reason_in p (RunCell text silent store) s (Move t) c why h = absurd h.0
reason_in p (Undo k) s (Posted cell) c why h = absurd h.0
reason_in p (Undo k) s (Move t) c why h = h.0.1
reason_in p (Redo k) s (Posted cell) c why h = absurd h.0
reason_in p (Redo k) s (Move t) c why h = h.0.1
reason_in p (Goto n) s (Posted cell) c why h = absurd h.1.3
reason_in p (Goto n) s (Move t) c why h = h.1.3.1

pub goes_back_for_its_reason : GoesBackForItsReason
goes_back_for_its_reason s work c why g e =
    let begun : WasBegun (record { past = s.past; job = Inside (record { work = work; count = c; heading = GoesBack why }) }) =
    subst (λ (job : Open). HasBegun s.past job) e g.begun in
    reason_in begun.before begun.job s.past work c why begun.holds
