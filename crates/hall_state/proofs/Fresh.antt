-- A legal kernel with no minutes that serves is a new one.
use Rattle.std.proofs.Common.{◌≡◌, ◌∙◌, ℕ, Bool, false, List, [], refl, ap, subst}
use Rattle.kernel_audit.specs.Request.{Request}
use Rattle.kernel_audit.specs.Minutes.{Entry}
use Rattle.kernel_audit.specs.State.{Past, State, Job as Open, Idle, Border, Inside, new_state}
use Rattle.kernel_audit.specs.Runs.{Machine, new_machine}
use Rattle.kernel_audit.specs.LegalMinutes.{Account, new_account, Give, IsOpen, Agrees, IsLegalMachine}

-- nothing is open where nothing waits
none_open : (a : Account) (m : Machine) → a ≡ new_account → IsOpen a a.waiting m → m ≡ new_machine
none_open a m none h = absurd (subst (λ (x : Account). IsOpen x x.waiting m) none h)

by_job : (a : Account) (m : Machine) (job : Open) → m.state.job ≡ job → a ≡ new_account → m.minutes ≡ [] → m.closing ≡ false → Agrees a m job → m ≡ new_machine
by_job a m Idle at none empty serves h =
    let past : m.state.past ≡ new_state.past = h.0 ∙ ap (λ (x : Account). x.past) none in
    let counter : m.counter ≡ 0 = h.1 ∙ ap (λ (x : Account). x.counter) none in
    let queue : m.queue ≡ [] = h.2 ∙ ap (λ (x : Account). x.waiting) none in
    let state : m.state ≡ new_state =
    ap (λ (p : Past). record { past = p; job = m.state.job }) past ∙ ap (λ (j : Open). record { past = new_state.past; job = j }) at in
    ap (λ (s : State). record m { state = s }) state
    ∙ ap (λ (q : List Request). record m { state = new_state; queue = q }) queue
    ∙ ap (λ (n : ℕ). record { state = new_state; queue = []; counter = n; minutes = m.minutes; closing = m.closing }) counter
    ∙ ap (λ (l : List Entry). record { state = new_state; queue = []; counter = 0; minutes = l; closing = m.closing }) empty
    ∙ ap (λ (b : Bool). record { state = new_state; queue = []; counter = 0; minutes = []; closing = b }) serves
by_job a m (Border travel) at none empty serves h = none_open a m none h
by_job a m (Inside e) at none empty serves h = none_open a m none h

pub is_new : (m : Machine) → IsLegalMachine m → m.minutes ≡ [] → m.closing ≡ false → m ≡ new_machine
is_new m legal empty serves =
    let h = legal.minutes in
    let none : h.account ≡ new_account = subst (λ (l : List Entry). Give new_account l h.account) empty h.given in
    by_job h.account m m.state.job refl none empty serves h.agrees
