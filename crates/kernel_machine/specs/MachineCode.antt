-- How the machine's states are stored, so that contracts can have them as values.
use Rattle.std.specs.Prelude.{ℕ, ◌⊎◌, List, Bool, refl, ◌≡◌}
use Rattle.std.specs.Coded.{Coded, code_by, coded×, coded⊎, coded_ℕ, coded_bool, coded_list}
use Rattle.std.proofs.Common.{inl, inr}
use Rattle.kernel_machine.specs.State.{State}
use Rattle.kernel_machine.specs.StateCode.{state_code}
use Rattle.kernel_machine.specs.Request.{Request, RunCell, Undo, Redo, Goto}
use Rattle.kernel_machine.specs.Minutes.{Entry, Posted, Ended}
use Rattle.kernel_machine.specs.Runs.{Machine, Seen}
use Rattle.kernel_machine.specs.declared.outcome.Outcome.{Outcome}
use Rattle.kernel_machine.specs.contracts.outcome.Outcome.{the_row as outcome_row}

abbrev request_parts : Request → (List ℕ × (Bool × Bool)) ⊎ (ℕ ⊎ (ℕ ⊎ ℕ))
request_parts (RunCell text silent store) = inl (text, (silent, store))
request_parts (Undo k) = inr (inl k)
request_parts (Redo k) = inr (inr (inl k))
request_parts (Goto n) = inr (inr (inr n))

abbrev parts_request : (List ℕ × (Bool × Bool)) ⊎ (ℕ ⊎ (ℕ ⊎ ℕ)) → Request
parts_request (inl p) = RunCell p.0 p.1.0 p.1.1
parts_request (inr (inl k)) = Undo k
parts_request (inr (inr (inl k))) = Redo k
parts_request (inr (inr (inr n))) = Goto n

pub request_back : (r : Request) → parts_request (request_parts r) ≡ r
request_back (RunCell text silent store) = refl
request_back (Undo k) = refl
request_back (Redo k) = refl
request_back (Goto n) = refl

abbrev request_code : Coded Request
request_code =
    code_by ((List ℕ × (Bool × Bool)) ⊎ (ℕ ⊎ (ℕ ⊎ ℕ)))
    (coded⊎ (coded× (coded_list coded_ℕ) (coded× coded_bool coded_bool)) (coded⊎ coded_ℕ (coded⊎ coded_ℕ coded_ℕ)))
    request_parts parts_request request_back

abbrev entry_parts : Entry → (ℕ × Request) ⊎ (ℕ × (Outcome × (ℕ × ℕ)))
entry_parts (Posted lane job) = inl (lane, job)
entry_parts (Ended number o count node) = inr (number, (o, (count, node)))

abbrev parts_entry : (ℕ × Request) ⊎ (ℕ × (Outcome × (ℕ × ℕ))) → Entry
parts_entry (inl p) = Posted p.0 p.1
parts_entry (inr p) = Ended p.0 p.1.0 p.1.1.0 p.1.1.1

pub entry_back : (e : Entry) → parts_entry (entry_parts e) ≡ e
entry_back (Posted lane job) = refl
entry_back (Ended number o count node) = refl

abbrev entry_code : Coded Entry
entry_code =
    code_by ((ℕ × Request) ⊎ (ℕ × (Outcome × (ℕ × ℕ))))
    (coded⊎ (coded× coded_ℕ request_code) (coded× coded_ℕ (coded× outcome_row.coded (coded× coded_ℕ coded_ℕ))))
    entry_parts parts_entry entry_back

abbrev pub machine_code : Coded Machine
machine_code =
    code_by (State × (List Request × (ℕ × (List Entry × Bool))))
    (coded× state_code (coded× (coded_list request_code) (coded× coded_ℕ (coded× (coded_list entry_code) coded_bool))))
    (λ m. (m.state, (m.queue, (m.counter, (m.minutes, m.closing)))))
    (λ p. record { state = p.0; queue = p.1.0; counter = p.1.1.0; minutes = p.1.1.1.0; closing = p.1.1.1.1 }) (λ _. refl)

abbrev pub seen_code : Coded Seen
seen_code =
    code_by (Machine × (ℕ × ℕ)) (coded× machine_code (coded× coded_ℕ coded_ℕ)) (λ k. (k.machine, (k.writes, k.steps)))
    (λ p. record { machine = p.0; writes = p.1.0; steps = p.1.1 }) (λ _. refl)
