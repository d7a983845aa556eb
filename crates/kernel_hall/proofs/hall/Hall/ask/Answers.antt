use Rattle.std.proofs.Common.{◌≡◌, ℕ, List, Result, Ok, Err, IfOk, rules, sym, subst}
use Rattle.hall_state.specs.Runs.{Machine}
use Rattle.hall_state.specs.Course.{IsKernelSeen}
use Rattle.hall_state.specs.Passes.{PassOf}
use Rattle.hall_state.specs.Notes.{comms_in}
use Rattle.hall_state.specs.Answer.{IsAnswer}
use Rattle.hall_state.specs.answer.Ask.{Ask}
use Rattle.hall_state.specs.answer.Answer.{Answer}
use Rattle.hall_state.specs.answer.HallFault.{HallFault}
use Rattle.kernel_hall.proofs.hall.Hall.ask.Goals as goal

-- an answer of the kernel that was seen, and of the comms that were open then
answered : (r : Result Answer HallFault) (k : Machine) (ids comms : List (List ℕ)) (pass : PassOf) (a : Ask) → IfOk r (IsAnswer k ids a)
    → IsKernelSeen pass k → comms ≡ ids → IfOk r (λ answer. (x : Machine) × IsKernelSeen pass x × IsAnswer x comms a answer)
answered (Ok answer) k ids comms pass a is seen same = (k, seen, subst (λ (c : List (List ℕ)). IsAnswer k c a answer) (sym same) is)
answered (Err fault) k ids comms pass a is seen same = tt

-- what the text alone tells is the answer of that kernel too
pub returns-in-IsComplete-clause-answer : goal.returns-in-IsComplete-clause-answer
returns-in-IsComplete-clause-answer g c =
    let k = c.deref-in-IsComplete.result.now.kernel.machine in
    let pass = c.take_question.new.pass in
    let comms = comms_in pass.notes in
    let same : c.take_question.new.self.kernel.machine ≡ k = search rules in (
      k,
      subst (λ (m : Machine). IsKernelSeen pass m) same c.take_question.ensures.kernel_seen,
      subst (λ (a : Ask). IsAnswer k comms a c.judge.result) (sym c.in-IsComplete.is) (c.judge.ensures k comms c.seen-seen.ensures.seen),
    )

pub returns-in_default-clause-answer : goal.returns-in_default-clause-answer
returns-in_default-clause-answer g c =
    let k = c.deref-in_default.result.now.kernel.machine in
    let pass = c.take_question.new.pass in
    let same : c.take_question.new.self.kernel.machine ≡ k = search rules in
    answered c.ask.result k _ (comms_in pass.notes) pass c.args.ask c.ask.ensures.answer
    (subst (λ (m : Machine). IsKernelSeen pass m) same c.take_question.ensures.kernel_seen) (search rules)
