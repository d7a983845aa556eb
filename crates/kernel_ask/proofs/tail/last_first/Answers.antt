use Rattle.std.proofs.Common.{◌≡◌, ◌≤◌, ◌<◌, suc, [], ◌∷◌, ◌++◌, refl, map, drop, reverse, sym, ap, ◌∙◌, arith}
use Rattle.kernel_text.specs.Written.{entry_of}
use Rattle.kernel_ask.specs.History.{inputs, input_of}
use Rattle.kernel_ask.specs.Tail.{counted_in}
use Rattle.kernel_ask.proofs.Walk.{mapped, counted_text, begun_behind, waiting_behind, none_counted, none_left, told_before}
use Rattle.kernel_ask.proofs.tail.last_first.Goals as goal
use Rattle.kernel_ask.proofs.tail.last_first.Goals.{then-number-counter+in_ok-add, else-number-counter, in-Some+then-number-before, in_default}

pub loop-entry-preserved-after-number-counter : goal.loop-entry-preserved-after-number-counter
loop-entry-preserved-after-number-counter c =
    let front = map entry_of c.in-Some.front.now in
    let x = entry_of c.in-Some.entry.now in
    let t = c.in-Some-counted_code.code.now in
    let one = c.in-Some-counted_code.ensures in
    let k = c.args.counter in
    let number = c.loop-entry.number in
    let last = mapped c.loop-entry.rest.now c.in-Some.front.now c.in-Some.entry.now x c.in-Some.ensures.cases.0 refl in
    let is : number ≡ suc (counted_in front) = c.loop-entry.invariant.number ∙ ap counted_in last ∙ counted_text front x t one in
    let low : c.args.before < number = omega (arith, c.loop-entry.invariant.within, c.if-number-before.false) in
    let so_far = sym (ap (λ es. drop c.args.before (inputs es k) ++ reverse (map input_of c.loop-entry.told.items)) last) ∙ c.loop-entry.invariant.told in
    record {
      number = omega arith;
      within = omega arith;
      told =
          elim c.if-number-counter.branch [
            | then-number-counter+in_ok-add w ↦
                told_before (drop c.args.before (inputs front k)) [] (drop c.args.before (inputs (front ++ x ∷ []) k)) (map input_of c.loop-entry.told.items)
                (map input_of c.if-number-counter.told.items) (number, t)
                (begun_behind front x t k c.args.before number one is w.if-number-counter.true low)
                (ap (λ v. map input_of v.items) w.told-is ∙ w.in_ok-add.ensures)
                ∙ so_far
            | else-number-counter w ↦
                ap (λ v. drop c.args.before (inputs front k) ++ reverse (map input_of v.items)) w.told-is
                ∙ ap (λ is. drop c.args.before is ++ reverse (map input_of c.loop-entry.told.items))
                (sym (waiting_behind front x t k one (omega (arith, w.if-number-counter.false))))
                ∙ so_far
          ];
    }

pub returns : goal.returns
returns c =
    let rest = map entry_of c.loop-entry.rest.now in
    let none : counted_in rest ≤ c.args.before =
    elim c.match-split_last.branch [
      | in-Some+then-number-before w ↦ omega (arith, c.loop-entry.invariant.number, w.if-number-before.true)
      | in_default w ↦ (let none = none_counted c.loop-entry.rest.now w.in_default.ensures.cases in omega arith)
    ] in
    ap (λ is. is ++ reverse (map input_of c.loop-entry.told.items)) (sym (none_left rest c.args.counter c.args.before none)) ∙ c.loop-entry.invariant.told
