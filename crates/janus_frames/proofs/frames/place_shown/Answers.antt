use Rattle.std.proofs.Common.{◌≡◌, ◌+◌, ◌^◌, ◌∷◌, length, drop, ap, refl, ◌∙◌, subst, arith, true, false}
use Rattle.std.proofs.Common.{length-take-le}
use Rattle.std.specs.Prelude.{reverse}
use Rattle.janus_frames.specs.Calls.{slots_of}
use Rattle.janus_frames.specs.Cells.{from, has}
use Rattle.janus_frames.specs.Shown.{through, place_in}
use Rattle.janus_frames.specs.declared.frames.OpenCall.{OpenCall}
use Rattle.janus_frames.proofs.Following.{followed, stopped, drop-next, drop-all, low-at, place-low}
use Rattle.janus_frames.proofs.frames.place_shown.Goals as goal

pub overflow_sub-slot : goal.overflow_sub-slot
overflow_sub-slot c =
    let os = c.args.calls.now in
    let i = c.loop-i.i in
    let call = c.index-calls-i.result in
    let xs = slots_of call.args in
    let rest = drop (i + 1) os in
    let front : drop i os ≡ call ∷ rest = drop-next os i (i + 1) call (omega arith) (omega arith) c.index-calls-i.is in
    let some = subst (λ xs. (has xs c.loop-i.slot ≡ true) × (c.in-Some.place ≡ place_in xs c.loop-i.slot)) c.slots.ensures c.in-Some.ensures.some in
    let many : length xs ≡ call.args.count = length-take-le call.args.count call.args.slots (omega (arith, call.args.few, call.args.long)) in
    let low = place-low xs c.loop-i.slot some.0 in
    omega (arith, low, many, some.1)

pub overflow_add-slot : goal.overflow_add-slot
overflow_add-slot c =
    let os = c.args.calls.now in
    let i = c.loop-i.i in
    let call = c.index-calls-i.result in
    let xs = slots_of call.args in
    let rest = drop (i + 1) os in
    let front : drop i os ≡ call ∷ rest = drop-next os i (i + 1) call (omega arith) (omega arith) c.index-calls-i.is in
    let some = subst (λ xs. (has xs c.loop-i.slot ≡ true) × (c.in-Some.place ≡ place_in xs c.loop-i.slot)) c.slots.ensures c.in-Some.ensures.some in
    let many : length xs ≡ call.args.count = length-take-le call.args.count call.args.slots (omega (arith, call.args.few, call.args.long)) in
    let low = place-low xs c.loop-i.slot some.0 in
    omega (arith, low, many, some.1, call.args.few)

pub loop-i-preserved : goal.loop-i-preserved
loop-i-preserved c =
    let os = c.args.calls.now in
    let i = c.loop-i.i in
    let call = c.index-calls-i.result in
    let xs = slots_of call.args in
    let rest = drop (i + 1) os in
    let front : drop i os ≡ call ∷ rest = drop-next os i (i + 1) call (omega arith) (omega arith) c.index-calls-i.is in
    let some = subst (λ xs. (has xs c.loop-i.slot ≡ true) × (c.in-Some.place ≡ place_in xs c.loop-i.slot)) c.slots.ensures c.in-Some.ensures.some in
    let many : length xs ≡ call.args.count = length-take-le call.args.count call.args.slots (omega (arith, call.args.few, call.args.long)) in
    let low = place-low xs c.loop-i.slot some.0 in
    record {
      low = omega (arith, low, many, some.1, call.args.few);
      value = λ v. c.loop-i.invariant.value v
          ∙ ap (λ l. through v (from v c.args.base) (reverse l) c.loop-i.slot) front
          ∙ followed v (from v c.args.base) call rest c.loop-i.slot some.0
          ∙ ap (λ n. through v (from v c.args.base) (reverse rest) n) (omega (arith, some.1, many));
    }

pub overflow_add-result : goal.overflow_add-result
overflow_add-result c =
    let os = c.args.calls.now in
    let i = c.loop-i.i in
    let call = c.index-calls-i.result in
    let xs = slots_of call.args in
    let rest = drop (i + 1) os in
    let front : drop i os ≡ call ∷ rest = drop-next os i (i + 1) call (omega arith) (omega arith) c.index-calls-i.is in
    let l = low-at (2 ^ 63) os i call c.requires.calls (omega arith) in
    let z = ap (λ (c : OpenCall). c.base) c.index-calls-i.is in
    omega (arith, l, z, c.loop-i.invariant.low)

pub returns-in-None : goal.returns-in-None
returns-in-None c = λ v.
    let os = c.args.calls.now in
    let i = c.loop-i.i in
    let call = c.index-calls-i.result in
    let xs = slots_of call.args in
    let rest = drop (i + 1) os in
    let front : drop i os ≡ call ∷ rest = drop-next os i (i + 1) call (omega arith) (omega arith) c.index-calls-i.is in
    let none : has xs c.loop-i.slot ≡ false = subst (λ xs. has xs c.loop-i.slot ≡ false) c.slots.ensures (c.in-None.ensures.none refl) in
    c.loop-i.invariant.value v ∙ ap (λ l. through v (from v c.args.base) (reverse l) c.loop-i.slot) front
    ∙ stopped v (from v c.args.base) call rest c.loop-i.slot none

pub returns : goal.returns
returns c = λ v.
    let os = c.args.calls.now in
    c.loop-i.invariant.value v
    ∙ ap (λ l. through v (from v c.args.base) (reverse l) c.loop-i.slot) (drop-all os c.loop-i.i (omega arith))
