use Rattle.std.proofs.Common.{◌≡◌, ◌≤◌, [], ◌∷◌, length, take, map, sym, ap, ◌∙◌, arith}
use Rattle.std.specs.List.{filter}
use Rattle.kernel_text.specs.Written.{entry_of}
use Rattle.kernel_ask.specs.History.{texts_in, numbered, is_within, input_of}
use Rattle.kernel_ask.proofs.Counted.{texts, number_more, told_more, full_more}
use Rattle.kernel_ask.proofs.inputs.range.Goals as goal
use Rattle.kernel_ask.proofs.inputs.range.Goals.{then-number-counter+in_ok-tell, else-number-counter}

pub loop-entry-preserved : goal.loop-entry-preserved
loop-entry-preserved c =
    let es = c.args.entries.now in
    let i = c.loop-entry.entry-index in
    let k = c.args.counter in
    let e = c.entry-item.result in
    let t = c.in-Some.code.now in
    let number = c.loop-entry.number in
    let one : texts_in (entry_of e) ≡ t ∷ [] = c.in-Some.ensures in
    let so_far = c.loop-entry.invariant in
    elim c.if-number-counter.branch [
      | then-number-counter+in_ok-tell w ↦ record {
        number = w.number-is ∙ number_more es i k e t number c.loop-entry-test.true c.entry-item.is one so_far.number w.if-number-counter.true;
        told =
            told_more c.args.start c.args.stop es i k e t number (map input_of c.loop-entry.told.items) (map input_of c.if-number-counter.told.items)
            c.loop-entry-test.true c.entry-item.is one so_far.number
            w.if-number-counter.true so_far.told (ap (λ v. map input_of v.items) w.told-is ∙ w.in_ok-tell.ensures);
      }
      | else-number-counter w ↦
          (let full : k ≤ length (take k (texts (take i es))) = omega (arith, so_far.number, w.if-number-counter.false) in
          let same = full_more es i k e t c.loop-entry-test.true c.entry-item.is one full in
          record {
            number = w.number-is ∙ so_far.number ∙ ap length (sym same);
            told = ap (λ v. map input_of v.items) w.told-is ∙ so_far.told ∙ ap (λ ts. filter (λ i. is_within c.args.start c.args.stop i.0) (numbered 1 ts))
                (sym same);
          })
    ]
