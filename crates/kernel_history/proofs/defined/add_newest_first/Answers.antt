use Rattle.std.proofs.Common.{◌≡◌, ◌-◌, ◌++◌, ◌∷◌, [], ℕ, suc, map, drop, sym, ap, ◌∙◌, arith, append_assoc}
use Rattle.janus_meaning.specs.World.{define}
use Rattle.janus_syntax.specs.Tree.{procedure_view, procedures_view}
use Rattle.janus_syntax.specs.View.{plain_procedure}
use Rattle.kernel_loader.specs.Defined.{in_a_row}
use Rattle.kernel_history.proofs.Rows.{row_more, pushed}
use Rattle.kernel_history.proofs.defined.add_newest_first.Goals as goal

pub loop-left-preserved : goal.loop-left-preserved
loop-left-preserved c =
    let low = c.loop-left.invariant.0 in
    let some = c.loop-left-test.true in
    let y = c.index-procedures-left.result in
    let ys = c.args.procedures.now in
    let e : suc (c.loop-left.left - 1) ≡ c.loop-left.left = omega arith in
    let more = row_more ys (c.loop-left.left - 1) y (omega arith) (sym c.index-procedures-left.is)
    ∙ ap (λ (n : ℕ). define (map plain_procedure (procedures_view (drop n ys))) [] ++ plain_procedure (procedure_view y) ∷ []) e in (
      omega arith,
      ap in_a_row c.in_ok-push.ensures.items
          ∙ pushed c.loop-left.all.items _
          ∙ ap (λ l. l ++ plain_procedure (procedure_view y) ∷ []) c.loop-left.invariant.1
          ∙ append_assoc (in_a_row c.args.all.now.items) (define (map plain_procedure (procedures_view (drop c.loop-left.left ys))) [])
          (plain_procedure (procedure_view y) ∷ [])
          ∙ ap (λ l. in_a_row c.args.all.now.items ++ l) (sym more),
    )
