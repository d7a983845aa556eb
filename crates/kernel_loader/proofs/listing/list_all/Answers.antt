use Rattle.std.proofs.Common.{ℕ, List, length, map, take, sym, ap, subst, arith, add-one, Contains}
use Rattle.janus_meaning.specs.Syntax.{Name, Proc}
use Rattle.janus_slots.specs.Numbers.{IsMet, GoOn}
use Rattle.janus_slots.specs.Law.{AreListed}
use Rattle.janus_syntax.specs.Tree.{procedure_view, procedures_view}
use Rattle.janus_syntax.specs.View.{plain_procedure}
use Rattle.janus_syntax.specs.declared.tree.Procedure as Defined
use Rattle.kernel_runner.proofs.Growing.{no_more, more_yet}
use Rattle.kernel_loader.proofs.Sighted.{adds_onward, listed_more}
use Rattle.kernel_loader.specs.Loading.{AddNamesOf}
use Rattle.kernel_loader.proofs.Named.{named_here, none_added, added_count, one_added}
use Rattle.kernel_loader.proofs.listing.list_all.Goals as goal

pub loop-i-init : goal.loop-i-init
loop-i-init c = (
  tt,
  no_more c.args.entries.now,
  none_added c.args.entries.now (map plain_procedure (procedures_view c.args.procedures.now)),
  omega arith,
)

pub loop-i-preserved : goal.loop-i-preserved
loop-i-preserved c =
    let onward : GoOn c.loop-i.entries c.add.new.self = adds_onward c.loop-i.entries c.add.new.self _ _ c.in_ok-_number.ensures.added in
    let met : IsMet c.add.new.self c.as_str.result.now = (c.in_ok-_number._number, c.in_ok-_number.ensures.numbered) in
    let named = subst (λ (z : Defined.Procedure). IsMet c.add.new.self (plain_procedure (procedure_view z)).name) (sym c.index-procedures-i.is)
    (subst (λ (x : Name). IsMet c.add.new.self x) c.as_str.ensures.value met) in
    let ps : List Proc = map plain_procedure (procedures_view c.args.procedures.now) in
    let here : Contains (map (λ (p : Proc). p.name) ps) c.as_str.result.now =
    subst (λ (x : Name). Contains (map (λ (p : Proc). p.name) ps) x) (sym c.as_str.ensures.value)
    (subst (λ (z : Defined.Procedure). Contains (map (λ (p : Proc). p.name) ps) (plain_procedure (procedure_view z)).name) c.index-procedures-i.is
    (named_here c.args.procedures.now c.loop-i.i c.index-procedures-i.result c.loop-i-test.true (sym c.index-procedures-i.is))) in (
      subst (λ (n : ℕ). AreListed c.add.new.self (map plain_procedure (procedures_view (take n c.args.procedures.now)))) (sym (add-one c.loop-i.i))
          (listed_more c.loop-i.entries c.add.new.self c.args.procedures.now c.loop-i.i c.index-procedures-i.result c.loop-i-test.true
          (sym c.index-procedures-i.is) onward c.loop-i.invariant.0 named),
      more_yet c.args.entries.now c.loop-i.entries c.add.new.self c.loop-i.invariant.1 onward,
      one_added c.args.entries.now c.loop-i.entries c.add.new.self c.in_ok-_number._number c.as_str.result.now ps
          c.loop-i.invariant.2 here c.in_ok-_number.ensures.added,
      omega (arith, c.loop-i.invariant.3, added_count c.loop-i.entries c.add.new.self c.in_ok-_number._number c.as_str.result.now c.in_ok-_number.ensures.added),
    )

pub returns-in_err-_number-clause-only : goal.returns-in_err-_number-clause-only
returns-in_err-_number-clause-only c =
    let ps : List Proc = map plain_procedure (procedures_view c.args.procedures.now) in
    subst (λ (l : List Name). AddNamesOf c.args.entries.now l ps) (sym c.in_err-_number.ensures.err) c.loop-i.invariant.2

pub returns-in_err-_number-clause-few : goal.returns-in_err-_number-clause-few
returns-in_err-_number-clause-few c = omega (arith, ap length c.in_err-_number.ensures.err, c.loop-i.invariant.3, c.loop-i-test.true)
