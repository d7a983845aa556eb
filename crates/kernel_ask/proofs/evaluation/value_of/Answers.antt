use Rattle.std.proofs.lemmas.Int.{to_z-of_z}
use Rattle.std.proofs.Common.{◌≡◌, ℕ, ℤ, to_z, of_z, w32, arith, List, Err, sym, ap, ◌∙◌, subst}
use Rattle.janus_meaning.specs.Syntax.{Exp}
use Rattle.janus_meaning.specs.Shape.{Shape, shape_of}
use Rattle.janus_meaning.specs.Store.{Store}
use Rattle.janus_meaning.specs.Formed.{IsExp}
use Rattle.janus_meaning.specs.Fault.{Fine, Bad}
use Rattle.janus_syntax.specs.View.{exp_of}
use Rattle.janus_syntax.specs.Tree as tree
use Rattle.janus_syntax.specs.Tree.{exp_view}
use Rattle.janus_syntax.specs.Text.{HasExp}
use Rattle.kernel_text.specs.Check.{exp_faults}
use Rattle.kernel_text.specs.CheckFault.{IsFirst}
use Rattle.kernel_text.specs.check_fault.CheckFault.{CheckFault}
use Rattle.kernel_text.specs.check_fault.CheckFault.TheVariants as fault
use Rattle.kernel_text.specs.Text.{refused_by_check}
use Rattle.kernel_text.specs.outcome.Refusal.{Refusal}
use Rattle.kernel_ask.specs.declared.done.ExpFault.TheVariants.{Refused}
use Rattle.kernel_ask.specs.Evaluation.{HasValue, IsEvaluated}
use Rattle.kernel_ask.proofs.Sound.{not_broken}
use Rattle.kernel_ask.proofs.evaluation.value_of.Goals as goal

pub number-requires : goal.number-requires
number-requires g c =
    let s : Store = c.args.world.now.store in
    let e : Exp = exp_of c.args.exp.now in
    let formed : IsExp (shape_of s) e = subst (λ (g : Shape). IsExp g e) c.requires.names c.in-Ok.ensures.well_formed in
    record { safe = λ broken. not_broken e s formed broken }

-- a fault of the check is told as it is, and want of memory as such
told : (s : Store) (text : List ℕ) (tree : tree.Exp) (fault : CheckFault) (r : Refusal) → HasExp text tree → IsFirst fault (exp_faults (shape_of s) tree) →
    r ≡ refused_by_check fault →
    IsEvaluated s text (Err (Refused r))
told s text e (fault.Declared at) r has first is = rw is (record { tree = e; is_tree = has; first = first })
told s text e (fault.Unknown at) r has first is = rw is (record { tree = e; is_tree = has; first = first })
told s text e (fault.WrongKind at) r has first is = rw is (record { tree = e; is_tree = has; first = first })
told s text e (fault.SelfUse at) r has first is = rw is (record { tree = e; is_tree = has; first = first })
told s text e (fault.SameArgument at) r has first is = rw is (record { tree = e; is_tree = has; first = first })
told s text e (fault.Arity at) r has first is = rw is (record { tree = e; is_tree = has; first = first })
told s text e (fault.ChangedParameters at) r has first is = rw is (record { tree = e; is_tree = has; first = first })
told s text e (fault.Shadow at) r has first is = rw is (record { tree = e; is_tree = has; first = first })
told s text e (fault.TooMany at) r has first is = rw is (record { tree = e; is_tree = has; first = first })
told s text e (fault.ArrayLength at) r has first is = rw is (record { tree = e; is_tree = has; first = first })
told s text e fault.Memory r has first is = rw is tt

pub returns-in-Err : goal.returns-in-Err
returns-in-Err g c = λ text has.
    let s : Store = c.args.world.now.store in
    let e = exp_view c.args.exp.now in
    let first = subst (λ (g : Shape). IsFirst c.in-Err.fault (exp_faults g e)) c.requires.names c.in-Err.ensures.first in
    told s text e c.in-Err.fault c.of_check.result has first c.of_check.ensures

pub returns-in-Ok-number : goal.returns-in-Ok-number
returns-in-Ok-number g c = λ text has.
    let s : Store = c.args.world.now.store in
    let e : Exp = exp_of c.args.exp.now in
    let formed : IsExp (shape_of s) e = subst (λ (g : Shape). IsExp g e) c.requires.names c.in-Ok.ensures.well_formed in
    let has_value : HasValue s text (Fine c.in-Ok-number.number) = record {
      tree = exp_view c.args.exp.now;
      is_tree = has;
      formed = formed;
      evaluated = sym (c.in-Ok-number.ensures);
    } in
    let same : to_z w32 (of_z w32 c.in-Ok-number.number) ≡ c.in-Ok-number.number = grind (arith, to_z-of_z) in
    subst (λ (z : ℤ). HasValue s text (Fine z)) (sym same) has_value

pub returns-in-Err-number : goal.returns-in-Err-number
returns-in-Err-number g c = λ text has.
    let s : Store = c.args.world.now.store in
    let e : Exp = exp_of c.args.exp.now in
    let formed : IsExp (shape_of s) e = subst (λ (g : Shape). IsExp g e) c.requires.names c.in-Ok.ensures.well_formed in
    record {
      tree = exp_view c.args.exp.now;
      is_tree = has;
      formed = formed;
      evaluated = sym (ap (λ f. Bad f) c.from.ensures ∙ c.in-Err-number.ensures);
    }
