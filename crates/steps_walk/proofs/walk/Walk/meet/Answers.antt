use Rattle.std.proofs.Common.{◌≡◌, [], ◌∷◌, refl, ◌∙◌, sym, subst}
use Rattle.std.proofs.lemmas.List.{append-nil}
use Rattle.std.specs.Prelude.{Option, IfSome}
use Rattle.steps_walk.specs.declared.body.Body.{Body}
use Rattle.steps_walk.specs.Bodies.{IsMet}
use Rattle.steps_walk.specs.Walk.{runner_of, program_of, tree_of, bodies_of}
use Rattle.steps_walk.proofs.Options.{failed}
use Rattle.steps_walk.proofs.Meeting.{met_pushed, met_kept}
use Rattle.steps_walk.specs.Standing.{IsMetAt}
use Rattle.steps_walk.proofs.MetBodies.{met_before, met_last, still_unmet}
use Rattle.steps_walk.proofs.walk.Walk.meet.Goals as goal

pub returns-in_err-push-clause-kept : goal.returns-in_err-push-clause-kept
returns-in_err-push-clause-kept g c = met_kept c.args.self.now _ refl c.requires c.in_err-push.ensures.items

pub returns-in_ok-push-clause-kept : goal.returns-in_ok-push-clause-kept
returns-in_ok-push-clause-kept g c =
    let w = c.args.self.now in
    met_pushed w _ refl c.requires c.in-Some.body c.in_ok-push.ensures.items
    (subst (λ (o : Option Body). IfSome o (IsMet (runner_of w).entries (program_of w) (tree_of w))) c.in-Some.is c.in_ok-body.ensures.met)

pub returns-in_err-push-clause-more : goal.returns-in_err-push-clause-more
returns-in_err-push-clause-more g c = λ other met.
    met_before c.args.self.now _ [] (c.in_err-push.ensures.items ∙ sym (append-nil (bodies_of c.args.self.now))) other met

pub returns-in_ok-push-clause-more : goal.returns-in_ok-push-clause-more
returns-in_ok-push-clause-more g c = λ other met. met_before c.args.self.now _ (c.in-Some.body ∷ []) c.in_ok-push.ensures.items other met

pub returns-in_ok-push-clause-met : goal.returns-in_ok-push-clause-met
returns-in_ok-push-clause-met g c = λ has.
    let number = subst (λ (o : Option Body). IfSome o (λ b. b.number ≡ c.args.number)) c.in-Some.is c.in_ok-body.ensures.number in
    subst (IsMetAt _) number (met_last c.args.self.now _ c.in-Some.body c.in_ok-push.ensures.items)

pub returns-in_err-push-clause-err : goal.returns-in_err-push-clause-err
returns-in_err-push-clause-err g c =
    failed c.from_residual-in_err-push.result _
    (still_unmet c.args.self.now _ c.in_err-push.ensures.items c.args.number
    (λ old. let some = c.body_of.ensures.met old in let none = c.if-is_some.false in cc))
