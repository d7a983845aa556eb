use Rattle.std.proofs.Common.{◌≡◌, ◌++◌, ◌∷◌, [], suc, List, length, length-append, take, refl, ap, ◌∙◌, sym, subst, append_assoc, arith}
use Rattle.std.specs.Prelude.{reverse, slice_get}
use Rattle.std.proofs.lemmas.List.{reverse-append, reverse-reverse}
use Rattle.kernel_runner.specs.Procedures.{kept_in}
use Rattle.kernel_runner.specs.linked_procedure.LinkedProcedure.{LinkedProcedure}
use Rattle.kernel_loader.specs.Keeping.{HaveNumbersBelow}
use Rattle.kernel_loader.proofs.Kept.{take_before}
use Rattle.kernel_loader.proofs.Made.{all_kept}
use Rattle.kernel_loader.proofs.keeping.keep_all.Goals as goal

pub loop-body-init : goal.loop-body-init
loop-body-init c =
    let all : reverse c.reverse.new.self.items ≡ c.args.bodies.items = ap reverse c.reverse.ensures.items ∙ reverse-reverse c.args.bodies.items in (
      ap (λ (l : List LinkedProcedure). kept_in c.args.kept.now ++ l) all,
      all_kept (kept_in c.args.kept.now) (kept_in c.args.kept.now) refl,
      λ stack d. d,
      λ n below. subst (HaveNumbersBelow n) (sym all) below,
      λ n places below. places,
      omega arith,
    )

pub returns-in_err-_index-clause-few : goal.returns-in_err-_index-clause-few
returns-in_err-_index-clause-few c = λ n places below.
    let front : reverse c.loop-body.rest.items ≡ c.in-Some.body ∷ reverse c.pop.new.self.items =
    ap reverse c.in-Some.ensures.items ∙ reverse-append c.pop.new.self.items (c.in-Some.body ∷ []) in
    let h = c.loop-body.invariant in
    c.add.ensures.few n (h.4 n places below) (h.3 n below 0 c.in-Some.body (ap (λ (l : List LinkedProcedure). slice_get l 0) front))

pub loop-body-preserved : goal.loop-body-preserved
loop-body-preserved c =
    let body = c.in-Some.body in
    let left = reverse c.pop.new.self.items in
    let front : reverse c.loop-body.rest.items ≡ body ∷ left =
    ap reverse c.in-Some.ensures.items ∙ reverse-append c.pop.new.self.items (body ∷ []) in
    let h = c.loop-body.invariant in
    let before = kept_in c.loop-body.kept in
    let kept : kept_in c.add.new.self ≡ before ++ body ∷ [] = c.in_ok-_index.ensures.kept in
    let longer = length-append before (body ∷ []) in (
      ap (λ (l : List LinkedProcedure). l ++ left) kept ∙ append_assoc before (body ∷ []) left
          ∙ ap (λ (l : List LinkedProcedure). before ++ l) (sym front) ∙ h.0,
      ap (take (length (kept_in c.args.kept.now))) kept ∙ take_before (length (kept_in c.args.kept.now)) before body h.5 ∙ h.1,
      λ stack d. c.add.ensures.defined stack (h.2 stack d),
      λ n below i b at. h.3 n below (suc i) b (ap (λ (l : List LinkedProcedure). slice_get l (suc i)) front ∙ at),
      λ n places below. c.add.ensures.few n (h.4 n places below)
          (h.3 n below 0 body (ap (λ (l : List LinkedProcedure). slice_get l 0) front)),
      (let long = ap length kept in omega (arith, h.5, long, longer)),
    )
