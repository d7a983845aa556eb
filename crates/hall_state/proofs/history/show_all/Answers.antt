use Rattle.std.proofs.Common.{◌≡◌, ◌∙◌, List, [], ◌∷◌, All, map, length, refl, sym, ap, subst, append_assoc, append-nil, arith}
use Rattle.std.specs.Vec.Iter.{into_iter_items}
use Rattle.std.proofs.lemmas.List.Elements.{All-push}
use mathlib.Core.List.{IsPrefix}
use Rattle.kernel_audit.specs.Minutes.{Entry}
use Rattle.kernel_audit.specs.Passes.{PassOf}
use Rattle.kernel_audit.specs.Written.{entry_of}
use Rattle.kernel_audit.specs.declared.note.Note.{Note}
use Rattle.hall_state.proofs.history.show_all.Goals as goal

nothing_left : {X : Type 0} (xs : List X) → length xs ≡ 0 → xs ≡ []
nothing_left [] h = refl
nothing_left (x ∷ xs) h = absurd (omega arith)

pub loop-pass-preserved : goal.loop-pass-preserved
loop-pass-preserved g c =
    let all = map entry_of c.args.history.now in
    let at = c.loop-pass in
    let pass = c.in-Some.pass in
    let steps : into_iter_items at.pass-iterator ≡ pass ∷ into_iter_items c.next.new.self = c.in-Some.ensures.steps.0 in
    let begins : IsPrefix pass.front all = subst (λ (l : List Entry). IsPrefix pass.front l)
    (ap (λ (p : PassOf). p.front) c.see.ensures.pass ∙ ap (map entry_of) at.invariant.4) c.see.ensures.onward in
    let noted : IsPrefix pass.notes c.args.notes.now = subst (λ (l : List Note). IsPrefix pass.notes l)
    (ap (λ (p : PassOf). p.notes) c.see.ensures.pass ∙ at.invariant.5) c.see.ensures.noted in (
      append_assoc at.yielded (pass ∷ []) _ ∙ rw (← steps) at.invariant.0,
      All-push (λ (p : PassOf). IsPrefix p.front all) at.yielded pass at.invariant.1 begins,
      All-push (λ (p : PassOf). IsPrefix p.notes c.args.notes.now) at.yielded pass at.invariant.2 noted,
      let was = at.invariant.3 in
          let gone = c.in-Some.ensures.steps.1 in
          let short = ap length steps in
          omega arith,
      c.see.ensures.history ∙ at.invariant.4,
      c.see.ensures.notes ∙ at.invariant.5,
    )

pub returns-clause-fronts : goal.returns-clause-fronts
returns-clause-fronts g c =
    let at = c.loop-pass in
    let none = c.in-None.ensures.steps in
    let empty : into_iter_items at.pass-iterator ≡ [] = nothing_left _ (sym at.invariant.3 ∙ none.0) in
    let all = sym (append-nil at.yielded) ∙ rw empty at at.invariant.0 ∙ c.into_iter-pass-iterator.ensures.into_iter_gives.0 in
    subst (λ (ps : List PassOf). All (λ (p : PassOf). IsPrefix p.front (map entry_of c.args.history.now)) ps) all at.invariant.1

pub returns-clause-notes : goal.returns-clause-notes
returns-clause-notes g c =
    let at = c.loop-pass in
    let none = c.in-None.ensures.steps in
    let empty : into_iter_items at.pass-iterator ≡ [] = nothing_left _ (sym at.invariant.3 ∙ none.0) in
    let all = sym (append-nil at.yielded) ∙ rw empty at at.invariant.0 ∙ c.into_iter-pass-iterator.ensures.into_iter_gives.0 in
    subst (λ (ps : List PassOf). All (λ (p : PassOf). IsPrefix p.notes c.args.notes.now) ps) all at.invariant.2
