-- Bodies that are met.
use Rattle.std.proofs.Common.{◌≡◌, ℕ, List, [], ◌∷◌, ◌++◌, sym, subst}
use Rattle.std.specs.Prelude.{All}
use Rattle.std.proofs.lemmas.List.Elements.{All-append, All-cons, All-nil}
use Rattle.janus_meaning.specs.Syntax.{Name}
use Rattle.janus_slots.specs.Numbers.{IsNumbered}
use Rattle.janus_syntax.specs.declared.tree.Procedure.{Procedure}
use Rattle.kernel_runner.specs.declared.program.Program.{Program}
use Rattle.kernel_history.specs.declared.tree.HistoryTree.{HistoryTree}
use Rattle.steps_walk.specs.declared.body.Body.{Body}
use Rattle.steps_walk.specs.declared.walk.Walk.{Walk}
use Rattle.steps_walk.specs.Bodies.{IsMet, IsTextOf, IsBodyOf}
use Rattle.steps_walk.specs.Walk.{runner_of, program_of, tree_of, bodies_of, IsWalking, KeepsMet}
use Rattle.steps_walk.proofs.Moving.{met_more}

-- what was made of a text
pub made : (entries : List Name) (program : Program) (tree : HistoryTree) (body : Body) (number : ℕ) (name : Name) (p : Procedure) → body.number ≡ number →
    IsNumbered entries number name → IsTextOf program tree name body.node p → IsBodyOf body p → IsMet entries program tree body
made entries program tree body number name p e numbered text is = record {
  procedure = p;
  in_effect = record { name = name; numbered = subst (λ n. IsNumbered entries n name) (sym e) numbered; text = text };
  is = is;
}

module _ {L : Type 0} (old new : Walk L) (e : new ≡ record old { met = new.met }) (h : IsWalking old) where
  holds : (bodies : List Body) → All (IsMet (runner_of old).entries (program_of old) (tree_of old)) bodies →
      All (IsMet (runner_of new).entries (program_of new) (tree_of new)) bodies
  holds bodies m =
      subst (λ (w : Walk L). All (IsMet (runner_of w).entries (program_of w) (tree_of w)) bodies) (sym e) m

  -- one more
  pub met_pushed : (body : Body) → bodies_of new ≡ bodies_of old ++ body ∷ [] → IsMet (runner_of old).entries (program_of old) (tree_of old) body →
      KeepsMet old new
  met_pushed body items m =
      let P = IsMet (runner_of old).entries (program_of old) (tree_of old) in
      met_more old new e
      (holds (bodies_of new)
      (subst (All P) (sym items) (All-append P (bodies_of old) (body ∷ []) h.met (All-cons P body [] m (All-nil P))))) h

  -- the same
  pub met_kept : bodies_of new ≡ bodies_of old → KeepsMet old new
  met_kept items =
      let P = IsMet (runner_of old).entries (program_of old) (tree_of old) in
      met_more old new e (holds (bodies_of new) (subst (All P) (sym items) h.met)) h
