-- What an accepted text gives, and what a refused one.
use Rattle.std.proofs.Common.{◌≡◌, ◌≢◌, ℕ, List, Err, refl, sym, subst}
use Rattle.janus_meaning.specs.Shape.{Shape, Heads, shape_of, heads_of}
use Rattle.janus_meaning.specs.World.{World, Cell}
use Rattle.janus_syntax.specs.Tree as tree
use Rattle.janus_syntax.specs.Text.{HasTree, IsParsed}
use Rattle.janus_syntax.specs.declared.fault.SyntaxFault as syntax
use Rattle.janus_syntax.specs.declared.fault.SyntaxFault.TheVariants as syntax_fault
use Rattle.janus_check.specs.Check.{cell_faults}
use Rattle.janus_check.specs.Fault.{IsFirst}
use Rattle.janus_syntax.specs.View.{plain_cell}
use Rattle.janus_check.specs.declared.fault.CheckFault as check
use Rattle.janus_check.specs.declared.fault.CheckFault.TheVariants as check_fault
use Rattle.janus_check.proofs.SameHeads.{AreSameHeads, faults_same}
use Rattle.kernel_machine.specs.Language.{IsFormed}
use Rattle.kernel_machine.specs.Text.{Accepts, IsUnformed, Refuses, refused_by_syntax, refused_by_check}
use Rattle.kernel_machine.specs.declared.outcome.Refusal.TheVariants.{Syntax, Check}

-- an accepted cell is well formed
pub accepted_formed : (w : World) (text : List ℕ) (cell : Cell) → Accepts w text cell → IsFormed cell w
accepted_formed w text cell a =
    let formed : IsFormed (plain_cell a.tree) w = record { formed = a.formed } in
    subst (λ (c : Cell). IsFormed c w) (sym a.meant) formed

-- ---- refusals

pub syntax_refusal : (f : syntax.SyntaxFault) → (f ≡ syntax_fault.Memory → ⊥) → Syntax f ≡ refused_by_syntax f
syntax_refusal (syntax_fault.BadToken at) real = refl
syntax_refusal (syntax_fault.Expected what at) real = refl
syntax_refusal (syntax_fault.NumberTooLarge at) real = refl
syntax_refusal (syntax_fault.TooNested at) real = refl
syntax_refusal (syntax_fault.DelocalName at) real = refl
syntax_refusal syntax_fault.Memory real = absurd (real refl)

pub check_refusal : (f : check.CheckFault) → (f ≡ check_fault.Memory → ⊥) → Check f ≡ refused_by_check f
check_refusal (check_fault.Declared at) real = refl
check_refusal (check_fault.Unknown at) real = refl
check_refusal (check_fault.WrongKind at) real = refl
check_refusal (check_fault.SelfUse at) real = refl
check_refusal (check_fault.SameArgument at) real = refl
check_refusal (check_fault.Arity at) real = refl
check_refusal (check_fault.Shadow at) real = refl
check_refusal (check_fault.ChangedParameters at) real = refl
check_refusal (check_fault.ArrayLength at) real = refl
check_refusal (check_fault.TooMany at) real = refl
check_refusal check_fault.Memory real = absurd (real refl)

pub refuses_syntax : (w : World) (text : List ℕ) (f : syntax.SyntaxFault) → IsParsed text (Err f) → Refuses w text (refused_by_syntax f)
refuses_syntax w text (syntax_fault.BadToken at) found = found
refuses_syntax w text (syntax_fault.Expected what at) found = found
refuses_syntax w text (syntax_fault.NumberTooLarge at) found = found
refuses_syntax w text (syntax_fault.TooNested at) found = found
refuses_syntax w text (syntax_fault.DelocalName at) found = found
refuses_syntax w text syntax_fault.Memory found = tt

-- the heads that were checked over find what those of the world's procedures find
unformed : (w : World) (text : List ℕ) (f : check.CheckFault) (t : tree.Cell) (g : Shape) (hs : Heads) → HasTree text t → g ≡ shape_of w.store →
    AreSameHeads hs (heads_of w.procedures) → (f ≡ check_fault.Memory → ⊥) → (f ≢ check_fault.Memory → IsFirst f (cell_faults g hs t)) → IsUnformed w text f
unformed w text f t g hs is same heads real first = record {
  tree = t;
  is_tree = is;
  real = real;
  first = subst (λ (h : Shape). IsFirst f (cell_faults h (heads_of w.procedures) t)) same
      (subst (λ fs. IsFirst f fs) (faults_same g hs (heads_of w.procedures) t heads) (first real));
}

pub refuses_check : (w : World) (text : List ℕ) (f : check.CheckFault) (t : tree.Cell) (g : Shape) (hs : Heads) → HasTree text t → g ≡ shape_of w.store →
    AreSameHeads hs (heads_of w.procedures) → (f ≢ check_fault.Memory → IsFirst f (cell_faults g hs t)) → Refuses w text (refused_by_check f)
refuses_check w text (check_fault.Declared at) t g hs is same heads first = unformed w text _ t g hs is same heads (λ e. cc) first
refuses_check w text (check_fault.Unknown at) t g hs is same heads first = unformed w text _ t g hs is same heads (λ e. cc) first
refuses_check w text (check_fault.WrongKind at) t g hs is same heads first = unformed w text _ t g hs is same heads (λ e. cc) first
refuses_check w text (check_fault.SelfUse at) t g hs is same heads first = unformed w text _ t g hs is same heads (λ e. cc) first
refuses_check w text (check_fault.SameArgument at) t g hs is same heads first = unformed w text _ t g hs is same heads (λ e. cc) first
refuses_check w text (check_fault.Arity at) t g hs is same heads first = unformed w text _ t g hs is same heads (λ e. cc) first
refuses_check w text (check_fault.Shadow at) t g hs is same heads first = unformed w text _ t g hs is same heads (λ e. cc) first
refuses_check w text (check_fault.ChangedParameters at) t g hs is same heads first = unformed w text _ t g hs is same heads (λ e. cc) first
refuses_check w text (check_fault.TooMany at) t g hs is same heads first = unformed w text _ t g hs is same heads (λ e. cc) first
refuses_check w text (check_fault.ArrayLength at) t g hs is same heads first = unformed w text _ t g hs is same heads (λ e. cc) first
refuses_check w text check_fault.Memory t g hs is same heads first = tt
