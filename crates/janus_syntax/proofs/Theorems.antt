-- The theorems on the whole: what is read is the only tree, and a refusal is the grammar's.
use Rattle.std.proofs.Common.{◌≡◌, ℕ, ◌≤◌, List, length, Some, Result, Ok, Err, inl, inr, refl, ap, sym, subst, ◌∙◌, arith, length-append}
use Rattle.janus_syntax.specs.declared.fault.What.{What}
use Rattle.janus_syntax.specs.declared.fault.What.TheVariants as what
use Rattle.janus_syntax.specs.declared.problem.Problem.{Problem}
use Rattle.janus_syntax.specs.declared.problem.Problem.TheVariants as problem
use Rattle.janus_syntax.specs.Tokens.{Token}
use Rattle.janus_syntax.specs.Forms.{Part, Tree}
use Rattle.janus_syntax.specs.Grammar.{all, IsTree, Refusal, Expected, TooNested, DelocalName, IsRefused}
use Rattle.janus_syntax.specs.Reader.{Ended, run, start}
use Rattle.janus_syntax.specs.Reading.{Reads, FailsAs, Within, fault_of}
use Rattle.janus_syntax.specs.Statements.{Refused}
use Rattle.janus_syntax.specs.Lexical.{AreTokens}
use Rattle.janus_syntax.specs.Text.{place_before, HasTreeOf, Refuses, IsOnlyTree, IsOnlyExp}
use Rattle.janus_syntax.specs.Tree.{Exp, Cell}
use Rattle.janus_syntax.proofs.OneLexing.{only_tokens}
use Rattle.janus_syntax.proofs.Agrees.{reads_cell}
use Rattle.janus_syntax.proofs.Refusals as refusals
use Rattle.janus_syntax.proofs.Determined as determined
use Rattle.janus_syntax.proofs.TextLaws.{left_of, Before, before, stands_before, rest_is}

-- the machine's answers are the grammar's

pub is_tree : (goal : Part) (ts : List Token) (v : Tree goal) (w : What) → run all ts (start goal) ≡ Ended (Some v) w → IsTree goal all v ts
is_tree goal ts v w e =
    elim (refusals.tree_or_refusal goal ts) [
      | inl (u, is) ↦ subst (λ x. IsTree goal all x ts) (determined.same_tree u v what.End w (sym (reads_cell all u ts is) ∙ e)) is
      | inr (f, is) ↦ absurd (determined.no_read f v w (sym (determined.determined ts f is) ∙ e))
    ]

pub is_refused : (goal : Part) (ts : List Token) (e : Refusal) → Refused goal ts e → IsRefused goal ts e
is_refused goal ts e h =
    elim (refusals.tree_or_refusal goal ts) [
      | inl (u, is) ↦ absurd (determined.no_read e u what.End (sym h ∙ reads_cell all u ts is))
      | inr (f, is) ↦ subst (λ x. IsRefused goal ts x) (determined.same_refusal {goal = goal} f e (sym (determined.determined ts f is) ∙ h)) is
    ]

pub refusal : {X : Type 0} (goal : Part) (view : X → Tree goal) (ts : List Token) (r : Result X Problem) →
    Reads (λ x. IsTree goal all (view x) ts) (Refused goal ts) r → Reads (λ x. IsTree goal all (view x) ts) (IsRefused goal ts) r
refusal goal view ts (Ok x) h = h
refusal goal view ts (Err (problem.Expected w left)) h = is_refused goal ts (Expected w left) h
refusal goal view ts (Err (problem.TooNested left)) h = is_refused goal ts (TooNested left) h
refusal goal view ts (Err (problem.DelocalName left)) h = is_refused goal ts (DelocalName left) h
refusal goal view ts (Err problem.Memory) h = tt

pub only_answer : {X : Type 0} (goal : Part) (view : X → Tree goal) (ts : List Token) (r : Result X Problem) →
    Reads (λ x. IsTree goal all (view x) ts) (Refused goal ts) r → (tree : Tree goal) → IsTree goal all tree ts →
    Reads (λ x. view x ≡ tree) (λ e. ⊥) r
only_answer goal view ts (Ok x) h tree q = determined.one_tree goal all ts (view x) tree h q
only_answer goal view ts (Err (problem.Expected w left)) h tree q = determined.no_read (Expected w left) tree what.End (sym h ∙ reads_cell all tree ts q)
only_answer goal view ts (Err (problem.TooNested left)) h tree q = determined.no_read (TooNested left) tree what.End (sym h ∙ reads_cell all tree ts q)
only_answer goal view ts (Err (problem.DelocalName left)) h tree q = determined.no_read (DelocalName left) tree what.End (sym h ∙ reads_cell all tree ts q)
only_answer goal view ts (Err problem.Memory) h tree q = tt

-- from places in the tokens to places in the text

in_range : (e : Refusal) (ts : List Token) (left : ℕ) → Before e ts → left ≡ left_of e → left ≤ length ts
in_range e ts left (before front rest whole n) h = let size = ap length whole ∙ length-append front rest in omega (arith, size, n, h)

pub within : (goal : Part) (ts : List Token) (p : Problem) → FailsAs (IsRefused goal ts) p → Within p (length ts)
within goal ts (problem.Expected w left) h = in_range (Expected w left) ts left (stands_before goal ts (Expected w left) h) refl
within goal ts (problem.TooNested left) h = in_range (TooNested left) ts left (stands_before goal ts (TooNested left) h) refl
within goal ts (problem.DelocalName left) h = in_range (DelocalName left) ts left (stands_before goal ts (DelocalName left) h) refl
within goal ts problem.Memory h = tt

refused_before : (goal : Part) (text : List ℕ) (ts : List Token) (w : What) (left : ℕ) → AreTokens text ts → IsRefused goal ts (Expected w left) →
    Before (Expected w left) ts → Refuses goal text (fault_of (length text) ts (problem.Expected w left))
refused_before goal text ts w left l q (before front rest whole n) =
    record {
      tokens = ts;
      front = front;
      rest = rest;
      are_tokens = l;
      whole = whole;
      refused = subst (λ i. IsRefused goal ts (Expected w i)) n q;
      place = ap
          (place_before (length text)) (rest_is ts front rest left whole n);
    }

nested_before : (goal : Part) (text : List ℕ) (ts : List Token) (left : ℕ) → AreTokens text ts → IsRefused goal ts (TooNested left) →
    Before (TooNested left) ts → Refuses goal text (fault_of (length text) ts (problem.TooNested left))
nested_before goal text ts left l q (before front rest whole n) =
    record {
      tokens = ts;
      front = front;
      rest = rest;
      are_tokens = l;
      whole = whole;
      refused = subst (λ i. IsRefused goal ts (TooNested i)) n q;
      place = ap
          (place_before (length text)) (rest_is ts front rest left whole n);
    }

delocal_before : (goal : Part) (text : List ℕ) (ts : List Token) (left : ℕ) → AreTokens text ts → IsRefused goal ts (DelocalName left) →
    Before (DelocalName left) ts → Refuses goal text (fault_of (length text) ts (problem.DelocalName left))
delocal_before goal text ts left l q (before front rest whole n) =
    record {
      tokens = ts;
      front = front;
      rest = rest;
      are_tokens = l;
      whole = whole;
      refused = subst (λ i. IsRefused goal ts (DelocalName i)) n q;
      place = ap
          (place_before (length text)) (rest_is ts front rest left whole n);
    }

pub refuses : (goal : Part) (text : List ℕ) (ts : List Token) (p : Problem) → AreTokens text ts → FailsAs (IsRefused goal ts) p →
    Refuses goal text (fault_of (length text) ts p)
refuses goal text ts (problem.Expected w left) l h = refused_before goal text ts w left l h (stands_before goal ts (Expected w left) h)
refuses goal text ts (problem.TooNested left) l h = nested_before goal text ts left l h (stands_before goal ts (TooNested left) h)
refuses goal text ts (problem.DelocalName left) l h = delocal_before goal text ts left l h (stands_before goal ts (DelocalName left) h)
refuses goal text ts problem.Memory l h = tt

-- the text's tree is that of its tokens
pub tree_of_tokens : (goal : Part) (text : List ℕ) (ts : List Token) (v : Tree goal) → AreTokens text ts → HasTreeOf goal text v → IsTree goal all v ts
tree_of_tokens goal text ts v l q = subst (λ us. IsTree goal all v us) (only_tokens text q.tokens ts q.are_tokens l) q.is_tree

pub only_cell : (tree : Cell) (end : ℕ) (ts : List Token) (p : Problem) → FailsAs (λ e. ⊥) p → IsOnlyTree tree (Err (fault_of end ts p))
only_cell tree end ts (problem.Expected w left) h = h
only_cell tree end ts (problem.TooNested left) h = h
only_cell tree end ts (problem.DelocalName left) h = h
only_cell tree end ts problem.Memory h = tt

pub only_exp : (tree : Exp) (end : ℕ) (ts : List Token) (p : Problem) → FailsAs (λ e. ⊥) p → IsOnlyExp tree (Err (fault_of end ts p))
only_exp tree end ts (problem.Expected w left) h = h
only_exp tree end ts (problem.TooNested left) h = h
only_exp tree end ts (problem.DelocalName left) h = h
only_exp tree end ts problem.Memory h = tt
