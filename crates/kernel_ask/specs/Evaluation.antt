-- The values of user expressions (Jupyter messaging page, "Execute").
use Rattle.std.specs.Prelude.{◌≡◌, ℕ, ℤ, List, [], ◌∷◌, Result, Ok, Err, string_bytes}
use Rattle.janus_meaning.specs.Fault.{Res, Fine, Bad}
use Rattle.janus_meaning.specs.Store.{Store}
use Rattle.janus_meaning.specs.Shape.{shape_of}
use Rattle.janus_meaning.specs.Formed.{IsExp}
use Rattle.janus_meaning.specs.Value.{value}
use Rattle.janus_syntax.specs.Tree.{Exp}
use Rattle.janus_syntax.specs.View.{plain_exp}
use Rattle.janus_syntax.specs.Forms.{Whole}
use Rattle.janus_syntax.specs.Text.{HasExp, IsRefusalOf}
use Rattle.kernel_text.specs.Check.{exp_faults}
use Rattle.kernel_text.specs.CheckFault.{IsFirst}
use Rattle.kernel_text.specs.check_fault.CheckFault.{CheckFault}
use Rattle.janus_meaning.specs.Faults.{fault_of}
use Rattle.kernel_text.specs.outcome.Refusal.TheVariants.{Syntax, Check, HistoryFull, TooFar, NoNode, Closing, Memory}
use Rattle.kernel_text.specs.State.{Past, world_at}
use Rattle.kernel_text.specs.outcome.Outcome.{Outcome}
use Rattle.kernel_text.specs.outcome.Outcome.TheVariants.{Ran, Failed, Interrupted, Undid, Redid, Went, Refused as Cancelled}
use Rattle.kernel_ask.specs.declared.done.ExpFault.{ExpFault}
use Rattle.kernel_ask.specs.declared.done.ExpFault.TheVariants.{Refused, Met}
use Rattle.kernel_ask.specs.Wishes.{WishOf}
use Rattle.kernel_ask.specs.declared.done.NamedValue.{NamedValue}

-- the text is an expression that is well formed over the names of the store, and this is its value, or the first fault that it meets
pub record HasValue (s : Store) (text : List ℕ) (r : Res ℤ) : Type 0 where
  pub tree : Exp
  pub is_tree : HasExp text tree
  pub formed : IsExp (shape_of s) (plain_exp tree)
  pub evaluated : value (plain_exp tree) s ≡ r

-- the text is an expression with faults over the names of the store, and this is the first one
pub record IsUnformed (s : Store) (text : List ℕ) (fault : CheckFault) : Type 0 where
  pub tree : Exp
  pub is_tree : HasExp text tree
  pub first : IsFirst fault (exp_faults (shape_of s) tree)

-- The answer to an expression's text: its value, the fault that it meets, or why the text is refused. Of want of memory nothing is said.
abbrev pub IsEvaluated : Store → List ℕ → Result ℤ ExpFault → Type 0
IsEvaluated s text (Ok n) = HasValue s text (Fine n)
IsEvaluated s text (Err (Met fault)) = HasValue s text (Bad (fault_of fault))
IsEvaluated s text (Err (Refused (Syntax fault))) = IsRefusalOf Whole text fault
IsEvaluated s text (Err (Refused (Check fault))) = IsUnformed s text fault
IsEvaluated s text (Err (Refused Memory)) = Unit {0}
IsEvaluated s text (Err (Refused HistoryFull)) = ⊥
IsEvaluated s text (Err (Refused TooFar)) = ⊥
IsEvaluated s text (Err (Refused NoNode)) = ⊥
IsEvaluated s text (Err (Refused Closing)) = ⊥

-- the answers stand under the names of the expressions, in their order
abbrev pub AreValues : Store → List WishOf → List NamedValue → Type 0
AreValues s [] [] = Unit {0}
AreValues s (wish ∷ wishes) (named ∷ values) =
    (string_bytes named.name ≡ wish.name) × IsEvaluated s wish.exp named.value × AreValues s wishes values
AreValues s [] (named ∷ values) = ⊥
AreValues s (wish ∷ wishes) [] = ⊥

-- they are evaluated only where the cell ran, in the world of its node
abbrev pub AreValuesAfter : Outcome → Past → List WishOf → List NamedValue → Type 0
AreValuesAfter (Ran node steps) s wishes values = AreValues (world_at s node).store wishes values
AreValuesAfter (Failed fault steps) s wishes values = values ≡ []
AreValuesAfter (Interrupted steps) s wishes values = values ≡ []
AreValuesAfter (Undid cells end) s wishes values = values ≡ []
AreValuesAfter (Redid cells end) s wishes values = values ≡ []
AreValuesAfter (Went up down end) s wishes values = values ≡ []
AreValuesAfter (Cancelled refusal) s wishes values = values ≡ []
