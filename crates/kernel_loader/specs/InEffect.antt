-- The procedures in effect, each under the name of its number and with the kinds of its parameters.
use Rattle.std.specs.Prelude.{ℕ, suc, List, [], ◌∷◌, Option, Some, None}
use Rattle.janus_meaning.specs.Syntax as tree
use Rattle.janus_meaning.specs.Syntax.{Name}
use Rattle.janus_check.specs.Names.{meant_kinds}
use Rattle.janus_check.specs.declared.env.Kind.{Kind}
use Rattle.kernel_runner.specs.LinkedProcedure.{kinds_of}
use Rattle.kernel_runner.specs.Procedures.{body_at}
use Rattle.kernel_runner.specs.linked_procedure.LinkedProcedure.{LinkedProcedure}
use Rattle.kernel_runner.specs.procedures.Procedures.{Procedures}

-- the kinds of the parameters of a body
abbrev pub kinds_in_effect : Option LinkedProcedure → Option (List tree.Kind)
kinds_in_effect None = None
kinds_in_effect (Some b) = Some (meant_kinds (kinds_of b))

-- a name with what is in effect under it, before others
abbrev pub with_kinds : Name → Option LinkedProcedure → List (Name × List Kind) → List (Name × List Kind)
with_kinds x None l = l
with_kinds x (Some b) l = (x, kinds_of b) ∷ l

-- the names from a number on under which a procedure is in effect, with its kinds
abbrev pub in_effect_from : Procedures → ℕ → List Name → List (Name × List Kind)
in_effect_from t k [] = []
in_effect_from t k (x ∷ es) = with_kinds x (body_at t k) (in_effect_from t (suc k) es)
