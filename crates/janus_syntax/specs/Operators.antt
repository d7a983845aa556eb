-- The operators: one table.
use Rattle.std.specs.Prelude.{ℕ, Option, Some, None}
use Rattle.janus_syntax.specs.declared.token.Sign.{Sign}
use Rattle.janus_syntax.specs.declared.token.Sign.TheVariants as sign
use Rattle.janus_syntax.specs.declared.tree.Operator.TheVariants as operator
use Rattle.janus_syntax.specs.declared.tree.Update.{Update}
use Rattle.janus_syntax.specs.declared.tree.Update.TheVariants as update
use Rattle.janus_syntax.specs.declared.operator.Joint.{Joint}
use Rattle.janus_syntax.specs.declared.operator.Joint.TheVariants as joint
use Rattle.janus_syntax.specs.declared.operator.Infix.{Infix}
use Rattle.janus_syntax.specs.Tokens.{Token, Sign_of}
use Rattle.janus_syntax.specs.Tree.{Exp, Bin, And, Or}

-- an operator of a level, where 1 binds strongest
abbrev pub at_level : ℕ → Joint → Option Infix
at_level n j = Some (record { joint = j; level = n })

-- the operator of a sign, and its level
abbrev pub sign_infix : Sign → Option Infix
sign_infix sign.Times = at_level 1 (joint.Binary operator.Multiply)
sign_infix sign.Divide = at_level 1 (joint.Binary operator.Divide)
sign_infix sign.Remainder = at_level 1 (joint.Binary operator.Remainder)
sign_infix sign.Plus = at_level 2 (joint.Binary operator.Add)
sign_infix sign.Minus = at_level 2 (joint.Binary operator.Subtract)
sign_infix sign.Less = at_level 3 (joint.Binary operator.Less)
sign_infix sign.Greater = at_level 3 (joint.Binary operator.Greater)
sign_infix sign.AtMost = at_level 3 (joint.Binary operator.AtMost)
sign_infix sign.AtLeast = at_level 3 (joint.Binary operator.AtLeast)
sign_infix sign.Equals = at_level 3 (joint.Binary operator.Equal)
sign_infix sign.Differs = at_level 3 (joint.Binary operator.Differ)
sign_infix sign.BitAnd = at_level 4 (joint.Binary operator.BitAnd)
sign_infix sign.Xor = at_level 5 (joint.Binary operator.Xor)
sign_infix sign.BitOr = at_level 6 (joint.Binary operator.BitOr)
sign_infix sign.And = at_level 7 joint.And
sign_infix sign.Or = at_level 8 joint.Or
sign_infix _ = None

-- the weakest level
abbrev pub weakest : ℕ
weakest = 8

-- two expressions with an operator between them
abbrev pub joined : Joint → Exp → Exp → Exp
joined (joint.Binary op) l r = Bin op l r
joined joint.And l r = And l r
joined joint.Or l r = Or l r

abbrev pub operator_at : Token → Option Infix
operator_at (Sign_of s _) = sign_infix s
operator_at _ = None

-- the assignment of a sign
abbrev pub sign_update : Sign → Option Update
sign_update sign.PlusEquals = Some update.Add
sign_update sign.MinusEquals = Some update.Subtract
sign_update sign.XorEquals = Some update.Xor
sign_update _ = None

abbrev pub update_at : Token → Option Update
update_at (Sign_of s _) = sign_update s
update_at _ = None
