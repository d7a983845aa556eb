-- The kinds of values, as the check of a cell sees them.
use Rattle.janus_meaning.specs.Store.{Val, Num, Arr, Stk, Lent}
use Rattle.janus_check.specs.declared.env.Kind.{Kind}
use Rattle.janus_check.specs.declared.env.Kind.TheVariants.{Number, Array, Stack}

-- no world holds a value that is lent
abbrev pub kind_in : Val → Kind
kind_in (Num n) = Number
kind_in (Arr l) = Array
kind_in (Stk l) = Stack
kind_in Lent = Number
