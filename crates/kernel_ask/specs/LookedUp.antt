-- What a name of an expression is found as.
use Rattle.std.specs.Prelude.{◌≡◌, ℤ, List}
use Rattle.janus_meaning.specs.Fault.{Res, Fine}
use Rattle.janus_meaning.specs.Store.{Val, Num, Arr, Stk}

-- a number
abbrev pub IsNumber : Res Val → Type 0
IsNumber r = (n : ℤ) × (r ≡ Fine (Num n))

-- an array
abbrev pub IsArray : Res Val → Type 0
IsArray r = (l : List ℤ) × (r ≡ Fine (Arr l))

-- a stack
abbrev pub IsStack : Res Val → Type 0
IsStack r = (l : List ℤ) × (r ≡ Fine (Stk l))
