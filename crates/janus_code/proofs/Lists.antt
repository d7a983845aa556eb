-- Lists of symbols and of parameters with one more behind.
use Rattle.std.proofs.Common.{◌≡◌, List, [], ◌∷◌, ◌++◌, refl, ap}
use Rattle.janus_meaning.specs.Syntax.{Name}
use Rattle.janus_code.specs.declared.code.Symbol.{Symbol}
use Rattle.janus_code.specs.declared.code.FlatParameter.{FlatParameter}
use Rattle.janus_code.specs.Numbered.{HasItsNumber, HaveTheirNumbers}
use Rattle.janus_code.specs.Procedures.{ParametersHaveNumbers}

pub numbers_more : (xs : List Name) (ys : List Symbol) (y : Symbol) → HaveTheirNumbers xs ys → HasItsNumber xs y → HaveTheirNumbers xs (ys ++ y ∷ [])
numbers_more xs [] y h e = (e, tt)
numbers_more xs (z ∷ ys) y h e = (h.0, numbers_more xs ys y h.1 e)

pub parameters_more : (xs : List Name) (ys : List FlatParameter) (y : FlatParameter) → ParametersHaveNumbers xs ys → HasItsNumber xs y.name →
    ParametersHaveNumbers xs (ys ++ y ∷ [])
parameters_more xs [] y h e = (e, tt)
parameters_more xs (z ∷ ys) y h e = (h.0, parameters_more xs ys y h.1 e)

pub one_between : {A : Type 0} (xs : List A) (y : A) (zs : List A) → (xs ++ y ∷ []) ++ zs ≡ xs ++ y ∷ zs
one_between [] y zs = refl
one_between (x ∷ xs) y zs = ap (λ l. x ∷ l) (one_between xs y zs)
