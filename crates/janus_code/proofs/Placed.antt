-- The names of the inverse have the numbers of those of the code.
use Rattle.std.proofs.Common.{◌≡◌, ℕ, ◌<◌, List, length, get_or, sym, subst, arith}
use Rattle.std.specs.Prelude.{slice_get, Some}
use Rattle.std.proofs.lemmas.Option.{slice_get_within, slice_get-get_or}
use Rattle.janus_meaning.specs.Syntax.{Name}
use Rattle.janus_code.specs.declared.code.Block.{Block}
use Rattle.janus_code.specs.declared.code.Symbol.{Symbol}
use Rattle.janus_code.specs.declared.code.Statement.{Statement}
use Rattle.janus_code.specs.declared.code.Statement.TheVariants.{Skip, Assign, AssignElement, Push, Pop, Swap, If, Loop, LocalInt, LocalStack, Call, Uncall}
use Rattle.janus_code.specs.Numbered.{HasItsNumber, HaveTheirNumbers, StatementHasNumbers, HaveNumbers}
use Rattle.janus_code.specs.Inverted.{IsInverse, AreInverse}

same_at : (xs : List Name) (x y : Symbol) → y ≡ x → HasItsNumber xs x → HasItsNumber xs y
same_at xs x y same at = subst (HasItsNumber xs) (sym same) at

all_same_at : (xs : List Name) (ys zs : List Symbol) → zs ≡ ys → HaveTheirNumbers xs ys → HaveTheirNumbers xs zs
all_same_at xs ys zs same at = subst (HaveTheirNumbers xs) (sym same) at

statement_turned : (members others : List ℕ) (xs : List Name) (s r : Statement) → IsInverse members others s r → StatementHasNumbers xs s →
    StatementHasNumbers xs r
statement_turned members others xs Skip Skip v p = tt
statement_turned members others xs (Assign x u e) (Assign y w f) v p = (same_at xs x y v.0 p.0, v.2.numbered xs p.1)
statement_turned members others xs (AssignElement x i u e) (AssignElement y j w f) v p = (same_at xs x y v.0 p.0, v.1.numbered xs p.1, v.3.numbered xs p.2)
statement_turned members others xs (Push x y) (Pop v w) h p = (same_at xs x v h.0 p.0, same_at xs y w h.1 p.1)
statement_turned members others xs (Pop x y) (Push v w) h p = (same_at xs x v h.0 p.0, same_at xs y w h.1 p.1)
statement_turned members others xs (Swap x y) (Swap v w) h p = (same_at xs x v h.0 p.0, same_at xs y w h.1 p.1)
statement_turned members others xs (If a k l b) (If c m n d) v p = (v.0.numbered xs p.1, v.3.numbered xs p.0)
statement_turned members others xs (Loop a k l b) (Loop c m n d) v p = (v.0.numbered xs p.1, v.3.numbered xs p.0)
statement_turned members others xs (LocalInt x a k b) (LocalInt y c m d) v p = (same_at xs x y v.0 p.0, v.1.numbered xs p.2, v.3.numbered xs p.1)
statement_turned members others xs (LocalStack x k) (LocalStack y m) v p = same_at xs x y v.0 p
statement_turned members others xs (Call f ys) (Uncall g zs) v p = (same_at xs f g v.0 p.0, all_same_at xs ys.items zs.items v.1 p.1)
statement_turned members others xs (Uncall f ys) (Call g zs) v p = (same_at xs f g v.0 p.0, all_same_at xs ys.items zs.items v.1 p.1)
statement_turned members others xs _ _ v p = absurd v

pub all_turned : (members : List ℕ) (ss : List Statement) (body : Block) (others : List ℕ) (rs : List Statement) (back : Block) →
    AreInverse members ss body others rs back → (xs : List Name) → HaveNumbers xs ss → HaveNumbers xs rs
all_turned members ss body others rs back v xs p n r e =
    let lt : n < length ss = omega (arith, slice_get_within rs n r e, v.as_many) in
    let s = get_or ss n r in
    let here : slice_get ss n ≡ Some s = slice_get-get_or ss n r lt in
    statement_turned members others xs s r (v.inverse n s r here e) (p n s here)
