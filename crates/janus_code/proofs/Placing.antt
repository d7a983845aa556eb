-- Statements whose names have their numbers, one more of them, and copies of expressions.
use Rattle.std.proofs.Common.{◌≡◌, Box, Global, List, [], ◌∷◌, ◌++◌, length, refl, ap, ◌∙◌, sym, subst, ⊎_elim}
use Rattle.std.specs.Prelude.{slice_get, Some}
use Rattle.janus_meaning.specs.Syntax.{Name}
use Rattle.janus_code.specs.declared.code.Symbol.{Symbol}
use Rattle.janus_code.specs.declared.code.FlatExp.{FlatExp}
use Rattle.janus_code.specs.declared.code.FlatExp.TheViews as views
use Rattle.janus_syntax.specs.declared.tree.Operator.{Operator}
use Rattle.janus_syntax.specs.View.{operator_of}
use Rattle.janus_meaning.specs.Syntax as tree
use Rattle.janus_code.specs.Expressions.{exp_of, symbol_name}
use Rattle.janus_code.specs.declared.code.Statement.{Statement}
use Rattle.janus_code.specs.Numbered.{HasNumbers, IsCopy, StatementHasNumbers, HaveNumbers}
use Rattle.janus_code.proofs.Pairs.{last_or_before}

pub one_more_placed : (xs : List Name) (ss : List Statement) (s : Statement) → HaveNumbers xs ss → StatementHasNumbers xs s → HaveNumbers xs (ss ++ s ∷ [])
one_more_placed xs ss s h p n r e =
    ⊎_elim
    (λ (q : slice_get ss n ≡ Some r). h n r q)
    (λ (q : (n ≡ length ss) × (s ≡ r)). subst (StatementHasNumbers xs) q.1 p)
    (last_or_before ss s r n e)

-- ---- copies

-- of an expression that was read through a box, put into a box
pub copy_through : (a b c d : FlatExp) → a ≡ b → d ≡ c → IsCopy a c → IsCopy b d
copy_through a b c d e f h = record {
  tree = λ xs. ap (exp_of xs) f ∙ h.tree xs ∙ ap (exp_of xs) e;
  numbered = λ xs p. subst (HasNumbers xs) (sym f) (h.numbered xs (subst (HasNumbers xs) (sym e) p));
}

pub copy_of : (a b c : FlatExp) → a ≡ b → IsCopy b c → IsCopy a c
copy_of a b c e h = copy_through b a c c (sym e) refl h

pub element_copy : (x : Symbol) (b c : Box FlatExp Global) → IsCopy b.value c.value → IsCopy (views.Element x b) (views.Element x c)
element_copy x b c k = record { tree = λ xs. ap (tree.At (symbol_name xs x)) (k.tree xs); numbered = λ xs p. (p.0, k.numbered xs p.1) }

pub negative_copy : (b c : Box FlatExp Global) → IsCopy b.value c.value → IsCopy (views.Negative b) (views.Negative c)
negative_copy b c k = record { tree = λ xs. ap tree.Negate (k.tree xs); numbered = λ xs p. k.numbered xs p }

pub binary_copy : (o : Operator) (a b c d : Box FlatExp Global) → IsCopy a.value c.value → IsCopy b.value d.value →
    IsCopy (views.Binary o a b) (views.Binary o c d)
binary_copy o a b c d h k = record {
  tree = λ xs. ap (λ l. tree.Binary (operator_of o) l (exp_of xs d.value)) (h.tree xs) ∙ ap (tree.Binary (operator_of o) (exp_of xs a.value)) (k.tree xs);
  numbered = λ xs p. (h.numbered xs p.0, k.numbered xs p.1);
}

pub and_copy : (a b c d : Box FlatExp Global) → IsCopy a.value c.value → IsCopy b.value d.value → IsCopy (views.And a b) (views.And c d)
and_copy a b c d h k = record {
  tree = λ xs. ap (λ l. tree.And l (exp_of xs d.value)) (h.tree xs) ∙ ap (tree.And (exp_of xs a.value)) (k.tree xs);
  numbered = λ xs p. (h.numbered xs p.0, k.numbered xs p.1);
}

pub or_copy : (a b c d : Box FlatExp Global) → IsCopy a.value c.value → IsCopy b.value d.value → IsCopy (views.Or a b) (views.Or c d)
or_copy a b c d h k = record {
  tree = λ xs. ap (λ l. tree.Or l (exp_of xs d.value)) (h.tree xs) ∙ ap (tree.Or (exp_of xs a.value)) (k.tree xs);
  numbered = λ xs p. (h.numbered xs p.0, k.numbered xs p.1);
}
