-- How large an expression is.
use Rattle.std.specs.Prelude.{ℕ, suc, ◌+◌}
use Rattle.janus_syntax.specs.declared.tree.Exp.{Exp}
use Rattle.janus_syntax.specs.declared.tree.Exp.TheVariants.{Number, Variable, Element', Empty, Top, Negative', Binary', And', Or'}

abbrev pub exp_size : Exp → ℕ
exp_size (Number n at) = 1
exp_size (Variable x) = 1
exp_size (Element' a p i) = suc (exp_size i)
exp_size (Empty x) = 1
exp_size (Top x) = 1
exp_size (Negative' p e) = suc (exp_size e)
exp_size (Binary' o p l q r) = suc (exp_size l + exp_size r)
exp_size (And' p l q r) = suc (exp_size l + exp_size r)
exp_size (Or' p l q r) = suc (exp_size l + exp_size r)
