use Rattle.std.proofs.Common.{ℕ, List, subst}
use Rattle.janus_syntax.specs.Text.{IsParsedExp}
use Rattle.kernel_ask.proofs.wish.Wish.new.Goals as goal

pub invariant_of-result : goal.invariant_of-result
invariant_of-result c = subst (λ (text : List ℕ). IsParsedExp text c.parse_exp-exp.result) c.as_str.ensures.value c.parse_exp-exp.ensures.read
