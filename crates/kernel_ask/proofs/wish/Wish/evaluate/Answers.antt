use Rattle.std.proofs.Common.{◌≡◌, ℕ, List, ap, subst, string_bytes}
use Rattle.kernel_ask.specs.Wishes.{WishOf}
use Rattle.kernel_ask.specs.Evaluation.{IsEvaluated}
use Rattle.kernel_ask.proofs.wish.Wish.evaluate.Goals as goal

pub returns-clause-name : goal.returns-clause-name
returns-clause-name g c = ap (λ (w : WishOf). w.name) c.self.view_is

pub returns-clause-value : goal.returns-clause-value
returns-clause-value g c =
    let text : string_bytes c.self.inside.text ≡ c.args.self.exp = ap (λ (w : WishOf). w.exp) c.self.view_is in
    subst (λ (t : List ℕ). IsEvaluated c.args.world.now.store t c.evaluation_of-value.result) text
    (c.evaluation_of-value.ensures (string_bytes c.self.inside.text) c.self.invariant)
