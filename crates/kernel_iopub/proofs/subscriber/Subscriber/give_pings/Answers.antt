use Rattle.std.proofs.Common.{◌≡◌, ◌+◌, ℕ, List, [], ap, sym, subst, ◌∙◌, length, arith, rules}
use Rattle.std.specs.Global.{Vec}
use Rattle.std.proofs.lemmas.List.{length-map}
use Rattle.zmtp_wire.specs.Message.{bodies_of}
use Rattle.kernel_iopub.specs.Pings.{HasAsked}
use Rattle.kernel_iopub.proofs.FedLemmas.{asked_all}
use Rattle.kernel_iopub.proofs.subscriber.Subscriber.give_pings.Goals as goal

-- all that waited is counted, and none waits any more
pub invariant_of-self : goal.invariant_of-self
invariant_of-self g c =
    let before = c.args.self.now in
    let waiting = bodies_of before.pings.items in
    let none : c.replace.new.dest.items ≡ [] = ap (λ (v : Vec (Vec ℕ)). v.items) c.replace.ensures.after ∙ c.new.ensures.items in
    let count : c.add.new.self.total ≡ before.taken.total + length waiting =
    omega (arith, c.add.ensures.total, c.audit.ensures.total, c.len.ensures, before.pings.ok, length-map before.pings.items (λ (b : Vec ℕ). b.items)) in
    record {
      publishes = before.publishes;
      fed = before.fed;
      asked = λ whole.
          subst (λ (n : ℕ). HasAsked before.peer n (bodies_of c.replace.new.dest.items)) (sym count)
          (subst (λ (items : List (Vec ℕ)). HasAsked before.peer (before.taken.total + length waiting) (bodies_of items)) (sym none)
          (asked_all before.peer before.taken.total waiting (before.asked whole)));
      few_prefixes = before.few_prefixes;
      short_prefixes = before.short_prefixes;
    }

-- the share has the number from which they are
pub returns-clause-asked : goal.returns-clause-asked
returns-clause-asked g c =
    let before = c.args.self.now in
    let same : c.replace.result ≡ before.pings = search rules in (
      before.peer,
      subst (λ (n : ℕ). HasAsked before.peer n (bodies_of c.replace.result.items)) (sym (c.audit.ensures.whole c.requires.share.0))
          (subst (λ (v : Vec (Vec ℕ)). HasAsked before.peer before.taken.total (bodies_of v.items)) (sym same) (before.asked c.requires.whole)),
    )
