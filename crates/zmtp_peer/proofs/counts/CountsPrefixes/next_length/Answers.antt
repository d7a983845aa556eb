use Rattle.std.proofs.Common.{◌≡◌, ℕ, ◌<◌, ◌≤◌, List, None, length, subst}
use Rattle.std.specs.BTreeMap.{get}
use Rattle.std.specs.Ordering.{nat_cmp}
use Rattle.zmtp_peer.specs.Subscriptions.{count_in}
use Rattle.zmtp_peer.specs.Table.{table_of}
use Rattle.zmtp_peer.proofs.LengthLemmas.{uncounted, if_some, if_none}
use Rattle.zmtp_peer.proofs.counts.CountsPrefixes.next_length.Goals as goal

pub returns-clause-some : goal.returns-clause-some
returns-clause-some c =
    let inside = c.self.inside in
    if_some c.length_from.result (λ next. (c.args.least ≤ next) × ((n : ℕ) → c.args.least ≤ n → n < next → get nat_cmp inside.lengths n ≡ None))
    (λ next. (c.args.least ≤ next) × ((q : List ℕ) → c.args.least ≤ length q → length q < next → count_in c.args.self.now q ≡ 0))
    (λ next h. (
      h.0,
      λ q from below. subst (λ (t : List (List ℕ × ℕ)). count_in t q ≡ 0) c.self.view_is
          (uncounted (table_of inside.places.entries) q (get nat_cmp inside.lengths (length q)) (c.self.invariant (length q)) (h.1 (length q) from below)),
    )) c.length_from.ensures.some

pub returns-clause-none : goal.returns-clause-none
returns-clause-none c =
    let inside = c.self.inside in
    if_none c.length_from.result ((n : ℕ) → c.args.least ≤ n → get nat_cmp inside.lengths n ≡ None)
    ((q : List ℕ) → c.args.least ≤ length q → count_in c.args.self.now q ≡ 0)
    (λ h q from. subst (λ (t : List (List ℕ × ℕ)). count_in t q ≡ 0) c.self.view_is
    (uncounted (table_of inside.places.entries) q (get nat_cmp inside.lengths (length q)) (c.self.invariant (length q)) (h (length q) from)))
    c.length_from.ensures.none
