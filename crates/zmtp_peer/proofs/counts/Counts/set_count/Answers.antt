use Rattle.std.proofs.Common.{◌≡◌, ℕ, List, subst, sym, ◌∙◌, if◌then◌else◌}
use Rattle.std.specs.Option.{option_map}
use Rattle.std.specs.Str.{bytes_eq}
use Rattle.zmtp_peer.specs.Subscriptions.{place_of}
use Rattle.zmtp_peer.specs.Table.{table_of}
use Rattle.zmtp_peer.proofs.TableLemmas.{place_of-set_value}
use Rattle.zmtp_peer.proofs.LengthLemmas.{number-set}
use Rattle.zmtp_peer.proofs.counts.Counts.set_count.Goals as goal

pub invariant_of-self : goal.invariant_of-self
invariant_of-self c n = c.self.invariant n ∙ rw c.set_at.ensures (sym (number-set c.args.prefix.now c.args.count n c.self.inside.places.entries))

pub returns : goal.returns
returns c q =
    let P : List (List ℕ × ℕ) → Type 0 = λ t. place_of (table_of c.set_at.new.places.entries) q
    ≡ (if bytes_eq q c.args.prefix.now then option_map (λ (n : ℕ). c.args.count) (place_of t q) else place_of t q) in
    subst P c.self.view_is (rw c.set_at.ensures (place_of-set_value c.args.prefix.now c.args.count c.self.inside.places.entries q))
