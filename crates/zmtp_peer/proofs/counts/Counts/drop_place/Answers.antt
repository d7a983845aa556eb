use Rattle.std.proofs.Common.{ℕ, ◌-◌, List, length, subst, ap, sym, ◌∙◌}
use Rattle.zmtp_peer.specs.Subscriptions.{count_in, DropsIdle}
use Rattle.zmtp_peer.specs.Table.{table_of, one_at}
use Rattle.std.specs.Str.{bytes_eq}
use Rattle.zmtp_peer.proofs.TableLemmas.{dropped}
use Rattle.zmtp_peer.proofs.TidyLemmas.{idle-dropped}
use Rattle.zmtp_peer.proofs.LengthLemmas.{number-remove}
use Rattle.zmtp_peer.proofs.counts.Counts.drop_place.Goals as goal

pub invariant_of-self : goal.invariant_of-self
invariant_of-self c n =
    c.lower.ensures n ∙ ap (λ m. m - one_at (length c.args.prefix.now) n) (c.self.invariant n)
    ∙ rw c.remove.ensures.entries (sym (number-remove c.args.prefix.now c.in-Some.field-0 n c.self.inside.places.entries (sym c.in-Some.ensures.value)))

pub returns-in-Some-clause-same : goal.returns-in-Some-clause-same
returns-in-Some-clause-same c q =
    let es = c.self.inside.places.entries in
    let fs = c.remove.new.self.entries in
    let zero = ap (λ (t : List (List ℕ × ℕ)). count_in t c.args.prefix.now) c.self.view_is ∙ sym c.count_of.ensures ∙ c.if-count_of-eq0.true in
    dropped c.args.prefix.now es fs zero c.remove.ensures.updates.1 c.remove.ensures.updates.3 q
    ∙ ap (λ (t : List (List ℕ × ℕ)). count_in t q) c.self.view_is

pub returns-in-Some-clause-idle : goal.returns-in-Some-clause-idle
returns-in-Some-clause-idle c =
    subst (λ (t : List (List ℕ × ℕ)). DropsIdle (λ q. bytes_eq q c.args.prefix.now) t (table_of c.remove.new.self.entries)) c.self.view_is
    (idle-dropped c.args.prefix.now c.self.inside.places.entries c.remove.new.self.entries c.remove.ensures.updates.1 c.remove.ensures.updates.3)

pub returns-in_default-clause-idle : goal.returns-in_default-clause-idle
returns-in_default-clause-idle c =
    subst (λ (t : List (List ℕ × ℕ)). DropsIdle (λ q. bytes_eq q c.args.prefix.now) t (table_of c.remove.new.self.entries)) c.self.view_is
    (idle-dropped c.args.prefix.now c.self.inside.places.entries c.remove.new.self.entries c.remove.ensures.updates.1 c.remove.ensures.updates.3)
