use Rattle.std.proofs.Common.{◌≡◌, ℕ, ◌+◌, List, Some, None, subst, sym, ap, ◌∙◌, if◌then◌else◌, length}
use Rattle.std.specs.Option.{option_or}
use Rattle.std.specs.Map.{lookup}
use Rattle.std.specs.Str.{bytes_eq}
use Rattle.zmtp_peer.specs.Subscriptions.{place_of}
use Rattle.zmtp_peer.specs.Table.{table_of, is_key, one_at, number_of_length}
use Rattle.zmtp_peer.proofs.TableLemmas.{present, place-found, place-missing, placed, place_of-table_of}
use Rattle.zmtp_peer.proofs.LengthLemmas.{number-insert}
use Rattle.zmtp_peer.proofs.counts.Counts.add_place.Goals as goal
use Rattle.zmtp_peer.proofs.counts.Counts.add_place.Goals.{in-Ok, in-Err}

pub returns-then-contains_key-clause-ok : goal.returns-then-contains_key-clause-ok
returns-then-contains_key-clause-ok c =
    let prefix = c.args.prefix.now in
    let es = c.self.inside.places.entries in
    let found = place-found (lookup (is_key prefix) es) (sym c.contains_key.ensures ∙ c.if-contains_key.true) in
    present prefix found.0 c.args.self.now
    (subst (λ (t : List (List ℕ × ℕ)). place_of t prefix ≡ Some found.0) c.self.view_is (place_of-table_of es prefix ∙ found.1))

pub invariant_of-self-in-Ok : goal.invariant_of-self-in-Ok
invariant_of-self-in-Ok c n =
    let es = c.self.inside.places.entries in
    let key = c.in_ok-key.key in
    let e = c.in_ok-key.ensures.items in
    let none = subst (λ (r : List ℕ). lookup (is_key r) es ≡ None) (sym e)
    (place-missing (lookup (is_key c.args.prefix.now) es) (sym c.contains_key.ensures ∙ c.if-contains_key.false)) in
    c.in_ok-raise.ensures.ok n ∙ ap (λ m. one_at (length c.args.prefix.now) n + m) (c.self.invariant n)
    ∙ ap (λ (r : List ℕ). one_at (length r) n + number_of_length n (table_of es)) (sym e)
    ∙ rw c.in-Ok.ensures.entries (sym (number-insert key 0 n es none))

pub returns-clause-ok : goal.returns-clause-ok
returns-clause-ok c =
    elim c.match-insert.branch [
      | in-Ok w ↦
          let es = c.self.inside.places.entries in
          let fs = c.insert.new.self.entries in
          let e = c.in_ok-key.ensures.items in
          let none = subst (λ (r : List ℕ). lookup (is_key r) es ≡ None) (sym e)
          (place-missing (lookup (is_key c.args.prefix.now) es) (sym c.contains_key.ensures ∙ c.if-contains_key.false)) in
          let here = subst
          (λ (r : List ℕ). (q : List ℕ) → place_of (table_of fs) q ≡ option_or (place_of (table_of es) q) (if bytes_eq q r then Some 0 else None)) e
          (placed c.in_ok-key.key.items es fs none w.in-Ok.ensures.updates.1 w.in-Ok.ensures.updates.3) in
          rw (w.result-is, w.self-is)
          (subst (λ (t : List (List ℕ × ℕ)). (q : List ℕ) →
          place_of (table_of fs) q ≡ option_or (place_of t q) (if bytes_eq q c.args.prefix.now then Some 0 else None)) c.self.view_is here)
      | in-Err w ↦ rw w.result-is tt
    ]
