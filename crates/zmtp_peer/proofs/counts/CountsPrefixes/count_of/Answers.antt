use Rattle.std.proofs.Common.{ℕ, List, Option, ap, sym, ◌∙◌, unwrap_or}
use Rattle.zmtp_peer.specs.Subscriptions.{count_in}
use Rattle.zmtp_peer.proofs.TableLemmas.{count_in-table_of}
use Rattle.zmtp_peer.proofs.counts.CountsPrefixes.count_of.Goals as goal

pub returns-in-Some : goal.returns-in-Some
returns-in-Some c =
    ap (λ (o : Option ℕ). unwrap_or o 0) c.in-Some.ensures.value ∙ sym (count_in-table_of c.self.inside.places.entries c.args.prefix.now)
    ∙ ap (λ (t : List (List ℕ × ℕ)). count_in t c.args.prefix.now) c.self.view_is

pub returns-in-None : goal.returns-in-None
returns-in-None c =
    ap (λ (o : Option ℕ). unwrap_or o 0) c.in-None.ensures.value ∙ sym (count_in-table_of c.self.inside.places.entries c.args.prefix.now)
    ∙ ap (λ (t : List (List ℕ × ℕ)). count_in t c.args.prefix.now) c.self.view_is
