use Rattle.std.proofs.Common.{ℕ, ◌<◌, sym, subst}
use Rattle.zmtp_peer.specs.Reading.{PeerState, Stands}
use Rattle.zmtp_peer.proofs.peer.Peer.wants.Goals as goal

pub returns : goal.returns
returns c = λ fed given h.
    let here = subst (λ (s : PeerState). Stands fed given s) (sym c.self.view_is) h in (
      λ r. let w = c.is_wanted.ensures.0 r in (w.0, w.1, w.2, subst (λ (n : ℕ). 0 < n) (here.counts w.0) w.3),
      λ w. c.is_wanted.ensures.1 (w.0, w.1, w.2, subst (λ (n : ℕ). 0 < n) (sym (here.counts w.0)) w.3),
    )
