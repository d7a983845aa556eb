-- Memory is reserved for what came alone.
use Rattle.std.proofs.Common.{◌≡◌, ◌≤◌, ◌+◌, ℕ, length, ap, arith, vec_len}
use Rattle.std.proofs.lemmas.List.{length-map}
use Rattle.std.specs.declared.alloc.Global.{Global}
use Rattle.std.specs.declared.vec.Vec.{Vec}
use Rattle.zmtp_peer.specs.declared.intake.Stage.{Stage}
use Rattle.zmtp_peer.specs.declared.intake.Stage.TheVariants as stage
use Rattle.zmtp_peer.specs.declared.intake.Intake.{Intake}
use Rattle.zmtp_peer.specs.Events.{bodies}
use Rattle.zmtp_peer.specs.Intake.{GrowsBy, IsRefusal, state_at}
use Rattle.zmtp_peer.specs.Connection.{IsOpeningEmpty}
use Rattle.zmtp_peer.specs.Reading.{Room, ReservesFor, held_in}

-- one more frame
pub grows-more : (n m : ℕ) (a b c : Intake) → GrowsBy n a b → GrowsBy 1 b c → n + 1 ≤ m → GrowsBy m a c
grows-more n m a b c g h less = record {
  brought = omega (arith, g.brought, h.brought);
  held = omega (arith, g.held, h.held);
  room = omega (arith, g.held, g.room, h.room);
}

-- no more than more
pub grows-within : (n m : ℕ) (a b : Intake) → GrowsBy n a b → n ≤ m → GrowsBy m a b
grows-within n m a b g less = record { brought = omega (arith, g.brought); held = omega (arith, g.held); room = omega (arith, g.room) }

-- more octets came, and fewer events
pub reserves-within : (octets more frames : ℕ) (old new : Room) (events : ℕ) → ReservesFor octets frames old new events → octets ≤ more →
    ReservesFor more frames old new events
reserves-within octets more frames old new events r less =
    record { stream = omega (arith, r.stream); held = omega (arith, r.held); told = omega (arith, r.told) }

pub reserves-fewer : (octets frames : ℕ) (old new : Room) (events : ℕ) → ReservesFor octets frames old new events → ReservesFor octets frames old new 0
reserves-fewer octets frames old new events r = record { stream = r.stream; held = r.held; told = omega arith }

pub reserves-none : (octets frames : ℕ) (old : Room) → ReservesFor octets frames old old 0
reserves-none octets frames old = record { stream = omega arith; held = omega arith; told = omega arith }

-- before READY nothing is held
pub held-count : (at : Stage) (held : Vec (Vec ℕ Global) Global) → IsOpeningEmpty at (bodies held.items) → ¬ (IsRefusal (state_at at (bodies held.items)))
    → vec_len held ≡ held_in (state_at at (bodies held.items))
held-count stage.Opening held none going = omega (arith, held.ok.0, ap length none, length-map held.items (λ (v : Vec ℕ Global). v.items))
held-count stage.Open held none going = omega (arith, held.ok.0, length-map held.items (λ (v : Vec ℕ Global). v.items))
held-count (stage.Refused fault) held none going = absurd (going tt)
