-- The places of the sockets are apart.
use Rattle.std.proofs.Common.{◌≡◌, ◌≢◌, ℕ, ◌+◌, ◌≤◌, ◌⊎◌, if◌then◌else◌, inl, inr, refl, lit≤}
use Rattle.kernel_desk.specs.socket.Socket.{Socket}
use Rattle.kernel_desk.specs.socket.Socket.TheVariants.{Shell, Control, Iopub, Stdin, Heartbeat}
use Rattle.kernel_places.specs.Sockets.{places_on, first_on, is_subscribed}

pub apart : (s t : Socket) → s ≢ t → is_subscribed s ≡ is_subscribed t → (first_on s + places_on s ≤ first_on t) ⊎ (first_on t + places_on t ≤ first_on s)
apart Shell Shell other _ = absurd (other refl)
apart Shell Control _ _ = inl (lit≤ tt)
apart Shell Iopub _ same = cc
apart Shell Stdin _ _ = inl (lit≤ tt)
apart Shell Heartbeat _ _ = inl (lit≤ tt)
apart Control Shell _ _ = inr (lit≤ tt)
apart Control Control other _ = absurd (other refl)
apart Control Iopub _ same = cc
apart Control Stdin _ _ = inl (lit≤ tt)
apart Control Heartbeat _ _ = inl (lit≤ tt)
apart Iopub Shell _ same = cc
apart Iopub Control _ same = cc
apart Iopub Iopub other _ = absurd (other refl)
apart Iopub Stdin _ same = cc
apart Iopub Heartbeat _ same = cc
apart Stdin Shell _ _ = inr (lit≤ tt)
apart Stdin Control _ _ = inr (lit≤ tt)
apart Stdin Iopub _ same = cc
apart Stdin Stdin other _ = absurd (other refl)
apart Stdin Heartbeat _ _ = inl (lit≤ tt)
apart Heartbeat Shell _ _ = inr (lit≤ tt)
apart Heartbeat Control _ _ = inr (lit≤ tt)
apart Heartbeat Iopub _ same = cc
apart Heartbeat Stdin _ _ = inr (lit≤ tt)
apart Heartbeat Heartbeat other _ = absurd (other refl)

pub there : (s : Socket) → first_on s + places_on s ≤ (if is_subscribed s then 32 else 160)
there Shell = lit≤ tt
there Control = lit≤ tt
there Iopub = lit≤ tt
there Stdin = lit≤ tt
there Heartbeat = lit≤ tt
