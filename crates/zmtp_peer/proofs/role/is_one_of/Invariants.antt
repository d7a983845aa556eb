use Rattle.std.proofs.Common.{◌≡◌, false, map, take}
use Rattle.std.specs.List.{list_any}
use Rattle.std.specs.Str.{bytes_eq}
use Rattle.zmtp_peer.proofs.role.is_one_of.Given as goal

-- none of the types so far is it
abbrev pub invariant-loop-one : goal.invariant-loop-one
invariant-loop-one l = list_any (bytes_eq l.socket_type) (map (λ one. one.now) (take l.one-index l.types)) ≡ false
