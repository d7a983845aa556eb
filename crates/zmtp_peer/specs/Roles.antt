-- The five roles: the socket type that each announces, and those of the peers that it takes (RFC 23, "The NULL Security
-- Mechanism": the property Socket-Type).
use Rattle.std.specs.Prelude.{ℕ, Bool, List, [], ◌∷◌, codes}
use Rattle.std.specs.List.{list_any}
use Rattle.std.specs.Str.{bytes_eq}
use Rattle.zmtp_peer.specs.declared.role.Role.{Role}
use Rattle.zmtp_peer.specs.declared.role.Role.TheVariants.{Router, Pub, Rep, Dealer, Sub}

-- the socket type that a role announces in its READY
abbrev pub socket_type_of : Role → List ℕ
socket_type_of Router = codes "ROUTER"
socket_type_of Pub = codes "PUB"
socket_type_of Rep = codes "REP"
socket_type_of Dealer = codes "DEALER"
socket_type_of Sub = codes "SUB"

-- the socket types of the peers that it takes
abbrev pub partners_of : Role → List (List ℕ)
partners_of Router = codes "ROUTER" ∷ codes "DEALER" ∷ codes "REQ" ∷ []
partners_of Pub = codes "SUB" ∷ codes "XSUB" ∷ []
partners_of Rep = codes "REQ" ∷ codes "DEALER" ∷ []
partners_of Dealer = codes "ROUTER" ∷ []
partners_of Sub = codes "PUB" ∷ []

-- whether a role takes a peer of this socket type
abbrev pub is_partner : Role → List ℕ → Bool
is_partner role socket_type = list_any (bytes_eq socket_type) (partners_of role)
