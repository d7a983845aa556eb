-- What the writer of JSON makes of a header's tokens.
use Rattle.std.proofs.Common.{◌≡◌, ℕ, List, [], ◌∷◌, codes, string_bytes}
use Rattle.json.specs.Token.{Token, begin_object, end_object, key, string}
use Rattle.json.specs.Print.{print}
use Rattle.serde_json.specs.Written.{compact_text}
use Rattle.serde_json.proofs.Texts.{print-outline}
use Rattle.kernel_message.specs.Stamp.{header, msg_id}
use Rattle.kernel_message.specs.declared.stamp.Stamp.{Stamp}

-- the tokens of a header, one member after another
abbrev pub header_tokens : List ℕ → List ℕ → List ℕ → List ℕ → List Token
header_tokens date id msg_type session =
    begin_object ∷ key (codes "date") ∷ string date ∷ key (codes "msg_id") ∷ string id ∷ key (codes "msg_type") ∷ string msg_type
    ∷ key (codes "session") ∷ string session ∷ key (codes "username") ∷ string (codes "kernel") ∷ key (codes "version") ∷ string (codes "5.4") ∷ end_object ∷ []

-- they are printed as the header's text
pub printed : (stamp : Stamp) (n : ℕ) (msg_type : List ℕ)
    → print (header_tokens stamp.date (msg_id stamp n) msg_type (string_bytes stamp.session)) ≡ compact_text (header stamp n msg_type)
printed stamp n msg_type = print-outline (header stamp n msg_type)
