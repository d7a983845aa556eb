-- Messages and frames without where they lie in memory.
use Rattle.std.specs.Prelude.{ℕ, List, map}
use Rattle.std.specs.Global.{Vec}
use Rattle.jupyter_msg.specs.declared.message.Message.{Message}

-- a message, as octets
pub record Octets : Type 0 where
  pub identities : List (List ℕ)
  pub header : List ℕ
  pub parent : List ℕ
  pub metadata : List ℕ
  pub content : List ℕ
  pub buffers : List (List ℕ)

-- the octets of each frame
abbrev pub octets : List (Vec ℕ) → List (List ℕ)
octets frames = map (λ frame. frame.items) frames

abbrev pub octets_of : Message → Octets
octets_of m = record {
  identities = octets m.identities.items;
  header = m.header.items;
  parent = m.parent.items;
  metadata = m.metadata.items;
  content = m.content.items;
  buffers = octets m.buffers.items;
}
