-- The laws of what is wanted, over lists of tokens.
use Rattle.std.specs.Prelude.{◌≡◌, List}
use Rattle.janus_syntax.specs.declared.fault.What.{What}
use Rattle.janus_syntax.specs.Tokens.{Token}
use Rattle.janus_syntax.specs.Forms.{Part}
use Rattle.janus_syntax.specs.Grammar.{Demands, all, IsOpen, Wants}

-- Behind one front one item is wanted at most.
abbrev pub OneWanted : Type 0
OneWanted = (goal : Part) (d : Demands) (front : List Token) (v w : What) → Wants goal d v front → Wants goal d w front → v ≡ w

-- An item is wanted behind each front that begins a text.
abbrev pub WantsIfOpen : Type 0
WantsIfOpen = (goal : Part) (d : Demands) (front : List Token) → IsOpen goal d front → (w : What) × Wants goal d w front

-- And behind no other.
abbrev pub OpenIfWants : Type 0
OpenIfWants = (goal : Part) (front : List Token) (w : What) → Wants goal all w front → IsOpen goal all front
