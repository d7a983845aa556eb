-- A broadcast: the octets of its frames, as a publish socket sends them one after another.
use Rattle.std.specs.Prelude.{ℕ, List, [], ◌∷◌}

abbrev pub Frames : Type 0
Frames = List (List ℕ)

-- subscriptions are compared with the first frame
abbrev pub topic_of : Frames → List ℕ
topic_of [] = []
topic_of (topic ∷ rest) = topic
