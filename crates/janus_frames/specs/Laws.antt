-- What a write does to the other names.
use Rattle.std.specs.Prelude.{◌≡◌, false}
use Rattle.janus_meaning.specs.Fault.{Fine}
use Rattle.janus_meaning.specs.Syntax.{Name}
use Rattle.janus_meaning.specs.Store.{Val, Store, look, same_name}
use Rattle.janus_frames.specs.Stores.{write}

-- behind a write the name has the value that was written, and each other name the one that it had
abbrev pub WritesAlone : Type 0
WritesAlone = (x : Name) (v : Val) (s t : Store) → write x v s ≡ Fine t → (look x t ≡ Fine v) × ((z : Name) → same_name z x ≡ false → look z t ≡ look z s)
