-- What is known of a name (Jupyter messaging page, "Introspection").
use Rattle.std.specs.Prelude.{◌++◌, ◌∷◌, ℕ, List, Option, Some, None}
use Rattle.janus_meaning.specs.Syntax.{Name, Proc}
use Rattle.janus_meaning.specs.Fault.{Res, Fine, Bad}
use Rattle.janus_meaning.specs.Store.{Val, look, find}
use Rattle.janus_meaning.specs.World.{World}
use Rattle.kernel_text.specs.ProcedureTexts.{procedure_text}
use Rattle.kernel_text.specs.ValueTexts.{value_text}

-- of a declared name its value text
abbrev pub value_told : Name → Res Val → Option (List ℕ)
value_told x (Fine v) = Some (value_text (x, v))
value_told x (Bad f) = None

-- of a procedure its text
abbrev pub procedure_told : Res Proc → Option (List ℕ)
procedure_told (Fine p) = Some (procedure_text p)
procedure_told (Bad f) = None

-- the one and then the other, parted by LF, or the one that there is
abbrev pub both_told : Option (List ℕ) → Option (List ℕ) → Option (List ℕ)
both_told (Some a) (Some b) = Some (a ++ 10 ∷ b)
both_told (Some a) None = Some a
both_told None b = b

-- of a declared name its value text, and then of a procedure its text; of another word nothing
abbrev pub inspection : World → Name → Option (List ℕ)
inspection w word = both_told (value_told word (look word w.store)) (procedure_told (find word w.procedures))
