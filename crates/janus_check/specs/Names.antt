-- The names in sight and the heads of procedures, as lists of names with what they stand for, the newest first.
use Rattle.std.specs.Prelude.{◌≡◌, ℕ, Bool, is_some, List, [], ◌∷◌, map, Option, Some, None, Vec, String, string_bytes}
use Rattle.std.specs.declared.alloc.Global.{Global}
use Rattle.janus_meaning.specs.Syntax as tree
use Rattle.janus_meaning.specs.Shape.{Shape, Heads, at_name, kind_at, stack_count}
use Rattle.janus_check.specs.declared.env.Kind.{Kind}
use Rattle.janus_check.specs.declared.env.Kind.TheVariants.{Number, Array, Stack}

abbrev pub meant_kind : Kind → tree.Kind
meant_kind Number = tree.ANumber
meant_kind Array = tree.AnArray
meant_kind Stack = tree.AStack

abbrev pub meant_kinds : List Kind → List tree.Kind
meant_kinds ks = map meant_kind ks

-- the kind that a look-up finds, if it finds one
abbrev pub kind_found : Option Kind → Option tree.Kind
kind_found (Some k) = Some (meant_kind k)
kind_found None = None

-- a name is in sight
abbrev pub is_in : tree.Name → Shape → Bool
is_in x g = is_some (kind_at x g)

-- names in their order with what they stand for, over older ones
abbrev pub above : {V A : Type 0} → (V → A) → List (tree.Name × A) → List (List ℕ × V) → List (tree.Name × A)
above m g [] = g
above m g (e ∷ es) = above m ((e.0, m e.1) ∷ g) es

-- none of the names is there when it is added
abbrev pub AreAdded : {V A : Type 0} → (V → A) → List (tree.Name × A) → List (List ℕ × V) → Type 0
AreAdded m g [] = Unit {0}
AreAdded m g (e ∷ es) = (at_name e.0 g ≡ None) × AreAdded m ((e.0, m e.1) ∷ g) es

-- names in order of declaration, over older ones
abbrev pub over : Shape → List (List ℕ × Kind) → Shape
over g es = above meant_kind g es

-- the names of a list, in order of declaration
abbrev pub shape_in : List (List ℕ × Kind) → Shape
shape_in names = over [] names

-- none of the names is in sight when it is declared
abbrev pub AreNewNames : Shape → List (List ℕ × Kind) → Type 0
AreNewNames g es = AreAdded meant_kind g es

-- the heads of a list of procedures, in order of definition
abbrev pub heads_in : List (List ℕ × List Kind) → Heads
heads_in es = above meant_kinds [] es

-- What is declared and defined: names with their kinds, and procedures with those of their parameters, each in order.
pub record Known : Type 0 where
  pub names : List (List ℕ × Kind)
  pub procedures : List (List ℕ × List Kind)

-- ---- how an `Env` keeps them

abbrev pub names_kept : List (String Global × Kind) → List (List ℕ × Kind)
names_kept es = map (λ e. (string_bytes e.0, e.1)) es

abbrev pub procedures_kept : List (String Global × Vec Kind Global) → List (List ℕ × List Kind)
procedures_kept es = map (λ e. (string_bytes e.0, e.1.items)) es

-- no name and no procedure stands there twice, and the count is that of the stacks
abbrev pub AreKept : List (String Global × Kind) → ℕ → List (String Global × Vec Kind Global) → Type 0
AreKept names stacks procedures =
    AreNewNames [] (names_kept names) × (stacks ≡ stack_count (shape_in (names_kept names)))
    × AreAdded meant_kinds [] (procedures_kept procedures)
