-- Which procedure a call runs.
use Rattle.std.proofs.Common.{◌≡◌, ℕ, zero, suc, ◌+◌, ◌<◌, ◌≤◌, List, [], ◌∷◌, ◌++◌, length, map, take, drop, get_or, Bool, true, false, refl, ap, ◌∙◌, sym}
use Rattle.std.proofs.Common.{◌-◌, subst, arith, add-one}
use Rattle.std.specs.Prelude.{Contains, Some, None, string_bytes}
use Rattle.std.proofs.lemmas.List.Elements.{Contains-get_or}
use Rattle.std.proofs.lemmas.List.{map-append, append_assoc, append-nil, drop_all}
use Rattle.std.proofs.Math.Seq.{take-length, drop-cons}
use Rattle.janus_meaning.specs.Syntax.{Name, Proc, names_of}
use Rattle.janus_meaning.specs.Store.{find, pick, same_name}
use Rattle.janus_meaning.specs.World.{Cell, define}
use Rattle.janus_meaning.proofs.Stores.{same_name_self, same_name_true}
use Rattle.janus_syntax.specs.Tree.{parameter_view, parameters_view, procedure_view, procedures_view}
use Rattle.janus_syntax.specs.View.{plain_parameter, plain_procedure}
use Rattle.janus_syntax.specs.declared.tree.Parameter.{Parameter}
use Rattle.janus_syntax.specs.declared.tree.Procedure.{Procedure}
use Rattle.kernel_machine.specs.State.{node_at, world_at}
use Rattle.kernel_machine.specs.Legal.{IsLegal}
use Rattle.kernel_runner.specs.declared.program.Program.{Program}
use Rattle.kernel_history.specs.Fields.{past_of}
use Rattle.kernel_history.specs.Bodies.{IsCellAt}
use Rattle.kernel_history.specs.declared.tree.EndedCell.{EndedCell}
use Rattle.kernel_history.specs.declared.tree.HistoryTree.{HistoryTree}
use Rattle.kernel_history.proofs.Nodes.{cell_there, count_of_nodes}
use Rattle.kernel_history.proofs.Rows.{over, climbed}
use Rattle.steps_walk.specs.Bodies.{plain, IsNewest, IsPassed, IsTextOf, procedures_over}

-- procedures of a text as those of the meaning
abbrev pub plains : List Procedure → List Proc
plains ps = map plain_procedure (procedures_view ps)

pub take_one : {A : Type 0} (xs : List A) (k : ℕ) (x : A) → k < length xs → get_or xs k x ≡ x → take (suc k) xs ≡ take k xs ++ x ∷ []
take_one [] k x l e = absurd (omega arith)
take_one (y ∷ xs) zero x l e = ap (λ z. z ∷ []) e
take_one (y ∷ xs) (suc k) x l e = ap (λ l. y ∷ l) (take_one xs k x (omega arith) e)

define_last : (ps rest : List Proc) (p : Proc) → define (ps ++ p ∷ []) rest ≡ p ∷ define ps rest
define_last [] rest p = refl
define_last (q ∷ ps) rest p = define_last ps (q ∷ rest) p

plains_last : (qs : List Procedure) (p : Procedure) → plains (qs ++ p ∷ []) ≡ plains qs ++ plain p ∷ []
plains_last qs p =
    ap (map plain_procedure) (map-append procedure_view qs (p ∷ []))
    ∙ map-append plain_procedure (procedures_view qs) (procedure_view p ∷ [])

pub false_unless : (x y : Name) → ¬ (x ≡ y) → same_name x y ≡ false
false_unless x y d = by (same_name x y) refl
  where
    by : (b : Bool) → same_name x y ≡ b → same_name x y ≡ false
    by true e = absurd (d (same_name_true x y e))
    by false e = e

-- ---- the newest of a name among the procedures of a cell

-- a call of the name runs the same where those from a place on are left out
abbrev pub SameUpTo : List Procedure → Name → ℕ → Type 0
SameUpTo ps name k = (rest : List Proc) → find name (define (plains ps) rest) ≡ find name (define (plains (take k ps)) rest)

module _ (ps : List Procedure) (name : Name) where
  pub same_up_to_all : SameUpTo ps name (length ps)
  same_up_to_all rest = ap (λ (qs : List Procedure). find name (define (plains qs) rest)) (sym (take-length ps))

  -- the last of those that are left
  module _ (k : ℕ) (p : Procedure) (within : k < length ps) (is : get_or ps k p ≡ p) (h : SameUpTo ps name (suc k)) where
    with_last : (rest : List Proc) → find name (define (plains ps) rest)
        ≡ pick (same_name name (plain p).name) (plain p) (find name (define (plains (take k ps)) rest))
    with_last rest =
        h rest
        ∙ ap (λ (qs : List Procedure). find name (define (plains qs) rest)) (take_one ps k p within is)
        ∙ ap (λ (qs : List Proc). find name (define qs rest)) (plains_last (take k ps) p)
        ∙ ap (find name) (define_last (plains (take k ps)) rest (plain p))

    pub found : Contains ps p → name ≡ (plain p).name → IsNewest ps name p
    found one e = record {
      one = one;
      found = λ rest.
          with_last rest
          ∙ ap (λ b. pick b (plain p) (find name (define (plains (take k ps)) rest)))
          (ap (λ x. same_name name x) (sym e) ∙ same_name_self name);
    }

    pub another : ¬ (name ≡ (plain p).name) → SameUpTo ps name k
    another d = λ rest.
        with_last rest
        ∙ ap (λ b. pick b (plain p) (find name (define (plains (take k ps)) rest))) (false_unless name (plain p).name d)

-- the last of those that are left has the name, or not
module _ (ps : List Procedure) (name : Name) (behind : ℕ) (p : Procedure) (some : 0 < behind) (low : behind ≤ length ps) (is : p ≡ get_or ps (behind - 1) p)
    (h : SameUpTo ps name behind) where
  before : SameUpTo ps name (suc (behind - 1))
  before = let z : behind ≡ suc (behind - 1) = omega (arith, some) in subst (SameUpTo ps name) z h

  within : behind - 1 < length ps
  within = omega (arith, some, low)

  pub found_last : string_bytes p.name.text ≡ name → IsNewest ps name p
  found_last e =
      found ps name (behind - 1) p within (sym is) before
      (subst (Contains ps) (sym is) (Contains-get_or ps (behind - 1) p within)) (sym e)

  pub not_last : ¬ (string_bytes p.name.text ≡ name) → SameUpTo ps name (behind - 1)
  not_last d = another ps name (behind - 1) p within (sym is) before (λ e. d (sym e))

-- ---- along the path

module _ (program : Program) (tree : HistoryTree) (name : Name) where
  -- a call of the name runs what it runs in the world of this node
  abbrev pub SameAbove : ℕ → Type 0
  SameAbove n = find name (procedures_over program tree) ≡ find name (world_at (past_of tree) n).procedures

  module _ (legal : IsLegal (past_of tree)) (n : ℕ) (cell : EndedCell) (some : 0 < n) (known : n ≤ length tree.cells.nodes) (at : IsCellAt tree n cell) (up : ℕ)
      (parent : up ≡ (node_at (past_of tree) n).parent) (h : SameAbove n) where
    -- the procedures of its world are its cell's over those of the world above
    abbrev own : List Proc
    own = plains cell.program.cell.procedures.items

    in_world : (world_at (past_of tree) n).procedures ≡ define own (world_at (past_of tree) up).procedures
    in_world =
        let size = count_of_nodes tree in
        sym (over own (world_at (past_of tree) up).procedures
        ∙ climbed (past_of tree) n up own (world_at (past_of tree) n).procedures [] (define own []) legal some (omega (arith, known, size))
        (ap (λ (d : Cell). d.procedures) (cell_there tree n cell at)) parent refl refl)

    pub found_there : IsPassed program tree name n → (p : Procedure) → IsNewest cell.program.cell.procedures.items name p → IsTextOf program tree name (Some n) p
    found_there passed p new = record {
      found = h ∙ ap (find name) in_world ∙ new.found (world_at (past_of tree) up).procedures;
      defined = (cell, at, new.one);
      newest = passed;
    }

    pub none_there : ((rest : List Proc) → find name (define own rest) ≡ find name rest) → SameAbove up
    none_there none = h ∙ ap (find name) in_world ∙ none (world_at (past_of tree) up).procedures

  pub found_here : (p : Procedure) → IsNewest program.cell.procedures.items name p → IsTextOf program tree name None p
  found_here p new = record { found = new.found (world_at (past_of tree) tree.position).procedures; defined = new.one; newest = tt }

  pub none_here : ((rest : List Proc) → find name (define (plains program.cell.procedures.items) rest) ≡ find name rest) → SameAbove tree.position
  none_here none = none (world_at (past_of tree) tree.position).procedures

-- ---- the names of parameters

-- those of parameters of a text
abbrev pub names : List Parameter → List Name
names ps = names_of (map plain_parameter (parameters_view ps))

module _ {X : Type 0} (f : X → Name) (ps : List Parameter) where
  pub next_name : (told more : List X) (s : X) (i : ℕ) (p : Parameter) → i < length ps → p ≡ get_or ps i p → more ≡ told ++ s ∷ [] →
      f s ≡ (plain_parameter (parameter_view p)).0 → map f told ++ names (drop i ps) ≡ names ps → map f more ++ names (drop (i + 1) ps) ≡ names ps
  next_name told more s i p within is e name h =
      let next : names (drop i ps) ≡ (plain_parameter (parameter_view p)).0 ∷ names (drop (i + 1) ps) =
      ap names (drop-cons ps i p within) ∙ ap (λ q. names (q ∷ drop (suc i) ps)) (sym is)
      ∙ ap (λ n. (plain_parameter (parameter_view p)).0 ∷ names (drop n ps)) (sym (add-one i)) in
      ap (λ l. map f l ++ names (drop (i + 1) ps)) e
      ∙ ap (λ l. l ++ names (drop (i + 1) ps)) (map-append f told (s ∷ []))
      ∙ append_assoc (map f told) (f s ∷ []) (names (drop (i + 1) ps))
      ∙ ap (λ x. map f told ++ x ∷ names (drop (i + 1) ps)) name
      ∙ ap (λ l. map f told ++ l) (sym next) ∙ h

  pub all_names : (told : List X) (i : ℕ) → length ps ≤ i → map f told ++ names (drop i ps) ≡ names ps → map f told ≡ names ps
  all_names told i past h =
      sym (append-nil (map f told)) ∙ ap (λ l. map f told ++ names l) (sym (drop_all i ps past)) ∙ h
