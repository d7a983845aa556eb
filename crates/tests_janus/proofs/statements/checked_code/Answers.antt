use Rattle.std.proofs.Common.{◌≡◌, ℕ, Bool, true, false, List, [], ◌∷◌, length, map, ap, refl, sym, subst, get_or, ◌∙◌, None, Some, arith}
use Rattle.std.specs.Prelude.{slice_get}
use Rattle.janus_meaning.specs.Syntax.{Name, Proc}
use Rattle.janus_meaning.specs.Store.{same_name}
use Rattle.janus_meaning.specs.Shape.{Heads, head_of, kinds_in, pick_newest}
use Rattle.janus_meaning.specs.FormedWorld.{with_heads}
use Rattle.janus_meaning.proofs.Stores.{same_name_true}
use Rattle.janus_syntax.specs.Tree.{Cell, procedure_view, procedures_view}
use Rattle.janus_syntax.specs.View.{plain_cell, plain_procedure, name_of}
use Rattle.janus_syntax.specs.declared.tree.Procedure.{Procedure}
use Rattle.janus_check.specs.Names.{heads_in}
use Rattle.janus_check.specs.Checked.{known_in}
use Rattle.janus_code.specs.Slotted.{HasEntries}
use Rattle.tests_janus.proofs.statements.checked_code.Goals as goal

-- a procedure alone, whose name has a number
one_entry : (es : List Name) (k : ℕ) (p : Proc) → slice_get es k ≡ Some p.name → HasEntries (head_of p ∷ []) es
one_entry es k p named f cs e = by (same_name f p.name) refl
  where
    by : (b : Bool) → same_name f p.name ≡ b → (k : ℕ) × (slice_get es k ≡ Some f)
    by true s = (k, named ∙ ap (λ (x : Name). Some x) (sym (same_name_true f p.name s)))
    by false s = let none : None ≡ Some cs = sym (ap (λ b. pick_newest b (kinds_in p.params) None) s) ∙ e in cc

-- one procedure is defined, of which the table has the name
one_defined : (es : List Name) (k : ℕ) (hs : Heads) (ps : List Procedure) (p : Procedure) (x : Name) → hs ≡ [] → length ps ≡ 1 →
    x ≡ name_of (get_or ps 0 p).name → slice_get es k ≡ Some x → HasEntries (with_heads hs (map plain_procedure (procedures_view ps))) es
one_defined es k hs [] p x none one it named = absurd (omega (arith, one))
one_defined es k hs (q ∷ []) p x none one it named =
    subst (λ (hs : Heads). HasEntries (with_heads hs (plain_procedure (procedure_view q) ∷ [])) es) (sym none)
    (one_entry es k (plain_procedure (procedure_view q)) (named ∙ ap (λ (x : Name). Some x) it))
one_defined es k hs (q ∷ r ∷ ps) p x none one it named = absurd (omega (arith, one))

pub code_over-requires : goal.code_over-requires
code_over-requires c =
    let none : heads_in (known_in c.args.checked.now).procedures ≡ [] = ap (λ l. heads_in l) c.requires in
    let ps = c.as_slice-procedures.result.now in
    let one = one_defined c.add.new.self c.in-Ok.field-0 _ ps c.index-procedures-0.result c.deref.result.now none c.if-procedures-ne1.false
    c.deref.ensures c.in-Ok.ensures.numbered in
    let whole = subst (λ (ps : List Procedure).
    HasEntries (with_heads (heads_in (known_in c.args.checked.now).procedures) (map plain_procedure (procedures_view ps))) c.add.new.self)
    c.as_slice-procedures.ensures.value one in
    subst (λ (v : Cell). HasEntries (with_heads (heads_in (known_in c.args.checked.now).procedures) (plain_cell v).procedures) c.add.new.self)
    c.cell.ensures whole
