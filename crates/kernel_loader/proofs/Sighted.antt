-- What a cell's block sees: the names of the store in which it begins, and procedures that are all listed.
use Rattle.std.proofs.Common.{◌≡◌, ℕ, zero, suc, ◌<◌, Bool, true, false, List, [], ◌∷◌, length, map, take, get_or, inl, inr, refl, sym, ap, ◌∙◌, subst, arith}
use Rattle.janus_meaning.specs.Syntax.{Name, Proc, names_of}
use Rattle.janus_meaning.specs.Store.{Store, same_name}
use Rattle.janus_meaning.specs.Shape.{Shape, Heads, head_at, head_of, heads_of, kinds_in, pick_newest}
use Rattle.janus_meaning.specs.World.{World, Declaration, DeclareInt, DeclareArray, DeclareStack, declare, declare_one, declared_name}
use Rattle.janus_meaning.specs.FormedWorld.{with_declared, with_heads, declared_kind}
use Rattle.janus_meaning.proofs.Stores.{same_name_true}
use Rattle.janus_slots.specs.Numbers.{IsMet, GoOn, Adds}
use Rattle.janus_slots.specs.Slots.{names_in}
use Rattle.janus_slots.specs.Law.{AreListed}
use Rattle.janus_slots.proofs.Whole.{shape_names}
use Rattle.janus_syntax.specs.Tree.{procedure_view, procedures_view}
use Rattle.janus_syntax.specs.View.{plain_cell, plain_procedure}
use Rattle.janus_syntax.specs.declared.tree.Procedure as Defined
use Rattle.janus_check.specs.Names.{shape_in, heads_in}
use Rattle.janus_check.specs.Checked.{cell_in, known_in, names_seen, heads_called}
use Rattle.janus_check.specs.declared.checked.Checked.{Checked}
use Rattle.janus_check.specs.declared.table.SymbolTable.{Ghosts}
use Rattle.janus_code.specs.Slotted.{HasEntries}
use Rattle.kernel_runner.specs.StoreState.{shown_store}
use Rattle.kernel_machine.specs.Language.{IsSound}
use Rattle.kernel_runner.specs.Runner.{ShownWorld}
use Rattle.kernel_runner.specs.declared.runner.Runner.{Runner}
use Rattle.kernel_runner.proofs.Growing.{no_more}
use Rattle.kernel_loader.specs.Loading.{ShowsKnown}
use Rattle.kernel_loader.proofs.Listed.{BodiesCall, bodies_call, listed_still, met_still}

-- ---- names

one_declared : (d : Declaration) (s : Store) → names_in (declare_one d s) ≡ declared_name d ∷ names_in s
one_declared (DeclareInt x) s = refl
one_declared (DeclareArray x n) s = refl
one_declared (DeclareStack x) s = refl

names_declared : (ds : List Declaration) (g : Shape) (s : Store) → names_of g ≡ names_in s → names_of (with_declared g ds) ≡ names_in (declare ds s)
names_declared [] g s e = e
names_declared (d ∷ ds) g s e =
    names_declared ds ((declared_name d, declared_kind d) ∷ g) (declare_one d s) (ap (λ (l : List Name). declared_name d ∷ l) e ∙ sym (one_declared d s))

pub names_here : {L : Type 0} (runner : Runner L) {T : Type 0} {d : Ghosts T} (checked : Checked T d) (shown : ShownWorld) →
    ShowsKnown runner (known_in checked) shown →
    names_of (names_seen checked) ≡ names_in (declare (plain_cell (cell_in checked)).declarations (shown_store runner.counted.store))
names_here runner checked shown h =
    let known : names_of (shape_in (known_in checked).names) ≡ names_in (shown_store runner.counted.store) =
    ap (λ (g : Shape). names_of g) h.known.names ∙ shape_names shown.world.store h.values ∙ ap names_in (sym h.is.0.store) in
    names_declared (plain_cell (cell_in checked)).declarations (shape_in (known_in checked).names) (shown_store runner.counted.store) known

-- ---- procedures

-- one procedure more is seen, which is listed
entry_more : (es : List Name) (hs : Heads) (p : Proc) → HasEntries hs es → IsMet es p.name → HasEntries (head_of p ∷ hs) es
entry_more es hs p q named f ds e = by (same_name f p.name) refl
  where
    by : (b : Bool) → same_name f p.name ≡ b → IsMet es f
    by true s = subst (IsMet es) (sym (same_name_true f p.name s)) named
    by false s = q f ds (sym (ap (λ b. pick_newest b (kinds_in p.params) (head_at f hs)) s) ∙ e)

entries_with : (es : List Name) (hs : Heads) (ps : List Proc) → HasEntries hs es → AreListed es ps → HasEntries (with_heads hs ps) es
entries_with es hs [] q h = q
entries_with es hs (p ∷ ps) q h = entries_with es (head_of p ∷ hs) ps (entry_more es hs p q h.0) h.1

entries_of : (es : List Name) (ps : List Proc) → AreListed es ps → HasEntries (heads_of ps) es
entries_of es [] h = λ f cs e. cc
entries_of es (p ∷ ps) h = entry_more es (heads_of ps) p (entries_of es ps h.1) h.0

-- so all is listed that the procedures of a sound world call
pub sound_call : (es : List Name) (w : World) → IsSound w → AreListed es w.procedures → BodiesCall (IsMet es) w.procedures
sound_call es w sound listed = bodies_call (heads_of w.procedures) es (entries_of es w.procedures listed) w.procedures sound.formed.procedures

pub entries_here : {L : Type 0} (runner : Runner L) {T : Type 0} {d : Ghosts T} (checked : Checked T d) (shown : ShownWorld) (es : List Name) →
    ShowsKnown runner (known_in checked) shown →
    GoOn runner.entries es → AreListed es (plain_cell (cell_in checked)).procedures → HasEntries (heads_called checked) es
entries_here runner checked shown es h onward listed =
    let older : HasEntries (heads_of shown.world.procedures) es =
    entries_of es shown.world.procedures (listed_still runner.entries es onward shown.world.procedures h.is.0.listed) in
    let known : HasEntries (heads_in (known_in checked).procedures) es = λ f cs e. older f cs (sym (h.known.heads f) ∙ e) in
    entries_with es (heads_in (known_in checked).procedures) (plain_cell (cell_in checked)).procedures known listed

-- ---- one name more comes into the table

pub adds_onward : (xs ys : List Name) (k : ℕ) (x : Name) → Adds xs ys k x → GoOn xs ys
adds_onward xs ys k x (inl same) = subst (λ (l : List Name). GoOn xs l) (sym same) (no_more xs)
adds_onward xs ys k x (inr more) = (x ∷ [], more.1)

pub listed_more : (es fs : List Name) (ys : List Defined.Procedure) (i : ℕ) (y : Defined.Procedure) → i < length ys → get_or ys i y ≡ y → GoOn es fs →
    AreListed es (map plain_procedure (procedures_view (take i ys))) → IsMet fs (plain_procedure (procedure_view y)).name →
    AreListed fs (map plain_procedure (procedures_view (take (suc i) ys)))
listed_more es fs [] i y l e onward h m = absurd (omega arith)
listed_more es fs (z ∷ ys) zero y l e onward h m = (subst (λ (z : Defined.Procedure). IsMet fs (plain_procedure (procedure_view z)).name) (sym e) m, tt)
listed_more es fs (z ∷ ys) (suc i) y l e onward h m =
    (met_still es fs onward (plain_procedure (procedure_view z)).name h.0, listed_more es fs ys i y (omega arith) e onward h.1 m)
