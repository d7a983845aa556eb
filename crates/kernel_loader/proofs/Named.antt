-- Which names come into a table of names of procedures.
use Rattle.std.proofs.Common.{◌≡◌, ◌<◌, ◌≤◌, ◌+◌, ℕ, zero, suc, List, [], ◌∷◌, length, length-append, get_or, map, Some, None, ap, ◌∙◌, sym, subst, arith}
use Rattle.std.proofs.Common.{Contains, inl, inr, ⊎_elim}
use Rattle.std.proofs.lemmas.List.{length-map}
use Rattle.std.proofs.lemmas.Option.{slice_get_past}
use Rattle.janus_meaning.specs.Syntax.{Name, Proc}
use Rattle.janus_slots.specs.Numbers.{IsNumbered, Adds}
use Rattle.janus_syntax.specs.Tree.{procedure_view, procedures_view}
use Rattle.janus_syntax.specs.View.{plain_procedure}
use Rattle.janus_syntax.specs.declared.tree.Procedure as Defined
use Rattle.janus_code.proofs.Pairs.{last_or_before}
use Rattle.kernel_loader.specs.Loading.{AddNamesOf}

abbrev names_defined : List Proc → List Name
names_defined ps = map (λ (p : Proc). p.name) ps

-- the name of each of several procedures
pub named_here : (ys : List Defined.Procedure) (i : ℕ) (y : Defined.Procedure) → i < length ys → get_or ys i y ≡ y →
    Contains (map (λ (p : Proc). p.name) (map plain_procedure (procedures_view ys))) (plain_procedure (procedure_view y)).name
named_here [] i y l e = absurd (omega arith)
named_here (z ∷ ys) zero y l e = (0, omega arith, ap (λ (z : Defined.Procedure). (plain_procedure (procedure_view z)).name) e)
named_here (z ∷ ys) (suc i) y l e =
    let h : Contains (names_defined (map plain_procedure (procedures_view ys))) (plain_procedure (procedure_view y)).name = named_here ys i y (omega arith) e in
    (suc h.0, omega (arith, h.1), h.2)

-- as many procedures as are read
pub counted : (ys : List Defined.Procedure) (ps : List Proc) → map plain_procedure (procedures_view ys) ≡ ps → length ys ≡ length ps
counted ys ps same = omega (arith, ap length same, length-map (procedures_view ys) plain_procedure, length-map ys procedure_view)

-- the names of so many procedures are few
pub few_listed : (old new : List Name) (ys : List Defined.Procedure) (ps : List Proc) (n : ℕ) → map plain_procedure (procedures_view ys) ≡ ps →
    length new ≤ length old + length ys → length old + length ps ≤ n → length new ≤ n
few_listed old new ys ps n same few more =
    omega (arith, few, more, ap length same, length-map (procedures_view ys) plain_procedure, length-map ys procedure_view)

pub none_added : (old : List Name) (ps : List Proc) → AddNamesOf old old ps
none_added old ps n x behind at = let bad : None ≡ Some x = sym (slice_get_past old n behind) ∙ at in cc

-- one name more, or none: how many there are
pub added_count : (es fs : List Name) (k : ℕ) (x : Name) → Adds es fs k x → length fs ≤ length es + 1
added_count es fs k x (inl same) = omega (arith, ap length same)
added_count es fs k x (inr more) = omega (arith, ap length more.1 ∙ length-append es (x ∷ []))

-- one name more, or none
pub one_added : (old es fs : List Name) (k : ℕ) (x : Name) (ps : List Proc) → AddNamesOf old es ps → Contains (map (λ (p : Proc). p.name) ps) x →
    Adds es fs k x → AddNamesOf old fs ps
one_added old es fs k x ps h here (inl same) = subst (λ (l : List Name). AddNamesOf old l ps) (sym same) h
one_added old es fs k x ps h here (inr more) = λ n y behind at.
    ⊎_elim
    (λ (before : IsNumbered es n y). h n y behind before)
    (λ (last : (n ≡ length es) × (x ≡ y)). subst (λ (y : Name). Contains (names_defined ps) y) last.1 here)
    (last_or_before es x y n (subst (λ (l : List Name). IsNumbered l n y) more.1 at))
