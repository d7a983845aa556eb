-- The body that is kept of a procedure stands for it, with slots in place of names.
use Rattle.std.proofs.Common.{◌≡◌, ◌+◌, ◌<◌, ◌≤◌, Bool, true, false, cond, ℕ, zero, suc, List, [], ◌∷◌, ◌++◌, length, get_or, map, take, refl, sym, ap, ◌∙◌, subst, arith}
use Rattle.std.specs.Prelude.{slice_get, Some, Contains, Result, Ok, Err, IfOk}
use Rattle.std.proofs.lemmas.Option.{slice_get_within, same_Some}
use Rattle.kernel_loader.specs.Keeping.{HaveNumbersBelow}
use Rattle.std.proofs.lemmas.List.{length-map, map-append}
use Rattle.kernel_runner.proofs.BodiesInEffect.{bodies_from_before, bodies_from_more}
use Rattle.janus_meaning.specs.Limit.{parameter_limit}
use Rattle.janus_meaning.specs.Store.{same_name}
use Rattle.janus_meaning.specs.Syntax.{Name, Proc, names_of}
use Rattle.janus_syntax.specs.Tree.{procedure_view, procedures_view}
use Rattle.janus_syntax.specs.View.{plain_procedure}
use Rattle.janus_syntax.specs.declared.tree.Procedure as Defined
use Rattle.janus_slots.proofs.NameAt.{name_is}
use Rattle.janus_slots.specs.Slots.{slot, no_slot, number_from, stacked, procedure_in, procedures_in}
use Rattle.janus_code.specs.CodeBlock.{code_block}
use Rattle.janus_code.specs.Expressions.{symbol_name}
use Rattle.janus_code.specs.Numbered.{HasItsNumber}
use Rattle.janus_code.specs.Procedures.{param_of, proc_of, ProcedureHasNumbers}
use Rattle.janus_code.specs.Slotted.{all_slots}
use Rattle.janus_code.specs.declared.code.Symbol.{Symbol}
use Rattle.janus_code.specs.declared.code.FlatProcedure as flat
use Rattle.janus_code.specs.declared.code.FlatParameter.{FlatParameter}
use Rattle.janus_check.specs.Names.{meant_kind, meant_kinds}
use Rattle.janus_meaning.specs.Shape.{kinds_in}
use Rattle.kernel_runner.specs.LinkedProcedure.{kinds_of, kinds_told}
use Rattle.janus_code.proofs.Slotting.{are_all}
use Rattle.kernel_runner.specs.Cells.{parameters}
use Rattle.kernel_runner.specs.Bodies.{IsBody, IsBodyAt, AreBodiesFrom}
use Rattle.kernel_runner.specs.Places.{block_in, names_under}
use Rattle.kernel_runner.specs.direction.Direction.TheVariants.{Forward}
use Rattle.kernel_runner.specs.linked_procedure.LinkedProcedure.{LinkedProcedure}

slot_is : (x : Symbol) → HasItsNumber all_slots x → symbol_name all_slots x ≡ slot x.number
slot_is x h = name_is all_slots x.number (slot x.number) (are_all x.number h)

stacked_count : {A : Type 0} (l : List (Name × A)) → length (stacked l) ≡ length l
stacked_count [] = refl
stacked_count (e ∷ l) = ap suc (stacked_count l)

-- parameters with slots in place of names are those of a call
names_stacked : {A : Type 0} (l : List (Name × A)) → names_of (stacked l) ≡ parameters (length l)
names_stacked [] = refl
names_stacked (e ∷ l) = ap (λ xs. slot (length l) ∷ xs) (names_stacked l)

-- kinds of flat parameters are those that their procedure has in the meaning
kinds_flat : (ps : List FlatParameter) → kinds_in (map (param_of all_slots) ps) ≡ meant_kinds (kinds_told ps)
kinds_flat [] = refl
kinds_flat (p ∷ ps) = ap (λ ks. meant_kind p.kind ∷ ks) (kinds_flat ps)

module _ (es : List Name) (p : Proc) (f : flat.FlatProcedure) (is : proc_of all_slots f ≡ procedure_in es p) (numbered : ProcedureHasNumbers all_slots f)
    (b : LinkedProcedure) (name : b.name ≡ f.name.number) where
  pub name_of_flat : (procedure_in es p).name ≡ slot b.name
  name_of_flat = ap (λ (q : Proc). q.name) (sym is) ∙ slot_is f.name numbered.name ∙ ap slot (sym name)

  pub body_of_flat : names_under b.book ≡ length f.parameters.items → names_under b.book ≤ parameter_limit → kinds_of b ≡ kinds_told f.parameters.items →
      block_in b.book Forward ≡ code_block all_slots f.body → IsBody b (procedure_in es p)
  body_of_flat count few kinds body =
      let many : length p.params ≡ length f.parameters.items = sym (stacked_count p.params) ∙ ap (λ (q : Proc). length q.params) (sym is)
      ∙ length-map f.parameters.items (param_of all_slots) in
      record {
        few = few;
        names = names_stacked p.params ∙ ap parameters (many ∙ sym count);
        kinds = ap (λ (q : Proc). kinds_in q.params) (sym is) ∙ kinds_flat f.parameters.items ∙ ap meant_kinds (sym kinds);
        body = body ∙ ap (λ (q : Proc). q.body) is;
      }

-- the number that a procedure has in a table is that of one of its names
slot_same : (m n : ℕ) → slot m ≡ slot n → m ≡ n
slot_same m n e = cc

number_here : (b : Bool) (n k m : ℕ) (r : Name) → (r ≡ slot k → k < suc n + m) → cond b (slot n) r ≡ slot k → k < n + suc m
number_here true n k m r h e = omega (arith, slot_same n k e)
number_here false n k m r h e = omega (arith, h e)

number_among : (n : ℕ) (es : List Name) (f : Name) (k : ℕ) → number_from n es f ≡ slot k → k < n + length es
number_among n [] f k e = let bad : no_slot ≡ slot k = e in cc
number_among n (h ∷ es) f k e = number_here (same_name f h) n k (length es) (number_from (suc n) es f) (number_among (suc n) es f k) e

pub named_among : (es : List Name) (p : Proc) (k : ℕ) → (procedure_in es p).name ≡ slot k → k < length es
named_among es p k e = omega (arith, number_among 0 es p.name k e)

-- ---- results

pub if_ok_map : {A E : Type 0} {P Q : A → Type 0} (r : Result A E) → ((x : A) → P x → Q x) → IfOk r P → IfOk r Q
if_ok_map (Ok x) f h = f x h
if_ok_map (Err e) f h = tt

-- ---- several

pub among_at : (ys : List Defined.Procedure) (i : ℕ) (y : Defined.Procedure) → i < length ys → get_or ys i y ≡ y →
    Contains (map plain_procedure (procedures_view ys)) (plain_procedure (procedure_view y))
among_at [] i y l e = absurd (omega arith)
among_at (z ∷ ys) zero y l e = (0, omega arith, ap (λ (z : Defined.Procedure). plain_procedure (procedure_view z)) e)
among_at (z ∷ ys) (suc i) y l e = let h = among_at ys i y (omega arith) e in (suc h.0, omega (arith, h.1), h.2)

procedures_more : (ys : List Defined.Procedure) (i : ℕ) (y : Defined.Procedure) → i < length ys → get_or ys i y ≡ y →
    map plain_procedure (procedures_view (take (suc i) ys)) ≡ map plain_procedure (procedures_view (take i ys)) ++ plain_procedure (procedure_view y) ∷ []
procedures_more [] i y l e = absurd (omega arith)
procedures_more (z ∷ ys) zero y l e = ap (λ (z : Defined.Procedure). plain_procedure (procedure_view z) ∷ []) e
procedures_more (z ∷ ys) (suc i) y l e = ap (λ ps. plain_procedure (procedure_view z) ∷ ps) (procedures_more ys i y (omega arith) e)

procedures_count : (ys : List Defined.Procedure) (i : ℕ) → i ≤ length ys → length (map plain_procedure (procedures_view (take i ys))) ≡ i
procedures_count ys zero l = refl
procedures_count [] (suc i) l = absurd (omega arith)
procedures_count (z ∷ ys) (suc i) l = ap suc (procedures_count ys i (omega arith))

last_one : (xs : List LinkedProcedure) (b : LinkedProcedure) → slice_get (xs ++ b ∷ []) (length xs) ≡ Some b
last_one [] b = refl
last_one (x ∷ xs) b = last_one xs b

pub take_before : (n : ℕ) (xs : List LinkedProcedure) (b : LinkedProcedure) → n ≤ length xs → take n (xs ++ b ∷ []) ≡ take n xs
take_before zero xs b l = refl
take_before (suc n) [] b l = absurd (omega arith)
take_before (suc n) (x ∷ xs) b l = ap (λ ys. x ∷ ys) (take_before n xs b (omega arith))

pub one_longer : (xs : List LinkedProcedure) (b : LinkedProcedure) → length (xs ++ b ∷ []) ≡ suc (length xs)
one_longer [] b = refl
one_longer (x ∷ xs) b = ap suc (one_longer xs b)

-- one body more, which is that of a procedure with slots
pub bodies_more : (es : List Name) (old all new : List LinkedProcedure) (ys : List Defined.Procedure) (i : ℕ) (y : Defined.Procedure) (b : LinkedProcedure) →
    i < length ys → get_or ys i y ≡ y →
    AreBodiesFrom all (length old) (procedures_in es (map plain_procedure (procedures_view (take i ys)))) → length all ≡ length old + i →
    new ≡ all ++ b ∷ [] →
    (procedure_in es (plain_procedure (procedure_view y))).name ≡ slot b.name → IsBody b (procedure_in es (plain_procedure (procedure_view y))) →
    AreBodiesFrom new (length old) (procedures_in es (map plain_procedure (procedures_view (take (i + 1) ys))))
bodies_more es old all new ys i y b l e bodies count made named body =
    let ps : List Proc = procedures_in es (map plain_procedure (procedures_view (take i ys))) in
    let p : Proc = procedure_in es (plain_procedure (procedure_view y)) in
    let one : suc i ≡ i + 1 = omega arith in
    let many : length ps ≡ i = length-map (map plain_procedure (procedures_view (take i ys))) (procedure_in es)
    ∙ procedures_count ys i (let r : i ≤ length ys = omega arith in r) in
    let place : length all ≡ length old + length ps = count ∙ ap (λ n. length old + n) (sym many) in
    let at : IsBodyAt (all ++ b ∷ []) (length old + length ps) p =
    record { body = b; there = ap (slice_get (all ++ b ∷ [])) (sym place) ∙ last_one all b; name = named; is = body } in
    let more : procedures_in es (map plain_procedure (procedures_view (take (i + 1) ys))) ≡ ps ++ p ∷ [] =
    ap (λ n. procedures_in es (map plain_procedure (procedures_view (take n ys)))) (sym one) ∙ ap (procedures_in es) (procedures_more ys i y l e)
    ∙ map-append (procedure_in es) (map plain_procedure (procedures_view (take i ys))) (plain_procedure (procedure_view y) ∷ []) in
    subst (λ bs. AreBodiesFrom bs (length old) (procedures_in es (map plain_procedure (procedures_view (take (i + 1) ys))))) (sym made)
    (subst (λ qs. AreBodiesFrom (all ++ b ∷ []) (length old) qs) (sym more)
    (bodies_from_more (all ++ b ∷ []) (length old) ps p (bodies_from_before all b (length old) ps bodies) at))

-- a body behind others whose number is below a bound, too
pub below_more : (n : ℕ) (all new : List LinkedProcedure) (b : LinkedProcedure) → new ≡ all ++ b ∷ [] → HaveNumbersBelow n all → b.name < n →
    HaveNumbersBelow n new
below_more n all new b made h l = subst (λ bs. HaveNumbersBelow n bs) (sym made) (more all h)
  where
    more : (xs : List LinkedProcedure) → HaveNumbersBelow n xs → HaveNumbersBelow n (xs ++ b ∷ [])
    more [] h zero y e = subst (λ (c : LinkedProcedure). c.name < n) (same_Some b y e) l
    more [] h (suc i) y e = absurd (let r = slice_get_within {A = LinkedProcedure} [] i y e in omega arith)
    more (x ∷ xs) h zero y e = h 0 y e
    more (x ∷ xs) h (suc i) y e = more xs (λ j z f. h (suc j) z f) i y e

-- bodies behind others are at later indices
get_behind : (old xs : List LinkedProcedure) (i : ℕ) → slice_get (old ++ xs) (length old + i) ≡ slice_get xs i
get_behind [] xs i = ap (slice_get xs) (let e : 0 + i ≡ i = omega arith in e)
get_behind (x ∷ old) xs i =
    ap (slice_get (x ∷ (old ++ xs))) (let e : length (x ∷ old) + i ≡ suc (length old + i) = omega arith in e) ∙ get_behind old xs i

bodies_later : (old xs : List LinkedProcedure) (k : ℕ) (ps : List Proc) → AreBodiesFrom xs k ps → AreBodiesFrom (old ++ xs) (length old + k) ps
bodies_later old xs k [] h = tt
bodies_later old xs k (p ∷ ps) h = (
  record { body = h.0.body; there = get_behind old xs k ∙ h.0.there; name = h.0.name; is = h.0.is },
  subst (λ (n : ℕ). AreBodiesFrom (old ++ xs) n ps) (let e : length old + suc k ≡ suc (length old + k) = omega arith in e)
      (bodies_later old xs (suc k) ps h.1),
)

pub bodies_behind : (old new xs : List LinkedProcedure) (ps : List Proc) → new ≡ old ++ xs → AreBodiesFrom xs 0 ps → AreBodiesFrom new (length old) ps
bodies_behind old new xs ps made h =
    subst (λ (bs : List LinkedProcedure). AreBodiesFrom bs (length old) ps) (sym made)
    (subst (λ (n : ℕ). AreBodiesFrom (old ++ xs) n ps) (let e : length old + 0 ≡ length old = omega arith in e) (bodies_later old xs 0 ps h))
