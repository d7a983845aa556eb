-- The procedures in effect, by the numbers of their names, are those that a world has under these names: each tells the kinds of its parameters.
use Rattle.std.proofs.Common.{◌<◌, ◌≤◌, length, drop}
use Rattle.janus_check.specs.declared.env.Kind.{Kind}
use Rattle.std.proofs.Common.{◌≡◌, ◌+◌, ℕ, zero, suc, Bool, true, false, List, [], ◌∷◌, Option, Some, None, refl, ap, ◌∙◌, sym, subst, arith, ◌⊎◌, inl, inr}
use Rattle.std.proofs.lemmas.Option.{slice_get_past}
use Rattle.janus_meaning.specs.Syntax as tree
use Rattle.janus_meaning.specs.Syntax.{Name, Proc}
use Rattle.janus_meaning.specs.Fault.{Res, Fine, Bad}
use Rattle.janus_meaning.specs.Store.{same_name, pick, find}
use Rattle.janus_meaning.specs.Shape.{Heads, head_at, heads_of, kinds_in, pick_newest}
use Rattle.janus_meaning.proofs.Stores.{same_name_true, same_name_self}
use Rattle.janus_slots.specs.Numbers.{IsNumbered, IsMet, IsUnmet, HaveOneNumber}
use Rattle.janus_slots.specs.Slots.{slot, stacked, procedure_in, procedures_in}
use Rattle.janus_slots.specs.Law.{AreListed}
use Rattle.janus_slots.proofs.Results.{res_in}
use Rattle.janus_slots.proofs.Stores.{find_in}
use Rattle.janus_check.specs.Names.{above, heads_in, meant_kinds, AreAdded}
use Rattle.janus_code.proofs.Slotting.{entry_at}
use Rattle.kernel_runner.specs.Bodies.{IsFound, Define}
use Rattle.kernel_runner.specs.LinkedProcedure.{kinds_of}
use Rattle.kernel_runner.specs.Procedures.{body_at}
use Rattle.kernel_runner.proofs.BodiesInEffect.{defined_in_effect}
use Rattle.kernel_runner.specs.linked_procedure.LinkedProcedure.{LinkedProcedure}
use Rattle.kernel_runner.specs.procedures.Procedures.{Procedures}
use Rattle.kernel_loader.specs.Known.{FindTheSame}
use Rattle.kernel_loader.specs.InEffect.{kinds_in_effect, with_kinds, in_effect_from}

-- ---- names in a row

not_first : (f x : Name) (es : List Name) → IsUnmet (x ∷ es) f → same_name f x ≡ false
not_first f x es u = by (same_name f x) refl
  where
    by : (b : Bool) → same_name f x ≡ b → same_name f x ≡ false
    by false s = s
    by true s = absurd (u 0 (ap Some (sym (same_name_true f x s))))

later_one : (x : Name) (es : List Name) → HaveOneNumber (x ∷ es) → HaveOneNumber es
later_one x es one = λ j k y a b. let e : suc j ≡ suc k = one (suc j) (suc k) y a b in omega (arith, e)

-- a name with a later number is not the first one
first_other : (f x : Name) (es : List Name) (i : ℕ) → HaveOneNumber (x ∷ es) → IsNumbered es i f → same_name f x ≡ false
first_other f x es i one n = by (same_name f x) refl
  where
    by : (b : Bool) → same_name f x ≡ b → same_name f x ≡ false
    by false s = s
    by true s = let bad : 0 ≡ suc i = one 0 (suc i) f (ap Some (sym (same_name_true f x s))) n in absurd (omega (arith, bad))

met_or_not : (f : Name) (es : List Name) → IsMet es f ⊎ IsUnmet es f
met_or_not f [] = inr (λ k h. let bad : None ≡ Some f = sym (slice_get_past [] k (omega arith)) ∙ h in cc)
met_or_not f (x ∷ es) = by (same_name f x) refl (met_or_not f es)
  where
    unmet : same_name f x ≡ false → IsUnmet es f → (k : ℕ) → IsNumbered (x ∷ es) k f → ⊥
    unmet s u zero h =
        let same : x ≡ f = cc in
        let bad : true ≡ false = sym (same_name_self f) ∙ ap (same_name f) (sym same) ∙ s in
        cc
    unmet s u (suc k) h = u k h

    by : (b : Bool) → same_name f x ≡ b → IsMet es f ⊎ IsUnmet es f → IsMet (x ∷ es) f ⊎ IsUnmet (x ∷ es) f
    by true s m = inl (0, ap Some (sym (same_name_true f x s)))
    by false s (inl m) = inl (suc m.0, m.1)
    by false s (inr u) = inr (unmet s u)

-- ---- what the world has

abbrev kinds_of_found : Res Proc → Option (List tree.Kind)
kinds_of_found (Fine p) = Some (kinds_in p.params)
kinds_of_found (Bad e) = None

head_found : (f : Name) (ps : List Proc) → head_at f (heads_of ps) ≡ kinds_of_found (find f ps)
head_found f [] = refl
head_found f (p ∷ ps) = by (same_name f p.name) (head_found f ps)
  where
    by : (b : Bool) → head_at f (heads_of ps) ≡ kinds_of_found (find f ps) →
        pick_newest b (kinds_in p.params) (head_at f (heads_of ps)) ≡ kinds_of_found (pick b p (find f ps))
    by true h = refl
    by false h = h

kinds_stacked : (l : List (Name × tree.Kind)) → kinds_in (stacked l) ≡ kinds_in l
kinds_stacked [] = refl
kinds_stacked (e ∷ l) = ap (λ ks. e.1 ∷ ks) (kinds_stacked l)

-- a name that isn't in the table is no procedure's
unlisted : (es : List Name) (f : Name) (ps : List Proc) → AreListed es ps → IsUnmet es f → head_at f (heads_of ps) ≡ None
unlisted es f [] l u = refl
unlisted es f (p ∷ ps) l u = by (same_name f p.name) refl (unlisted es f ps l.1 u)
  where
    by : (b : Bool) → same_name f p.name ≡ b → head_at f (heads_of ps) ≡ None → pick_newest b (kinds_in p.params) (head_at f (heads_of ps)) ≡ None
    by true s h = absurd (u l.0.0 (l.0.1 ∙ ap Some (sym (same_name_true f p.name s))))
    by false s h = h

-- ---- what is in effect

from_found : (es : List Name) (o : Option LinkedProcedure) (r : Res Proc) → IsFound o (res_in (procedure_in es) r) → kinds_in_effect o ≡ kinds_of_found r
from_found es None (Bad e) h = refl
from_found es None (Fine p) h = cc
from_found es (Some b) (Bad e) h = let bad = h.1 in cc
from_found es (Some b) (Fine p) h =
    let same : procedure_in es p ≡ h.0 = (let e = h.1 in cc) in
    ap Some (sym (h.2.kinds) ∙ ap (λ (q : Proc). kinds_in q.params) (sym same) ∙ kinds_stacked p.params)

-- a name's number finds the kinds that the world has under the name, whatever older procedures it hides
pub head_by_number : (t : Procedures) (stack : List ℕ) (ps : List Proc) (es : List Name) (f : Name) (k : ℕ) → AreListed es ps →
    Define t stack (procedures_in es ps) → HaveOneNumber es → IsNumbered es k f → kinds_in_effect (body_at t k) ≡ head_at f (heads_of ps)
head_by_number t stack ps es f k listed defined one n =
    let number : find (slot k) (procedures_in es ps) ≡ res_in (procedure_in es) (find f ps) =
    ap (λ n. find n (procedures_in es ps)) (sym (entry_at es f k n one)) ∙ find_in es f ps listed in
    from_found es (body_at t k) (find f ps) (subst (IsFound (body_at t k)) number (defined_in_effect t stack (procedures_in es ps) defined k))
    ∙ sym (head_found f ps)

-- ---- all that are in effect

module _ (t : Procedures) where
  unmet_above : (f : Name) (g : Heads) (k : ℕ) (es : List Name) → IsUnmet es f →
      head_at f (above meant_kinds g (in_effect_from t k es)) ≡ head_at f g
  unmet_above f g k [] u = refl
  unmet_above f g k (x ∷ es) u =
      by (body_at t k) (unmet_above f g (suc k) es (λ i h. u (suc i) h)) (λ h. unmet_above f h (suc k) es (λ i e. u (suc i) e))
    where
      by : (o : Option LinkedProcedure) → head_at f (above meant_kinds g (in_effect_from t (suc k) es)) ≡ head_at f g →
          ((h : Heads) → head_at f (above meant_kinds h (in_effect_from t (suc k) es)) ≡ head_at f h) →
          head_at f (above meant_kinds g (with_kinds x o (in_effect_from t (suc k) es))) ≡ head_at f g
      by None here more = here
      by (Some b) here more =
          more ((x, meant_kinds (kinds_of b)) ∷ g)
          ∙ ap (λ v. pick_newest v (meant_kinds (kinds_of b)) (head_at f g)) (not_first f x es u)

  number_above : (f : Name) (g : Heads) (k i : ℕ) (es : List Name) → HaveOneNumber es → IsNumbered es i f → head_at f g ≡ None →
      head_at f (above meant_kinds g (in_effect_from t k es)) ≡ kinds_in_effect (body_at t (k + i))
  number_above f g k i [] one n none = let bad : None ≡ Some f = sym (slice_get_past [] i (omega arith)) ∙ n in cc
  number_above f g k zero (x ∷ es) one n none =
      by (body_at t k) ∙ ap (λ n. kinds_in_effect (body_at t n)) (let e : k ≡ k + 0 = omega arith in e)
    where
      rest : IsUnmet es f
      rest = λ j h. let bad : 0 ≡ suc j = one 0 (suc j) f n h in omega (arith, bad)

      same : same_name f x ≡ true
      same = let e : x ≡ f = cc in ap (same_name f) e ∙ same_name_self f

      by : (o : Option LinkedProcedure) → head_at f (above meant_kinds g (with_kinds x o (in_effect_from t (suc k) es))) ≡ kinds_in_effect o
      by None = unmet_above f g (suc k) es rest ∙ none
      by (Some b) =
          unmet_above f ((x, meant_kinds (kinds_of b)) ∷ g) (suc k) es rest
          ∙ ap (λ v. pick_newest v (meant_kinds (kinds_of b)) (head_at f g)) same
  number_above f g k (suc i) (x ∷ es) one n none =
      by (body_at t k) (λ h. number_above f h (suc k) i es (later_one x es one) n)
      ∙ ap (λ n. kinds_in_effect (body_at t n)) (let e : suc k + i ≡ k + suc i = omega arith in e)
    where
      by : (o : Option LinkedProcedure) →
          ((h : Heads) → head_at f h ≡ None → head_at f (above meant_kinds h (in_effect_from t (suc k) es)) ≡ kinds_in_effect (body_at t (suc k + i))) →
          head_at f (above meant_kinds g (with_kinds x o (in_effect_from t (suc k) es))) ≡ kinds_in_effect (body_at t (suc k + i))
      by None more = more g none
      by (Some b) more =
          more ((x, meant_kinds (kinds_of b)) ∷ g)
          (ap (λ v. pick_newest v (meant_kinds (kinds_of b)) (head_at f g)) (first_other f x es i one n) ∙ none)

  -- no name stands among them twice
  added_above : (g : Heads) (k : ℕ) (es : List Name) → HaveOneNumber es → ((i : ℕ) (x : Name) → IsNumbered es i x → head_at x g ≡ None) →
      AreAdded meant_kinds g (in_effect_from t k es)
  added_above g k [] one new = tt
  added_above g k (x ∷ es) one new =
      by (body_at t k) (λ h. added_above h (suc k) es (later_one x es one))
    where
      by : (o : Option LinkedProcedure) →
          ((h : Heads) → ((i : ℕ) (y : Name) → IsNumbered es i y → head_at y h ≡ None) → AreAdded meant_kinds h (in_effect_from t (suc k) es)) →
          AreAdded meant_kinds g (with_kinds x o (in_effect_from t (suc k) es))
      by None more = more g (λ i y n. new (suc i) y n)
      by (Some b) more = (
        new 0 x refl,
        more ((x, meant_kinds (kinds_of b)) ∷ g) (λ i y n.
            ap (λ v. pick_newest v (meant_kinds (kinds_of b)) (head_at y g)) (first_other y x es i one n) ∙ new (suc i) y n),
      )

  pub in_effect_added : (es : List Name) → HaveOneNumber es → AreAdded meant_kinds [] (in_effect_from t 0 es)
  in_effect_added es one = added_above [] 0 es one (λ i x n. refl)

  -- a name with a number finds the procedure in effect under it, and any other name finds none
  pub head_in_effect : (es : List Name) (f : Name) (k : ℕ) → HaveOneNumber es → IsNumbered es k f →
      head_at f (heads_in (in_effect_from t 0 es)) ≡ kinds_in_effect (body_at t k)
  head_in_effect es f k one n =
      number_above f [] 0 k es one n refl ∙ ap (λ n. kinds_in_effect (body_at t n)) (let e : 0 + k ≡ k = omega arith in e)

  pub no_head_in_effect : (es : List Name) (f : Name) → IsUnmet es f → head_at f (heads_in (in_effect_from t 0 es)) ≡ None
  no_head_in_effect es f u = unmet_above f [] 0 es u

  -- what is in effect is what the world has
  pub heads_in_effect : (stack : List ℕ) (ps : List Proc) (es : List Name) → AreListed es ps → Define t stack (procedures_in es ps) → HaveOneNumber es →
      FindTheSame (heads_in (in_effect_from t 0 es)) (heads_of ps)
  heads_in_effect stack ps es listed defined one = λ f. by f (met_or_not f es)
    where
      by : (f : Name) → IsMet es f ⊎ IsUnmet es f → head_at f (heads_in (in_effect_from t 0 es)) ≡ head_at f (heads_of ps)
      by f (inl m) = head_in_effect es f m.0 one m.1 ∙ head_by_number t stack ps es f m.0 listed defined one m.1
      by f (inr u) = no_head_in_effect es f u ∙ sym (unlisted es f ps listed u)

-- ---- how many are in effect

-- no more than there are names
pub in_effect_few : (t : Procedures) (k : ℕ) (es : List Name) → length (in_effect_from t k es) ≤ length es
in_effect_few t k [] = omega arith
in_effect_few t k (x ∷ es) = by (body_at t k) (in_effect_few t (suc k) es)
  where
    by : (o : Option LinkedProcedure) → length (in_effect_from t (suc k) es) ≤ length es →
        length (with_kinds x o (in_effect_from t (suc k) es)) ≤ length (x ∷ es)
    by None h = omega (arith, h)
    by (Some b) h = omega (arith, h)

-- those from a number on are one more than those behind it, where a body is in effect there
abbrev pub one_if : Option LinkedProcedure → ℕ
one_if None = 0
one_if (Some b) = 1

pub in_effect_step : (t : Procedures) (es : List Name) (i : ℕ) → i < length es →
    length (in_effect_from t i (drop i es)) ≡ one_if (body_at t i) + length (in_effect_from t (suc i) (drop (suc i) es))
in_effect_step t es i l =
    subst (λ (n : ℕ). length (in_effect_from t n (drop i es)) ≡ one_if (body_at t n) + length (in_effect_from t (suc n) (drop (suc i) es)))
    (let e : 0 + i ≡ i = omega arith in e) (step 0 es i l)
  where
    count : (x : Name) (o : Option LinkedProcedure) (rest : List (Name × List Kind)) → length (with_kinds x o rest) ≡ one_if o + length rest
    count x None rest = omega arith
    count x (Some b) rest = omega arith

    step : (k : ℕ) (fs : List Name) (i : ℕ) → i < length fs →
        length (in_effect_from t (k + i) (drop i fs)) ≡ one_if (body_at t (k + i)) + length (in_effect_from t (suc (k + i)) (drop (suc i) fs))
    step k [] i l = absurd (omega arith)
    step k (x ∷ fs) zero l = count x (body_at t (k + 0)) (in_effect_from t (suc (k + 0)) fs)
    step k (x ∷ fs) (suc i) l =
        subst (λ (n : ℕ). length (in_effect_from t n (drop i fs)) ≡ one_if (body_at t n) + length (in_effect_from t (suc n) (drop (suc i) fs)))
        (let e : suc k + i ≡ k + suc i = omega arith in e) (step (suc k) fs i (omega arith))
