-- The bodies in which open calls run are met.
use Rattle.std.proofs.Common.{◌≡◌, ℕ, zero, suc, ◌+◌, ◌-◌, ◌<◌, ◌≤◌, List, [], ◌∷◌, ◌++◌, length, reverse, Bool, true, false, leb, ◌⊎◌, inl, inr, refl}
use Rattle.std.proofs.Common.{ap, ◌∙◌, sym, subst, arith}
use Rattle.std.specs.Prelude.{All, Option, None, Some, slice_get, unwrap_or}
use Rattle.std.proofs.lemmas.Bool.Decides.{leb_tells}
use Rattle.std.proofs.lemmas.List.Elements.{All-cons, All-nil, All-get_or}
use Rattle.std.proofs.lemmas.Option.{slice_get_within, get_or_from_slice_get}
use Rattle.janus_meaning.specs.Fault.{Fine, Bad, Broken}
use Rattle.janus_meaning.specs.Syntax.{Name, Proc}
use Rattle.janus_meaning.specs.Store.{find, pick, same_name}
use Rattle.janus_meaning.proofs.Stores.{same_name_self, same_name_true}
use Rattle.janus_slots.specs.Numbers.{IsNumbered, HaveOneNumber}
use Rattle.janus_slots.specs.Slots.{slot, number_in, procedure_in, procedures_in}
use Rattle.janus_slots.specs.Law.{AreListed}
use Rattle.janus_slots.proofs.NamesInSight.{slot_number}
use Rattle.janus_machine.specs.FrameCalls.{Caller}
use Rattle.janus_machine.specs.declared.linked_code.LinkedCode.{LinkedCode}
use Rattle.janus_machine.specs.declared.linked_procedure.LinkedProcedure.{LinkedProcedure}
use Rattle.janus_machine.specs.declared.direction.Direction.{Direction}
use Rattle.janus_machine.specs.declared.cursor.Call.{Call}
use Rattle.janus_machine.specs.declared.procedures.Procedures.{Procedures}
use Rattle.janus_machine.specs.declared.whereabouts.OpenCall.{OpenCall}
use Rattle.janus_machine.specs.Cursor.{direction_of, calls_of}
use Rattle.janus_machine.specs.Procedures.{body_at}
use Rattle.janus_machine.specs.Bodies.{IsFound}
use Rattle.janus_machine.specs.Nested.{AreOpenCalls, caller_way}
use Rattle.janus_machine.specs.Whereabouts.{IsCallOf}
use Rattle.janus_machine.proofs.BodiesInEffect.{defined_in_effect}
use Rattle.kernel_runner.specs.declared.runner.Runner.{Runner}
use Rattle.kernel_runner.specs.Runner.{start_at}
use Rattle.steps_walk.specs.declared.body.Body.{Body}
use Rattle.steps_walk.specs.declared.walk.Walk.{Walk}
use Rattle.steps_walk.specs.Bodies.{procedures_over}
use Rattle.steps_walk.specs.Walk.{runner_of, program_of, tree_of, bodies_of, calls_in, IsWalking}
use Rattle.steps_walk.specs.Standing.{IsCalledAt, HasBody, IsMetAt, IsLevelMet, IsMetHere, AreMet}
use Rattle.steps_walk.proofs.Lists.{all_turned, there_still, there_last}
use Rattle.steps_walk.proofs.Standing.{number_is, began_over}

-- ---- the name of a number that a call runs

-- a name of this number, and what a call of it runs
pub record IsNamed (es : List Name) (ps : List Proc) (n : ℕ) : Type 0 where
  pub name : Name
  pub numbered : IsNumbered es n name
  pub procedure : Proc
  pub found : find name ps ≡ Fine procedure

found_over : (f : Name) (p q : Proc) (ps : List Proc) → find f ps ≡ Fine q → (r : Proc) × (find f (p ∷ ps) ≡ Fine r)
found_over f p q ps e = by (same_name f p.name) refl
  where
    by : (b : Bool) → same_name f p.name ≡ b → (r : Proc) × (find f (p ∷ ps) ≡ Fine r)
    by true s = (p, ap (λ b. pick b p (find f ps)) s)
    by false s = (q, ap (λ b. pick b p (find f ps)) s ∙ e)

pub named : (es : List Name) → HaveOneNumber es → (ps : List Proc) → AreListed es ps → (n : ℕ) (q : Proc) →
    find (slot n) (procedures_in es ps) ≡ Fine q → IsNamed es ps n
named es one [] h n q e = absurd (broken e)
  where
    broken : Bad Broken ≡ Fine q → ⊥
    broken e = cc
named es one (p ∷ ps) h n q e = by (named es one ps h.1 n q) (same_name (slot n) (number_in es p.name)) refl
  where
    by : (find (slot n) (procedures_in es ps) ≡ Fine q → IsNamed es ps n) → (b : Bool) → same_name (slot n) (number_in es p.name) ≡ b →
        IsNamed es (p ∷ ps) n
    by under true s =
        let k = h.0.0 in
        let same : n ≡ k = slot_number n k (same_name_true (slot n) (number_in es p.name) s ∙ number_is es k p.name h.0.1 one) in
        record {
          name = p.name;
          numbered = subst (λ m. IsNumbered es m p.name) (sym same) h.0.1;
          procedure = p;
          found = ap (λ b. pick b p (find p.name ps)) (same_name_self p.name);
        }
    by under false s =
        let rest = under (sym (ap (λ b. pick b (procedure_in es p) (find (slot n) (procedures_in es ps))) s) ∙ e) in
        let found = found_over rest.name p rest.procedure ps rest.found in
        record { name = rest.name; numbered = rest.numbered; procedure = found.0; found = found.1 }

-- ---- the bodies that open calls run

abbrev pub Runs : Procedures → Call → Type 0
Runs t c = (body : LinkedProcedure) × (body_at t c.procedure ≡ Some body)

all_run : (t : Procedures) (b : LinkedCode) (d : Direction) (cs : List Call) (hs : List Caller) → AreOpenCalls t b d cs hs → All (Runs t) cs
all_run t b d [] hs h = All-nil (Runs t)
all_run t b d (c ∷ cs) [] h = absurd h
all_run t b d (c ∷ cs) (k ∷ hs) h = All-cons (Runs t) c cs (h.0.body, h.0.there) (all_run t b (caller_way c.uncalled d) cs hs h.1)

module _ {L : Type 0} (w : Walk L) (walking : IsWalking w) where
  -- the i-th open call, the outermost being 0, runs a body
  pub call_runs : (i : ℕ) (c : Call) → slice_get (reverse (calls_of (runner_of w).cursor)) i ≡ Some c → HasBody w c.procedure
  call_runs i c e =
      let t = (runner_of w).procedures in
      let calls = calls_of (runner_of w).cursor in
      let all = all_turned (Runs t) calls
      (all_run t (program_of w).book (direction_of (runner_of w).cursor) calls (runner_of w).counted.store.callers walking.stands.stands.standing.calls) in
      subst (Runs t) (get_or_from_slice_get (reverse calls) i c c e)
      (All-get_or (Runs t) (reverse calls) i c (slice_get_within (reverse calls) i c e) all)

  -- the name of its number
  pub body_named : (number : ℕ) → HasBody w number → IsNamed (runner_of w).entries (procedures_over (program_of w) (tree_of w)) number
  body_named number has =
      let entries = (runner_of w).entries in
      let began = (start_at walking.stands.at).procedures in
      let found = subst (λ o. IsFound o (find (slot number) (procedures_in entries began))) has.1
      (defined_in_effect (runner_of w).procedures walking.stands.at.bodies (procedures_in entries began) walking.stands.stands.defined number) in
      subst (λ ps. IsNamed entries ps number) (began_over w walking)
      (named entries walking.one_number began walking.stands.stands.listed number found.0 found.1)

  same_name_of : (number : ℕ) (name other : Name) → IsNumbered (runner_of w).entries number name → IsNumbered (runner_of w).entries number other → other ≡ name
  same_name_of number name other e f = ap (λ (o : Option Name). unwrap_or o name) (sym f ∙ e)

  -- so a call of that name runs something
  pub runs_named : (number : ℕ) (name : Name) → HasBody w number → IsNumbered (runner_of w).entries number name →
      find name (procedures_over (program_of w) (tree_of w)) ≡ Bad Broken → ⊥
  runs_named number name has e none =
      let is = body_named number has in
      broken (sym is.found ∙ ap (λ f. find f (procedures_over (program_of w) (tree_of w))) (same_name_of number name is.name e is.numbered) ∙ none)
    where
      broken : {p : Proc} → Fine p ≡ Bad Broken → ⊥
      broken e = cc

  pub has_number : (number : ℕ) → HasBody w number → number < length (runner_of w).entries
  has_number number has = let is = body_named number has in slice_get_within (runner_of w).entries number is.name is.numbered

-- ---- which are met

-- none of the first bodies is of this number
abbrev pub NoneUpTo : {L : Type 0} → Walk L → ℕ → ℕ → Type 0
NoneUpTo w number k = (j : ℕ) → j < k → (b : Body) → slice_get (bodies_of w) j ≡ Some b → ¬ (b.number ≡ number)

-- the bodies of the first open calls are met, the outermost first
abbrev pub AreMetUpTo : {L : Type 0} → Walk L → ℕ → Type 0
AreMetUpTo w n = (j : ℕ) → j < n → (c : Call) → slice_get (reverse (calls_of (runner_of w).cursor)) j ≡ Some c → IsMetAt w c.procedure

module _ {L : Type 0} (w : Walk L) where
  pub none_met : (number k : ℕ) → NoneUpTo w number k → length (bodies_of w) ≤ k → IsMetAt w number → ⊥
  none_met number k none all met =
      let within = slice_get_within (bodies_of w) met.0 met.1.body met.1.there in
      none met.0 (omega (arith, within, all)) met.1.body met.1.there met.1.named

  pub none_outside : calls_in w ≡ 0 → IsMetHere w
  none_outside e number called = absurd (no (subst (λ i. IsCalledAt w i (Some number)) e called))
    where
      no : Some number ≡ None → ⊥
      no e = cc

  -- the innermost call is met
  pub met_here : (r : OpenCall) → 0 < calls_in w → IsCallOf (runner_of w).cursor (calls_in w - 1) r → IsMetAt w r.procedure → IsMetHere w
  met_here r some of met = by (calls_in w) refl
    where
      by : (n : ℕ) → calls_in w ≡ n → IsLevelMet w n
      by zero e number called = absurd (omega (arith, some, e))
      by (suc n) e number called =
          let z : calls_in w - 1 ≡ n = omega (arith, e) in
          let there = subst (λ i. slice_get (reverse (calls_of (runner_of w).cursor)) i ≡ Some of.call) z of.there in
          let same : of.call ≡ called.0 = ap (λ (o : Option Call). unwrap_or o of.call) (sym there ∙ called.1) in
          subst (IsMetAt w) (of.procedure ∙ ap (λ (c : Call). c.procedure) same ∙ sym called.2) met

  -- so the innermost call runs a body that was met
  pub called_here : (r : OpenCall) → 0 < calls_in w → IsCallOf (runner_of w).cursor (calls_in w - 1) r → IsMetHere w → IsMetAt w r.procedure
  called_here r some of met = by (calls_in w) refl met
    where
      by : (n : ℕ) → calls_in w ≡ n → IsLevelMet w n → IsMetAt w r.procedure
      by zero e h = absurd (omega (arith, some, e))
      by (suc n) e h =
          let z : calls_in w - 1 ≡ n = omega (arith, e) in
          h r.procedure (of.call, subst (λ i. slice_get (reverse (calls_of (runner_of w).cursor)) i ≡ Some of.call) z of.there, of.procedure)

  pub all_met : (n : ℕ) → calls_in w ≤ n → AreMetUpTo w n → AreMet w
  all_met n all h zero few number called = absurd (no called)
    where
      no : Some number ≡ None → ⊥
      no e = cc
  all_met n all h (suc i) few number called = subst (IsMetAt w) (sym called.2) (h i (omega (arith, few, all)) called.0 called.1)

-- ---- one body more

module _ {L : Type 0} (old new : Walk L) where
  pub met_before : (more : List Body) → bodies_of new ≡ bodies_of old ++ more → (number : ℕ) → IsMetAt old number → IsMetAt new number
  met_before more e number met = (
    met.0,
    record {
      body = met.1.body;
      there = ap (λ bodies. slice_get bodies met.0) e ∙ there_still (bodies_of old) more met.0 met.1.body met.1.there;
      named = met.1.named;
    },
  )

  -- where none is added, none is met that was not
  pub still_unmet : bodies_of new ≡ bodies_of old → (number : ℕ) → (IsMetAt old number → ⊥) → IsMetAt new number → ⊥
  still_unmet e number none met =
      none (met.0, record { body = met.1.body; there = ap (λ bodies. slice_get bodies met.0) (sym e) ∙ met.1.there; named = met.1.named })

  pub met_last : (body : Body) → bodies_of new ≡ bodies_of old ++ body ∷ [] → IsMetAt new body.number
  met_last body e = (
    length (bodies_of old),
    record { body = body; there = ap (λ bodies. slice_get bodies (length (bodies_of old))) e ∙ there_last (bodies_of old) body; named = refl },
  )

  -- the next open call is met as well
  pub met_next : (i : ℕ) (r : OpenCall) → runner_of new ≡ runner_of old → IsCallOf (runner_of old).cursor i r → AreMetUpTo old i →
      ((number : ℕ) → IsMetAt old number → IsMetAt new number) → IsMetAt new r.procedure → AreMetUpTo new (i + 1)
  met_next i r same of before more met j low c there =
      let there_old = subst (λ (x : Runner L). slice_get (reverse (calls_of x.cursor)) j ≡ Some c) same there in
      by (leb_tells (suc j) i) there_old
    where
      by : ((leb (suc j) i ≡ true) × (suc j ≤ i)) ⊎ ((leb (suc j) i ≡ false) × (i < suc j)) →
          slice_get (reverse (calls_of (runner_of old).cursor)) j ≡ Some c → IsMetAt new c.procedure
      by (inl e) at = let l = e.1 in more c.procedure (before j (omega (arith, l)) c at)
      by (inr e) at =
          let l = e.1 in
          let z : j ≡ i = omega (arith, l, low) in
          let at_i = subst (λ k. slice_get (reverse (calls_of (runner_of old).cursor)) k ≡ Some c) z at in
          let call : of.call ≡ c = ap (λ (o : Option Call). unwrap_or o c) (sym of.there ∙ at_i) in
          subst (IsMetAt new) (of.procedure ∙ ap (λ (x : Call). x.procedure) call) met
