-- Each refusal is the one that the machine gives: so there is one at most. The same of what is wanted.
use Rattle.std.proofs.Common.{◌≡◌, zero, suc, List, [], ◌∷◌, ◌++◌, length, Some, None, true, false, refl, ap, sym, subst, ◌∙◌}
use Rattle.janus_syntax.specs.declared.fault.What.{What}
use Rattle.janus_syntax.specs.declared.fault.What.TheVariants as what
use Rattle.janus_syntax.specs.Tokens.{Token}
use Rattle.janus_syntax.specs.Forms.{Part, Tree}
use Rattle.janus_syntax.specs.Grammar.{Demands, all, none, but_limits, but_agreement, zero_count, IsTree, IsOpen, Wants, Refusal, Expected, TooNested}
use Rattle.janus_syntax.specs.Grammar.{DelocalName, IsRefused, expected, expected_at_end, too_nested, delocal_name}
use Rattle.janus_syntax.specs.Reader.{State, Step, Go, Accept, Stuck, TooMany, Differs, step, wanted, Outcome, Ended, Failed, Nested, Unlike, outcome_of}
use Rattle.janus_syntax.specs.Reader.{at_end, follow, run, start}
use Rattle.janus_syntax.specs.Laws.{OneWanted, WantsIfOpen, OpenIfWants}
use Rattle.janus_syntax.proofs.Agrees.{reads_cell}
use Rattle.janus_syntax.proofs.Completes.{Within}
use Rattle.janus_syntax.proofs.Judged.{Raw, Enters, Takes, Accepts, Dead, judge, raw, judged}
use Rattle.janus_syntax.proofs.Walk.{Walk, walk_run, walk_fewer, wants_run, Ending, at_the_end, at_a_token, ending, append_nothing, wants_front, wants_state}
use Rattle.janus_syntax.proofs.Refusals.{step_open, not_open, dead_steps, finished, walk_open}

module _ {goal : Part} where
  -- Each refusal is what the machine answers.

  -- the outcome at a token behind a front
  outcome_at : {s : State goal} (front : List Token) (t : Token) (behind tokens : List Token) (x : Raw goal) → tokens ≡ front ++ t ∷ behind →
      Walk all (start goal) front s → raw s (Some t) ≡ x →
      run all tokens (start goal) ≡ follow (λ n. run all behind n) (wanted s) (suc (length behind)) (judge all x)
  outcome_at {s} front t behind tokens x whole w e =
      ap (λ ts. run all ts (start goal)) whole ∙ walk_run w (t ∷ behind)
      ∙ ap (follow (λ n. run all behind n) (wanted s) (suc (length behind))) (judged all s (Some t) ∙ ap (judge all) e)

  goes_open : (d : Demands) (s m : State goal) (front : List Token) (t : Token) (x : Raw goal) → Walk d (start goal) front s → raw s (Some t) ≡ x →
      judge d x ≡ Go m → Within d.limits zero_count → IsOpen goal d (front ++ t ∷ [])
  goes_open d s m front t x w e h k = step_open d t w (judged d s (Some t) ∙ ap (judge d) e ∙ h) k

  dead_not_open : (d : Demands) (s : State goal) (front : List Token) (t : Token) (x : Raw goal) → Walk d (start goal) front s → raw s (Some t) ≡ x →
      ((n : State goal) → judge d x ≡ Go n → ⊥) → IsOpen goal d (front ++ t ∷ []) → ⊥
  dead_not_open d s front t x w e h = not_open d t w (dead_steps d s t (judge d x) (judged d s (Some t) ∙ ap (judge d) e) h)

  determined_expected : (s : State goal) (front : List Token) (t : Token) (behind tokens : List Token) (x : Raw goal) → tokens ≡ front ++ t ∷ behind →
      Walk all (start goal) front s → raw s (Some t) ≡ x →
      (IsOpen goal none (front ++ t ∷ []) → ⊥) → run all tokens (start goal) ≡ Failed (wanted s) (suc (length behind))
  determined_expected s front t behind tokens Dead whole w e n = outcome_at front t behind tokens Dead whole w e
  determined_expected s front t behind tokens (Accepts c) whole w e n = outcome_at front t behind tokens (Accepts c) whole w e
  determined_expected s front t behind tokens (Enters b m) whole w e n = absurd (n (goes_open none s m front t (Enters b m) (walk_fewer none w) e refl refl))
  determined_expected s front t behind tokens (Takes b m) whole w e n = absurd (n (goes_open none s m front t (Takes b m) (walk_fewer none w) e refl refl))

  determined_nested : (s : State goal) (front : List Token) (t : Token) (behind tokens : List Token) (x : Raw goal) → tokens ≡ front ++ t ∷ behind →
      Walk all (start goal) front s → raw s (Some t) ≡ x →
      IsOpen goal but_limits (front ++ t ∷ []) → (IsOpen goal all (front ++ t ∷ []) → ⊥) → run all tokens (start goal) ≡ Nested (suc (length behind))
  determined_nested s front t behind tokens Dead whole w e o n = absurd (dead_not_open but_limits s front t Dead (walk_fewer but_limits w) e (λ n h. cc) o)
  determined_nested s front t behind tokens (Accepts c) whole w e o n =
      absurd (dead_not_open but_limits s front t (Accepts c) (walk_fewer but_limits w) e (λ n h. cc) o)
  determined_nested s front t behind tokens (Enters true m) whole w e o n = absurd (n (goes_open all s m front t (Enters true m) w e refl refl))
  determined_nested s front t behind tokens (Enters false m) whole w e o n = outcome_at front t behind tokens (Enters false m) whole w e
  determined_nested s front t behind tokens (Takes true m) whole w e o n = absurd (n (goes_open all s m front t (Takes true m) w e refl refl))
  determined_nested s front t behind tokens (Takes false m) whole w e o n =
      absurd (dead_not_open but_limits s front t (Takes false m) (walk_fewer but_limits w) e (λ n h. cc) o)

  determined_differs : (s : State goal) (front : List Token) (t : Token) (behind tokens : List Token) (x : Raw goal) → tokens ≡ front ++ t ∷ behind →
      Walk all (start goal) front s → raw s (Some t) ≡ x →
      IsOpen goal but_agreement (front ++ t ∷ []) → (IsOpen goal all (front ++ t ∷ []) → ⊥) → run all tokens (start goal) ≡ Unlike (suc (length behind))
  determined_differs s front t behind tokens Dead whole w e o n =
      absurd (dead_not_open but_agreement s front t Dead (walk_fewer but_agreement w) e (λ n h. cc) o)
  determined_differs s front t behind tokens (Accepts c) whole w e o n =
      absurd (dead_not_open but_agreement s front t (Accepts c) (walk_fewer but_agreement w) e (λ n h. cc) o)
  determined_differs s front t behind tokens (Enters true m) whole w e o n = absurd (n (goes_open all s m front t (Enters true m) w e refl refl))
  determined_differs s front t behind tokens (Enters false m) whole w e o n =
      absurd (dead_not_open but_agreement s front t (Enters false m) (walk_fewer but_agreement w) e (λ n h. cc) o)
  determined_differs s front t behind tokens (Takes true m) whole w e o n = absurd (n (goes_open all s m front t (Takes true m) w e refl refl))
  determined_differs s front t behind tokens (Takes false m) whole w e o n = outcome_at front t behind tokens (Takes false m) whole w e

  determined_end : (s : State goal) (tokens : List Token) (x : Step goal) → Walk all (start goal) tokens s → step all s None ≡ x →
      ((c : Tree goal) → IsTree goal all c tokens → ⊥) → run all tokens (start goal) ≡ at_end (wanted s) x
  determined_end s tokens x w e n = ap (λ ts. run all ts (start goal)) (sym (append_nothing tokens)) ∙ walk_run w [] ∙ ap (at_end (wanted s)) e

  no_cell : (s : State goal) (tokens : List Token) (x : Step goal) → Walk all (start goal) tokens s → step all s None ≡ x →
      ((c : Tree goal) → IsTree goal all c tokens → ⊥) → at_end (wanted s) x ≡ Ended None (wanted s)
  no_cell s tokens (Accept c) w e n = absurd (n c (finished all s tokens c w e))
  no_cell s tokens (Go m) w e n = refl
  no_cell s tokens Stuck w e n = refl
  no_cell s tokens TooMany w e n = refl
  no_cell s tokens Differs w e n = refl

  pub determined : (tokens : List Token) (e : Refusal) → IsRefused goal tokens e → run all tokens (start goal) ≡ outcome_of e
  determined tokens e (expected {w} front t behind whole wants n) =
      let r = wants_state all w front wants in
      determined_expected r.0 front t behind tokens (raw r.0 (Some t)) whole r.1 refl n ∙ ap (λ v. Failed v (suc (length behind))) r.2
  determined tokens e (expected_at_end {w} wants n) =
      let r = wants_state all w tokens wants in
      determined_end r.0 tokens (step all r.0 None) r.1 refl n ∙ no_cell r.0 tokens (step all r.0 None) r.1 refl n ∙ ap (λ v. Ended None v) r.2
  determined tokens e (too_nested front t behind whole wants o n) =
      let r = wants_state all wants.0 front wants.1 in
      determined_nested r.0 front t behind tokens (raw r.0 (Some t)) whole r.1 refl o n
  determined tokens e (delocal_name front t behind whole wants o n) =
      let r = wants_state all wants.0 front wants.1 in
      determined_differs r.0 front t behind tokens (raw r.0 (Some t)) whole r.1 refl o n

pub same_refusal : {goal : Part} (e f : Refusal) → outcome_of {goal = goal} e ≡ outcome_of f → e ≡ f
same_refusal (Expected v zero) (Expected w zero) h = cc
same_refusal (Expected v zero) (Expected w (suc n)) h = absurd cc
same_refusal (Expected v zero) (TooNested n) h = absurd cc
same_refusal (Expected v zero) (DelocalName n) h = absurd cc
same_refusal (Expected v (suc m)) (Expected w zero) h = absurd cc
same_refusal (Expected v (suc m)) (Expected w (suc n)) h = cc
same_refusal (Expected v (suc m)) (TooNested n) h = absurd cc
same_refusal (Expected v (suc m)) (DelocalName n) h = absurd cc
same_refusal (TooNested m) (Expected w zero) h = absurd cc
same_refusal (TooNested m) (Expected w (suc n)) h = absurd cc
same_refusal (TooNested m) (TooNested n) h = cc
same_refusal (TooNested m) (DelocalName n) h = absurd cc
same_refusal (DelocalName m) (Expected w zero) h = absurd cc
same_refusal (DelocalName m) (Expected w (suc n)) h = absurd cc
same_refusal (DelocalName m) (TooNested n) h = absurd cc
same_refusal (DelocalName m) (DelocalName n) h = cc

module _ {goal : Part} where
  pub no_read : (e : Refusal) (c : Tree goal) (w : What) → outcome_of e ≡ Ended (Some c) w → ⊥
  no_read (Expected v zero) c w h = cc
  no_read (Expected v (suc n)) c w h = cc
  no_read (TooNested n) c w h = cc
  no_read (DelocalName n) c w h = cc

parts_append : (front behind more : List Token) (t : Token) → (front ++ t ∷ []) ++ (behind ++ more) ≡ (front ++ t ∷ behind) ++ more
parts_append [] behind more t = refl
parts_append (u ∷ front) behind more t = ap (λ r. u ∷ r) (parts_append front behind more t)

module _ {goal : Part} where
  wants_ending : (d : Demands) (front : List Token) (out : Outcome goal) → Ending d (start goal) front out → IsOpen goal d front → (w : What) ×
      Wants goal d w front
  wants_ending d front out (at_the_end {s'} w) o = (wanted s', wants_front d w)
  wants_ending d front out (at_a_token {s'} f t behind whole w n) (more, c, is) =
      absurd (not_open d t w n (behind ++ more, c, subst (λ ts. IsTree goal d c ts) (ap (λ ts. ts ++ more) whole ∙ sym (parts_append f behind more t)) is))

-- Tokens have one refusal at most.
pub one_refusal : (goal : Part) (tokens : List Token) (e f : Refusal) → IsRefused goal tokens e → IsRefused goal tokens f → e ≡ f
one_refusal goal tokens e f p q = same_refusal {goal = goal} e f (sym (determined tokens e p) ∙ determined tokens f q)

-- They do not have a tree and a refusal.
pub not_both : (goal : Part) (tokens : List Token) (v : Tree goal) (e : Refusal) → IsTree goal all v tokens → IsRefused goal tokens e → ⊥
not_both goal tokens v e p q = no_read {goal = goal} e v what.End (sym (determined tokens e q) ∙ reads_cell all v tokens p)

pub same_tree : {goal : Part} (v u : Tree goal) (x y : What) → Ended (Some v) x ≡ Ended (Some u) y → v ≡ u
same_tree v u x y h = cc

-- They have one tree at most, also where no demands are made.
pub one_tree : (goal : Part) (d : Demands) (tokens : List Token) (v u : Tree goal) → IsTree goal d v tokens → IsTree goal d u tokens → v ≡ u
one_tree goal d tokens v u p q = same_tree v u what.End what.End (sym (reads_cell d v tokens p) ∙ reads_cell d u tokens q)

pub one_wanted : OneWanted
one_wanted goal d front v w p q =
    let a = wants_run d v front p in
    let b = wants_run d w front q in
    let h = sym a.1 ∙ b.1 in
    cc

pub open_if_wants : OpenIfWants
open_if_wants goal front w h = let r = wants_state all w front h in walk_open all r.1 refl

pub wants_if_open : WantsIfOpen
wants_if_open goal d front o = wants_ending d front (run d front (start goal)) (ending d front (start goal)) o
