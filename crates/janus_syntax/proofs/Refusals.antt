-- Each list of tokens has a tree or a refusal.
use Rattle.std.proofs.Common.{◌≡◌, ℕ, suc, List, [], ◌∷◌, ◌++◌, length, Some, None, true, false, refl, ap, sym, subst, ◌∙◌, ◌⊎◌, inl, inr, append_assoc}
use Rattle.janus_syntax.specs.declared.fault.What.{What}
use Rattle.janus_syntax.specs.declared.fault.What.TheVariants as what
use Rattle.janus_syntax.specs.Tokens.{Token}
use Rattle.janus_syntax.specs.Forms.{Part, Tree}
use Rattle.janus_syntax.specs.Grammar.{Demands, all, none, but_limits, but_agreement, zero_count, IsTree, IsOpen, Refusal, Expected, TooNested, DelocalName}
use Rattle.janus_syntax.specs.Grammar.{IsRefused, expected, expected_at_end, too_nested, delocal_name}
use Rattle.janus_syntax.specs.Reader.{State, Step, Go, Accept, Stuck, TooMany, Differs, step, wanted, Outcome, Ended, at_end, follow, run, start}
use Rattle.janus_syntax.proofs.Agrees.{reads_cell}
use Rattle.janus_syntax.proofs.Back.{end}
use Rattle.janus_syntax.proofs.Completes.{Within, Spelled, NotBegun, IsEnd, complete_state, spelled_cell, not_begun_back}
use Rattle.janus_syntax.proofs.Judged.{Raw, Enters, Takes, Accepts, Dead, judge, raw, judged}
use Rattle.janus_syntax.proofs.Walk.{Walk, stay, onward, walk_run, walk_back, walk_within, walk_fewer, Ending, at_the_end, at_a_token, ending, append_nothing}
use Rattle.janus_syntax.proofs.Walk.{wants_front}

one_more : (front : List Token) (t : Token) (more : List Token) → (front ++ t ∷ []) ++ more ≡ front ++ t ∷ more
one_more front t more = append_assoc front (t ∷ []) more

module _ {goal : Part} where
  walk_more : {d : Demands} {s s1 s2 : State goal} {front : List Token} (t : Token) → Walk d s front s1 → step d s1 (Some t) ≡ Go s2 →
      Walk d s (front ++ t ∷ []) s2
  walk_more t stay e = onward e stay
  walk_more t (onward h w) e = onward h (walk_more t w e)

  -- where the machine stands, a cell goes on
  pub walk_open : (d : Demands) {s : State goal} {front : List Token} → Walk d (start goal) front s → Within d.limits zero_count → IsOpen goal d front
  walk_open d {s} {front} w h =
      let r = complete_state d s (walk_within w h) in
      (r.1, r.0, spelled_cell d r.0 (front ++ r.1) (walk_back d NotBegun (not_begun_back d) (IsEnd goal r.0) w r.1 r.2))

  pub step_open : (d : Demands) {s n : State goal} {front : List Token} (t : Token) → Walk d (start goal) front s → step d s (Some t) ≡ Go n →
      Within d.limits zero_count → IsOpen goal d (front ++ t ∷ [])
  step_open d t w e h = walk_open d (walk_more t w e) h

  -- where it does not step on, none does
  halts : (d : Demands) (x : Step goal) (w : What) (left : ℕ) (go : State goal → Outcome goal) (c : Tree goal) (v : What) → ((n : State goal) → x ≡ Go n → ⊥) →
      follow go w left x ≡ Ended (Some c) v → ⊥
  halts d (Go n) w left go c v h e = h n refl
  halts d (Accept k) w left go c v h e = cc
  halts d Stuck w left go c v h e = cc
  halts d TooMany w left go c v h e = cc
  halts d Differs w left go c v h e = cc

  pub not_open : (d : Demands) {s : State goal} {front : List Token} (t : Token) → Walk d (start goal) front s →
      ((n : State goal) → step d s (Some t) ≡ Go n → ⊥) → IsOpen goal d (front ++ t ∷ []) → ⊥
  not_open d {s} {front} t w h (more, c, is) =
      let r = reads_cell d c ((front ++ t ∷ []) ++ more) is in
      halts d (step d s (Some t)) (wanted s) (suc (length more)) (λ n. run d more n) c what.End h
      (sym (walk_run w (t ∷ more)) ∙ ap (λ ts. run d ts (start goal)) (sym (one_more front t more)) ∙ r)

  -- the judgement of a step
  abbrev pub no_steps : Demands → State goal → Token → Type 0
  no_steps d s t = (n : State goal) → step d s (Some t) ≡ Go n → ⊥

  pub dead_steps : (d : Demands) (s : State goal) (t : Token) (x : Step goal) → step d s (Some t) ≡ x → ((n : State goal) → x ≡ Go n → ⊥) → no_steps d s t
  dead_steps d s t x e h n k = h n (sym e ∙ k)

  pub finished : (d : Demands) (s : State goal) (tokens : List Token) (c : Tree goal) → Walk d (start goal) tokens s → step d s None ≡ Accept c →
      IsTree goal d c tokens
  finished d s tokens c w e =
      spelled_cell d c tokens
      (subst (λ ts. Spelled d c (start goal) ts) (append_nothing tokens)
      (walk_back d NotBegun (not_begun_back d) (IsEnd goal c) w [] (end d NotBegun (not_begun_back d) (IsEnd goal c) s c (refl, refl) e)))

  -- the tokens end, and are no cell
  unfinished : (s : State goal) (tokens : List Token) (x : Step goal) → Walk all (start goal) tokens s → step all s None ≡ x →
      at_end (wanted s) x ≡ Ended None (wanted s) → (c : Tree goal) → IsTree goal all c tokens → ⊥
  unfinished s tokens x w e h c is =
      let k = sym (reads_cell all c tokens is) ∙ ap (λ ts. run all ts (start goal)) (sym (append_nothing tokens)) ∙ walk_run w [] ∙ ap (at_end (wanted s)) e
      ∙ h in
      cc

Answer : Part → List Token → Type 0
Answer goal tokens = ((c : Tree goal) × IsTree goal all c tokens) ⊎ ((e : Refusal) × IsRefused goal tokens e)

module _ {goal : Part} where
  answer_end : (s : State goal) (tokens : List Token) (x : Step goal) → Walk all (start goal) tokens s → step all s None ≡ x → Answer goal tokens
  unfolding Answer
  answer_end s tokens (Accept c) w e = inl (c, finished all s tokens c w e)
  answer_end s tokens (Go n) w e = inr (Expected (wanted s) 0, expected_at_end (wants_front all w) (unfinished s tokens (Go n) w e refl))
  answer_end s tokens Stuck w e = inr (Expected (wanted s) 0, expected_at_end (wants_front all w) (unfinished s tokens Stuck w e refl))
  answer_end s tokens TooMany w e = inr (Expected (wanted s) 0, expected_at_end (wants_front all w) (unfinished s tokens TooMany w e refl))
  answer_end s tokens Differs w e = inr (Expected (wanted s) 0, expected_at_end (wants_front all w) (unfinished s tokens Differs w e refl))

  answer_token : (s : State goal) (front : List Token) (t : Token) (behind tokens : List Token) (x : Raw goal) → tokens ≡ front ++ t ∷ behind →
      Walk all (start goal) front s → raw s (Some t) ≡ x → no_steps all s t → Answer goal tokens
  unfolding Answer
  answer_token s front t behind tokens Dead whole w e n =
      inr (
        Expected (wanted s) (suc (length behind)),
        expected front t behind whole (wants_front all w)
            (not_open none t (walk_fewer none w) (dead_steps none s t Stuck (judged none s (Some t) ∙ ap (judge none) e) (λ n h. cc))),
      )
  answer_token s front t behind tokens (Accepts c) whole w e n =
      inr (
        Expected (wanted s) (suc (length behind)),
        expected front t behind whole (wants_front all w)
            (not_open none t (walk_fewer none w) (dead_steps none s t (Accept c) (judged none s (Some t) ∙ ap (judge none) e) (λ n h. cc))),
      )
  answer_token s front t behind tokens (Enters true m) whole w e n = absurd (n m (judged all s (Some t) ∙ ap (judge all) e))
  answer_token s front t behind tokens (Takes true m) whole w e n = absurd (n m (judged all s (Some t) ∙ ap (judge all) e))
  answer_token s front t behind tokens (Enters false m) whole w e n =
      inr (
        TooNested (suc (length behind)),
        too_nested front t behind whole (wanted s, wants_front all w)
            (step_open but_limits t (walk_fewer but_limits w) (judged but_limits s (Some t) ∙ ap (judge but_limits) e) refl) (not_open all t w n),
      )
  answer_token s front t behind tokens (Takes false m) whole w e n =
      inr (
        DelocalName (suc (length behind)),
        delocal_name front t behind whole (wanted s, wants_front all w)
            (step_open but_agreement t (walk_fewer but_agreement w) (judged but_agreement s (Some t) ∙ ap (judge but_agreement) e) refl) (not_open all t w n),
      )

  answer_ending : (tokens : List Token) (out : Outcome goal) → Ending all (start goal) tokens out → Answer goal tokens
  answer_ending tokens out (at_the_end {s'} w) = answer_end s' tokens (step all s' None) w refl
  answer_ending tokens out (at_a_token {s'} front t behind whole w n) = answer_token s' front t behind tokens (raw s' (Some t)) whole w refl n

pub tree_or_refusal : (goal : Part) (tokens : List Token) → ((v : Tree goal) × IsTree goal all v tokens) ⊎ ((e : Refusal) × IsRefused goal tokens e)
unfolding Answer
tree_or_refusal goal tokens = answer_ending {goal = goal} tokens (run all tokens (start goal)) (ending all tokens (start goal))
