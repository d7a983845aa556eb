-- The machine's way along tokens: where it comes to a halt, and what is known there.
use Rattle.std.proofs.Common.{◌≡◌, suc, List, [], ◌∷◌, ◌++◌, length, Option, Some, None, Bool, true, false, cond, refl, ap, sym, subst, ◌∙◌, inl, inr}
use Rattle.janus_syntax.specs.declared.fault.What.{What}
use Rattle.janus_syntax.specs.declared.fault.What.TheVariants as what
use Rattle.janus_syntax.specs.Tokens.{Token}
use Rattle.janus_syntax.specs.Forms.{Part, Tree, Form, done, take, part, close}
use Rattle.janus_syntax.specs.Table.{left_out, label}
use Rattle.janus_syntax.specs.Grammar
use Rattle.janus_syntax.specs.Grammar.{Count, zero_count, closed, fits, Demands, all, met, Spells, Begins, Wants, an_item, the_end, text_form, IsTree, Next}
use Rattle.janus_syntax.specs.Grammar.{Wanted, Complete, required, passed_over}
use Rattle.janus_syntax.specs.Reader.{Stack, bottom, waits, State, at, Go, Accept, Stuck, TooMany, Differs, step, wanted_behind, wanted, Outcome, Ended, at_end}
use Rattle.janus_syntax.specs.Reader.{follow, run, start}
use Rattle.janus_syntax.proofs.Agrees.{run_goes, reads_cell, wants, at_end_wants}
use Rattle.janus_syntax.proofs.KeepsTable.{proper_text}
use Rattle.janus_syntax.proofs.Back.{Behind, At, Goes_back, back, if_goes, many_goes, differs_goes}
use Rattle.janus_syntax.proofs.Completes.{Within, count_of}
use Rattle.janus_syntax.proofs.Judged.{Raw, Enters, Takes, Accepts, Dead, judge, raw, judged, Keeps, keeps}

module _ {goal : Part} where
  pub data Walk (d : Demands) : State goal → List Token → State goal → Type 0 where
    stay : {s : State goal} → Walk d s [] s
    onward : {s s1 s2 : State goal} {t : Token} {ts : List Token} → step d s (Some t) ≡ Go s1 → Walk d s1 ts s2 → Walk d s (t ∷ ts) s2

  pub walk_run : {d : Demands} {s s' : State goal} {front : List Token} → Walk d s front s' → (more : List Token) → run d (front ++ more) s ≡ run d more s'
  walk_run stay more = refl
  walk_run {d} (onward {s = s} {s1 = s1} {t = t} {ts = ts} e w) more = run_goes d t (ts ++ more) s s1 e ∙ walk_run w more

  pub walk_back : (d : Demands) (G : (p : Part) → Form p → Count → List Token → Type 0) (g : Goes_back d G) (E : Tree goal → List Token → Type 0)
      {s s' : State goal} {front : List Token} →
      Walk d s front s' → (ts : List Token) → At d G E s' ts → At d G E s (front ++ ts)
  walk_back d G g E stay ts h = h
  walk_back d G g E (onward {s = s} {s1 = s1} {t = t} {ts = us} e w) ts h = back d G g E s s1 t (us ++ ts) e (walk_back d G g E w ts h)

  -- counts stay within the limits

  raw_within : (d : Demands) (x : Raw goal) (s' : State goal) → judge d x ≡ Go s' → Keeps d.limits x → Within d.limits (count_of s')
  raw_within d (Enters b s) s' e h =
      let r = if_goes (met d.limits b) s s' TooMany many_goes e in
      subst (λ y. Within d.limits (count_of y)) r.1 (ap (met d.limits) (sym h) ∙ r.0)
  raw_within d (Takes b s) s' e h = let r = if_goes (met d.agreement b) s s' Differs differs_goes e in subst (λ y. Within d.limits (count_of y)) r.1 h
  raw_within d (Accepts c) s' e h = absurd cc
  raw_within d Dead s' e h = absurd cc

  pub step_within : (d : Demands) (s s' : State goal) (t : Token) → step d s (Some t) ≡ Go s' → Within d.limits (count_of s) → Within d.limits (count_of s')
  step_within d s s' t e h = raw_within d (raw s (Some t)) s' (sym (judged d s (Some t)) ∙ e) (keeps d.limits s (Some t) h)

  pub walk_within : {d : Demands} {s s' : State goal} {front : List Token} → Walk d s front s' → Within d.limits (count_of s) → Within d.limits (count_of s')
  walk_within stay h = h
  walk_within {d} (onward {s = s} {s1 = s1} {t = t} e w) h = walk_within w (step_within d s s1 t e h)

-- what is gone under all demands is gone under fewer

pub append_nothing : (ts : List Token) → ts ++ [] ≡ ts
append_nothing [] = refl
append_nothing (t ∷ ts) = ap (λ r. t ∷ r) (append_nothing ts)

met_fewer : (b x : Bool) → x ≡ true → met b x ≡ true
met_fewer true x e = e
met_fewer false x e = refl

module _ {goal : Part} where
  judge_fewer : (d : Demands) (x : Raw goal) (s : State goal) → judge all x ≡ Go s → judge d x ≡ Go s
  judge_fewer d (Enters b n) s e = let r = if_goes b n s TooMany many_goes e in ap (λ y. cond y (Go n) TooMany) (met_fewer d.limits b r.0) ∙ ap Go r.1
  judge_fewer d (Takes b n) s e = let r = if_goes b n s Differs differs_goes e in ap (λ y. cond y (Go n) Differs) (met_fewer d.agreement b r.0) ∙ ap Go r.1
  judge_fewer d (Accepts c) s e = absurd cc
  judge_fewer d Dead s e = absurd cc

  pub walk_fewer : (d : Demands) {s s' : State goal} {front : List Token} → Walk all s front s' → Walk d s front s'
  walk_fewer d stay = stay
  walk_fewer d (onward {s = s} {s1 = s1} {t = t} e w) =
      onward (judged d s (Some t) ∙ judge_fewer d (raw s (Some t)) s1 (sym (judged all s (Some t)) ∙ e)) (walk_fewer d w)

  -- where a run comes to a halt

  pub data Ending (d : Demands) (s : State goal) (tokens : List Token) : Outcome goal → Type 0 where
    at_the_end : {s' : State goal} → Walk d s tokens s' → Ending d s tokens (at_end (wanted s') (step d s' None))
    at_a_token : {s' : State goal} (front : List Token) (t : Token) (behind : List Token) → tokens ≡ front ++ t ∷ behind → Walk d s front s' →
        ((n : State goal) → step d s' (Some t) ≡ Go n → ⊥) →
        Ending d s tokens (follow (λ n. run d behind n) (wanted s') (suc (length behind)) (step d s' (Some t)))

  ending_more : (d : Demands) (s s1 : State goal) (t : Token) (tokens : List Token) (out : Outcome goal) → step d s (Some t) ≡ Go s1 → Ending d s1 tokens out →
      Ending d s (t ∷ tokens) out
  ending_more d s s1 t tokens out e (at_the_end w) = at_the_end (onward e w)
  ending_more d s s1 t tokens out e (at_a_token front u behind whole w n) = at_a_token (t ∷ front) u behind (ap (λ ts. t ∷ ts) whole) (onward e w) n

  pub ending : (d : Demands) (tokens : List Token) (s : State goal) → Ending d s tokens (run d tokens s)
  ending d [] s = at_the_end stay
  ending d (t ∷ rest) s =
      elim (step d s (Some t)) as (λ x. step d s (Some t) ≡ x → Ending d s (t ∷ rest) (run d (t ∷ rest) s)) [
        | Go s1 ↦ λ e. subst (λ out. Ending d s (t ∷ rest) out) (sym (run_goes d t rest s s1 e))
            (ending_more d s s1 t rest (run d rest s1) e (ending d rest s1))
        | Accept c ↦ λ e. at_a_token [] t rest refl stay (λ n h. let k = sym e ∙ h in cc)
        | Stuck ↦ λ e. at_a_token [] t rest refl stay (λ n h. let k = sym e ∙ h in cc)
        | TooMany ↦ λ e. at_a_token [] t rest refl stay (λ n h. let k = sym e ∙ h in cc)
        | Differs ↦ λ e. at_a_token [] t rest refl stay (λ n h. let k = sym e ∙ h in cc)
      ] refl

-- what the machine wants is what the grammar says

abbrev Begun : Demands → What → (p : Part) → Form p → Count → List Token → Type 0
Begun d w p f m ts = Begins d p f w m ts

abbrev IsWhole : (goal : Part) → What → Tree goal → List Token → Type 0
IsWhole goal w c ts = (ts ≡ []) × (w ≡ what.End)

begun_back : (d : Demands) (w : What) → Goes_back d (Begun d w)
begun_back d w = record {
  over_token = λ c k s t m ts is ok a. Grammar.token is ok a;
  over_close = λ f m ts a. Grammar.end_of_construct a;
  inside = λ q k r t m ts is ok a. Grammar.inside is ok a;
  behind = λ q k r u t m m1 ts rest is ok sp a. Grammar.behind is ok sp a;
  over_part = λ q k u m ts is a. Grammar.no_part is a;
}

complete_spelled : (d : Demands) {p : Part} (f : Form p) (v : Tree p) (m : Count) → required f ≡ Complete v → (n : Count) × Spells d p f v m [] n []
complete_spelled d (done u) v m e = let same : u ≡ v = cc in (m, subst (λ x. Spells d _ (done u) x m [] m []) same Grammar.nothing_more)
complete_spelled d (take c k) v m e = absurd cc
complete_spelled d (close f) v m e = let r = complete_spelled d f v (closed m) e in (r.0, Grammar.end_of_construct r.1)
complete_spelled d {p} (part q k) v m e =
    elim (left_out q) as (λ o. left_out q ≡ o → passed_over o (label q) (λ u. required (k u)) ≡ Complete v → (n : Count) × Spells d p (part q k) v m [] n []) [
      | Some u ↦ λ is h. let r = complete_spelled d (k u) v m h in (r.0, Grammar.no_part is r.1)
      | None ↦ λ is h. absurd cc
    ] refl e

module _ {goal : Part} where
  wants_hand : (d : Demands) {p : Part} (S : Stack goal p) (v : Tree p) (m : Count) (w : What) → wanted_behind S (Complete v) ≡ w →
      Behind d (Begun d w) (IsWhole goal w) S v m []
  wants_hand d bottom v m w e = (refl, sym e)
  wants_hand d (waits {p} k S) v m w e =
      elim (required (k v)) as (λ n. required (k v) ≡ n → wanted_behind S n ≡ w → Behind d (Begun d w) (IsWhole goal w) (waits k S) v m []) [
        | Wanted x ↦ λ is h. inl (Grammar.here (is ∙ ap Wanted h))
        | Complete u ↦ λ is h. let r = complete_spelled d (k v) u m is in inr (u, r.0, [], r.1, wants_hand d S u r.0 w h)
      ] refl e

  wants_here : (d : Demands) (s : State goal) → At d (Begun d (wanted s)) (IsWhole goal (wanted s)) s []
  wants_here d (at {p} f S m) =
      elim (required f) as (λ n. required f ≡ n → (w : What) → wanted_behind S n ≡ w → At d (Begun d w) (IsWhole goal w) (at f S m) []) [
        | Wanted x ↦ λ is w h. inl (Grammar.here (is ∙ ap Wanted h))
        | Complete u ↦ λ is w h. let r = complete_spelled d f u m is in inr (u, r.0, [], r.1, wants_hand d S u r.0 w h)
      ] refl (wanted_behind S (required f)) refl

  wants_start : (d : Demands) (w : What) (ts : List Token) → At d (Begun d w) (IsWhole goal w) (start goal) ts → Wants goal d w ts
  wants_start d w ts h =
      elim h [
        | inl a ↦ an_item a
        | inr (v, m, rest, sp, b) ↦ subst (λ x. Wants goal d x ts) (sym b.1)
            (the_end (m, subst (λ r. Spells d goal (text_form goal) v zero_count ts m r) b.0 sp))
      ]

  pub wants_front : (d : Demands) {s : State goal} {front : List Token} → Walk d (start goal) front s → Wants goal d (wanted s) front
  wants_front d {s} {front} w =
      wants_start d (wanted s) front
      (subst (λ ts. At d (Begun d (wanted s)) (IsWhole goal (wanted s)) (start goal) ts) (append_nothing front)
      (walk_back d (Begun d (wanted s)) (begun_back d (wanted s)) (IsWhole goal (wanted s)) w [] (wants_here d s)))

  -- and the other way round
  pub wants_run : (d : Demands) (w : What) (front : List Token) → Wants goal d w front → (a : Option (Tree goal)) × (run d front (start goal) ≡ Ended a w)
  wants_run d w front (an_item b) = wants b (proper_text goal) bottom
  wants_run d w front (the_end {v} is) = (Some v, reads_cell d v front is)

  ended_here : (d : Demands) (s : State goal) (tokens : List Token) (out : Outcome goal) (a : Option (Tree goal)) (w : What) → Ending d s tokens out →
      out ≡ Ended a w → (n : State goal) × Walk d s tokens n × (wanted n ≡ w)
  ended_here d s tokens out a w (at_the_end {s'} k) e =
      let r = at_end_wants (wanted s') (step d s' None) in
      let h = sym r.1 ∙ e in
      (s', k, cc)
  ended_here d s tokens out a w (at_a_token {s'} front t behind whole k n) e =
      elim (step d s' (Some t)) as (λ x. step d s' (Some t) ≡ x → follow (λ n. run d behind n) (wanted s') (suc (length behind)) x ≡ Ended a w →
      (n : State goal) × Walk d s tokens n × (wanted n ≡ w)) [
        | Go m ↦ λ is h. absurd (n m is)
        | Accept c ↦ λ is h. absurd cc
        | Stuck ↦ λ is h. absurd cc
        | TooMany ↦ λ is h. absurd cc
        | Differs ↦ λ is h. absurd cc
      ] refl e

  pub wants_state : (d : Demands) (w : What) (front : List Token) → Wants goal d w front → (n : State goal) × Walk d (start goal) front n × (wanted n ≡ w)
  wants_state d w front h = let r = wants_run d w front h in ended_here d (start goal) front (run d front (start goal)) r.0 w (ending d front (start goal)) r.1
