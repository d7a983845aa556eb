-- The laws of slots.
use Rattle.std.proofs.Common.{◌≡◌, ℕ, List, [], ◌∷◌, refl, ap, ◌∙◌, sym, subst}
use Rattle.janus_meaning.specs.Fault.{Fault}
use Rattle.janus_meaning.specs.Syntax.{Name, Blk, Proc}
use Rattle.janus_meaning.specs.Store.{Store}
use Rattle.janus_meaning.specs.Outside.{Outside}
use Rattle.janus_meaning.specs.Meaning.{Done, Stopped, Block, Exec, Part, Stop}
use Rattle.janus_meaning.specs.Stepping.{Framed, Place, BeforeBlock, AfterBlock, BeforeOne, AfterOne, Next, To, End, Halt, step, steps, frames_of, shown}
use Rattle.janus_meaning.proofs.Laws.{to_place, to_store, run_leads, exec_at, part_at, stands}
use Rattle.janus_meaning.proofs.Interface.{machine_meaning}
use Rattle.janus_slots.specs.Slots.{block_in, names_in, in_slots, under_names, outside_in, procedures_in}
use Rattle.janus_slots.specs.Places.{place_in, next_in}
use Rattle.janus_slots.specs.Law.{AreListed, ShownBy, RunsAreTheSame, SlotsStay}
use Rattle.janus_slots.proofs.Whole.{under_same}
use Rattle.janus_slots.proofs.Trees.{inverse_block_in}
use Rattle.janus_slots.proofs.Named.{IsSound, LeadsSound, steps_sound}
use Rattle.janus_slots.proofs.Steps.{step_in, steps_are_the_same}
use Rattle.janus_slots.proofs.Shown.{shown_in, shown_ends, oldest_under}

-- ---- where steps over slots lead

-- a place with its store, of which these are the slots
record CameFrom (es : List Name) (ps : List Proc) (g : List Name) (x : Next) (z : Place) (r : Store) : Type 0 where
  place : Place
  store : Store
  leads : x ≡ To place store
  is_place : place_in es ps g place ≡ z
  is_store : in_slots store ≡ r

came_from : (es : List Name) (ps : List Proc) (g : List Name) (x : Next) (z : Place) (r : Store) → next_in es ps g x ≡ To z r → CameFrom es ps g x z r
came_from es ps g (To p q) z r h = record {
  place = p;
  store = q;
  leads = refl;
  is_place = to_place (place_in es ps g p) z (in_slots q) r h;
  is_store = to_store (place_in es ps g p) z (in_slots q) r h;
}
came_from es ps g End z r h = cc
came_from es ps g (Halt f) z r h = cc

halted : (es : List Name) (ps : List Proc) (g : List Name) (x : Next) (f : Fault) → next_in es ps g x ≡ Halt f → x ≡ Halt f
halted es ps g (To p q) f h = cc
halted es ps g End f h = cc
halted es ps g (Halt e) f h = h

-- an end is that of a block
last_from : (es : List Name) (ps : List Proc) (g : List Name) (p : Place) (c : Blk) → place_in es ps g p ≡ AfterBlock c [] → (b : Blk) × (p ≡ AfterBlock b [])
last_from es ps g (BeforeBlock b fs) c h = cc
last_from es ps g (AfterBlock b []) c h = (b, refl)
last_from es ps g (AfterBlock b (Framed i before after ∷ fs)) c h = cc
last_from es ps g (BeforeOne d before after fs) c h = cc
last_from es ps g (AfterOne d before after fs) c h = cc

-- an end with the names of the beginning, of which these are the slots
record EndOf (out : Outside) (b : Blk) (s : Store) (n : ℕ) (r : Store) : Type 0 where
  store : Store
  run : Exec out (Block b) s n store
  slots : in_slots store ≡ r
  names : names_in store ≡ names_in s

module _ (es : List Name) (out : Outside) (b : Blk) (s : Store) (n : ℕ) (l : AreListed es out.procedures) where
  -- the block, the store and what stands outside, with slots
  abbrev own : Outside
  own = outside_in es out

  abbrev turned : Blk
  turned = block_in es (names_in s) b

  abbrev Came : Place → Store → Type 0
  Came z r = CameFrom es out.procedures (names_in s) (steps out n (BeforeBlock b []) s) z r

  came : (z : Place) (r : Store) → steps own n (BeforeBlock turned []) (in_slots s) ≡ To z r → Came z r
  came z r h = came_from es out.procedures (names_in s) (steps out n (BeforeBlock b []) s) z r (sym (steps_are_the_same es out n b s l) ∙ h)

  sound : (p : Place) (q : Store) → steps out n (BeforeBlock b []) s ≡ To p q → IsSound out.procedures (names_in s) (frames_of p) q
  sound p q h = subst (LeadsSound out.procedures (names_in s)) h (steps_sound out (names_in s) n (BeforeBlock b []) s (refl, tt))

  leads_in : (p : Place) (q : Store) → steps out n (BeforeBlock b []) s ≡ To p q
      → steps own n (BeforeBlock turned []) (in_slots s) ≡ To (place_in es out.procedures (names_in s) p) (in_slots q)
  leads_in p q h = steps_are_the_same es out n b s l ∙ ap (next_in es out.procedures (names_in s)) h

  ends : (r : Store) → Exec out (Block b) s n r → Exec own (Block turned) (in_slots s) n (in_slots r)
  ends r w = exec_at own turned turned (in_slots s) (in_slots r) n (leads_in (AfterBlock b []) r (run_leads out b s n (Done r) w))

  end_of : (r : Store) → Exec own (Block turned) (in_slots s) n r → EndOf out b s n r
  end_of r w =
      let c = came (AfterBlock turned []) r (run_leads own turned (in_slots s) n (Done r) w) in
      let e = last_from es out.procedures (names_in s) c.place turned c.is_place in
      let at : steps out n (BeforeBlock b []) s ≡ To (AfterBlock e.0 []) c.store = c.leads ∙ ap (λ p. To p c.store) e.1 in
      record {
        store = c.store;
        run = exec_at out b e.0 s c.store n at;
        slots = c.is_store;
        names = (sound (AfterBlock e.0 []) c.store at).0;
      }

  under_end : (r : Store) → (e : EndOf out b s n r) → under_names (names_in s) r ≡ e.store
  under_end r e = ap (λ g. under_names g r) (sym e.names) ∙ ap (under_names (names_in e.store)) (sym e.slots) ∙ under_same e.store

  shows : (m : Store) → Part out (Block b) s n m → Part own (Block turned) (in_slots s) n (in_slots m)
  shows m w =
      let a = stands out b s m n w in
      subst (Part own (Block turned) (in_slots s) n)
      (shown_in out.procedures (names_in s) es a.0 a.1 (sound a.0 a.1 a.2) ∙ ap in_slots a.3)
      (part_at own turned (in_slots s) (in_slots a.1) (place_in es out.procedures (names_in s) a.0) n (leads_in a.0 a.1 a.2))

  shown_by : (m : Store) → Part own (Block turned) (in_slots s) n m → ShownBy out b s n m
  shown_by m w =
      let a = stands own turned (in_slots s) m n w in
      let c = came a.0 a.1 a.2 in
      let o = sound c.place c.store c.leads in
      let q : Store = shown out.procedures c.place c.store in
      let ps : List Proc = procedures_in es out.procedures in
      let e : in_slots q ≡ m =
      sym (shown_in out.procedures (names_in s) es c.place c.store o)
      ∙ ap (λ p. shown ps p (in_slots c.store)) c.is_place ∙ ap (shown ps a.0) c.is_store ∙ a.3 in
      let names = shown_ends out.procedures (names_in s) c.place c.store o in
      record {
        store = q;
        part = part_at out b s c.store c.place n c.leads;
        slots = e;
        declared = oldest_under s q m names.0 names.1 e;
      }

  stops : (f : Fault) → Stop out (Block b) s n f → Stop own (Block turned) (in_slots s) n f
  stops f w =
      let a = run_leads out b s n (Stopped f) w in
      (machine_meaning own turned (in_slots s)).stopped n f (place_in es out.procedures (names_in s) a.0) (in_slots a.1) (leads_in a.0 a.1 a.2)
      (step_in es out (names_in s) a.0 a.1 l (sound a.0 a.1 a.2) ∙ ap (next_in es out.procedures (names_in s)) a.3)

  stopped : (f : Fault) → Stop own (Block turned) (in_slots s) n f → Stop out (Block b) s n f
  stopped f w =
      let a = run_leads own turned (in_slots s) n (Stopped f) w in
      let c = came a.0 a.1 a.2 in
      (machine_meaning out b s).stopped n f c.place c.store c.leads
      (halted es out.procedures (names_in s) (step out c.place c.store) f
      (sym (step_in es out (names_in s) c.place c.store l (sound c.place c.store c.leads))
      ∙ ap (λ p. step own p (in_slots c.store)) c.is_place ∙ ap (step own a.0) c.is_store ∙ a.3))

pub runs_are_the_same : RunsAreTheSame
runs_are_the_same es out b s n l = record {
  ends = λ r w. ends es out b s n l r w;
  ended = λ r w. let e = end_of es out b s n l r w in subst (Exec out (Block b) s n) (sym (under_end es out b s n l r e)) e.run;
  kept = λ r w. let e = end_of es out b s n l r w in ap in_slots (under_end es out b s n l r e) ∙ e.slots;
  shows = λ m w. shows es out b s n l m w;
  shown = λ m w. shown_by es out b s n l m w;
  stops = λ f w. stops es out b s n l f w;
  stopped = λ f w. stopped es out b s n l f w;
}

pub slots_stay : SlotsStay
slots_stay = record {
  inverse = inverse_block_in;
  store = under_same;
}
