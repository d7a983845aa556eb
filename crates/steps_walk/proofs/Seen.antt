-- What is seen alike where a walk stands in the same code, with the same locals and the same values.
use Rattle.std.proofs.Common.{◌≡◌, ℕ, ◌<◌, List, reverse, refl, ap, ◌∙◌, sym, subst}
use Rattle.std.specs.Prelude.{Option, None, Some, IfSome, slice_get}
use Rattle.janus_meaning.specs.Syntax.{Name}
use Rattle.janus_meaning.specs.Store.{Store}
use Rattle.janus_meaning.specs.Value.{value}
use Rattle.janus_syntax.specs.View.{exp_of}
use Rattle.janus_places.specs.Table.{AreOpenIn, HasSameLocals, places_in}
use Rattle.janus_places.specs.declared.table.Table.{Table}
use Rattle.janus_places.proofs.Open.{same_open}
use Rattle.steps_walk.specs.declared.body.Body.{Body}
use Rattle.steps_walk.specs.declared.level.Level.{Level}
use Rattle.steps_walk.specs.declared.sight.Sight.{Sight}
use Rattle.steps_walk.specs.declared.walk.Walk.{Walk}
use Rattle.steps_walk.specs.Walk.{runner_of, bodies_of, calls_in, slots_in, IsWalking, Moves}
use Rattle.steps_walk.specs.Standing.{IsHere, IsCodeAt, IsTableAt, IsTableIn, node_at}
use Rattle.steps_walk.specs.Sights.{AreInSight, base_at, parameters_in}
use Rattle.steps_walk.specs.Values.{sighted}
use Rattle.steps_walk.specs.Quiet.{IsSeenAlike}
use Rattle.steps_walk.proofs.Standing.{same_table}

module _ {L : Type 0} (old new : Walk L) (walking : IsWalking old) (moves : Moves old new) (bodies : bodies_of new ≡ bodies_of old)
    (values : slots_in new ≡ slots_in old) where
  -- the declared names are the same
  texts : (runner_of new).counted.store.texts ≡ (runner_of old).counted.store.texts
  texts = (moves.stands walking.stands.at walking.stands.stands).1.texts ∙ sym walking.stands.stands.texts

  table_moved : (body : Option ℕ) (t : Table) → IsTableAt old body t → IsTableAt new body t
  table_moved None t e = e ∙ sym moves.block
  table_moved (Some k) t e = subst (λ (all : List Body). IsTableIn (slice_get all k) t) (sym bodies) e

  base_moved : (body : Option ℕ) → base_at new body ≡ base_at old body
  base_moved None = ap (λ (l : List Name). reverse l) texts
  base_moved (Some k) = ap (λ (all : List Body). parameters_in (slice_get all k)) bodies

  module _ (level next : Level) (here : IsHere new next) (code : IsCodeAt new (calls_in new) next.body) (node : next.node ≡ node_at new next.body)
      (body : next.body ≡ level.body) (t : Table) (of : IsTableAt new next.body t) (inside : next.at < places_in t) (locals : HasSameLocals t next.at level.at) where
    pub alike : IsSeenAlike old level new next
    alike exp r h =
        let seen = h.sight in
        let moved : IsTableAt new next.body seen.table.now =
        subst (λ (o : Option ℕ). IsTableAt new o seen.table.now) (sym body) (table_moved level.body seen.table.now h.of.table) in
        let same : t ≡ seen.table.now = same_table new next.body t seen.table.now of moved in
        let within : next.at < places_in seen.table.now = subst (λ (x : Table). next.at < places_in x) same inside in
        let alike : HasSameLocals seen.table.now next.at level.at = subst (λ (x : Table). HasSameLocals x next.at level.at) same locals in
        let sight : Sight = record { base = seen.base; table = seen.table; at = next.at; within = within } in
        let back : (g : List Name) → AreInSight sight g → AreInSight seen g = λ g a. record {
          locals = a.locals;
          there = subst (λ (n : ℕ). AreOpenIn seen.table.now n a.locals) (sym h.of.at) (same_open seen.table.now next.at level.at a.locals alike a.there);
          names = a.names;
          few = a.few;
        } in
        record {
          here = here;
          code = code;
          node = node;
          sight = sight;
          of = record { table = moved; at = refl; base = h.of.base ∙ sym (base_moved level.body) ∙ ap (base_at new) (sym body) };
          is = λ g a. h.is g (back g a) ∙ ap (λ (s : Store). value (exp_of exp) (sighted s g)) (sym values);
        }

  -- of a level, if one is told
  pub still_alike : (level : Level) (o : Option Level) → IfSome o (IsHere new) → IfSome o (λ next. IsCodeAt new (calls_in new) next.body) →
      IfSome o (λ next. next.node ≡ node_at new next.body) → IfSome o (λ next. next.body ≡ level.body) →
      IfSome o (λ next. (t : Table) × IsTableAt new next.body t × (next.at < places_in t) × HasSameLocals t next.at level.at) →
      IfSome o (IsSeenAlike old level new)
  still_alike level None here code node body locals = here
  still_alike level (Some next) here code node body locals = alike level next here code node body locals.0 locals.1 locals.2 locals.3
