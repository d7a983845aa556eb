-- The slot of a name where locals stand above the names of a whole code.
use Rattle.std.proofs.Common.{◌≡◌, ℕ, ◌+◌, ◌-◌, ◌<◌, ◌^◌, List, ◌++◌, length, ap, ◌∙◌, sym, arith}
use Rattle.std.specs.Prelude.{Option}
use Rattle.std.proofs.lemmas.List.{length-append}
use Rattle.janus_meaning.specs.Syntax.{Name}
use Rattle.janus_slots.specs.Slots.{slot, slot_in, no_slot}
use Rattle.janus_places.specs.Table.{AreOpenIn, slot_of}
use Rattle.steps_walk.specs.declared.sight.Sight.{Sight}
use Rattle.steps_walk.specs.Sights.{base_of, AreInSight}
use Rattle.steps_walk.proofs.Sights.{slot_above, slot_under, slot_below}

module _ (s : Sight) (x : Name) (g : List Name) (h : AreInSight s g) where
  pub local : (below base : ℕ) → ((xs : List Name) → AreOpenIn s.table.now s.at xs → slot below ≡ slot_in xs x) → base ≡ length (base_of s.base) →
      slot (base + below) ≡ slot_in g x
  local below base told e =
      ap (λ n. slot (n + below)) e ∙ slot_above h.locals (base_of s.base) x below (told h.locals h.there) ∙ ap (λ l. slot_in l x) (sym h.names)

  -- the sum is a `usize`
  pub few_locals : (below base : ℕ) → ((xs : List Name) → AreOpenIn s.table.now s.at xs → slot below ≡ slot_in xs x) → base ≡ length (base_of s.base) →
      2 ^ 64 - 1 - base < below → ⊥
  few_locals below base told e past =
      let low = slot_below h.locals x below (told h.locals h.there) in
      let size : length g ≡ length h.locals + length (base_of s.base) = ap length h.names ∙ length-append h.locals (base_of s.base) in
      let few = h.few in
      omega (arith, low, size, few, past, e)

  pub under_locals : (r : Option ℕ) → ((xs : List Name) → AreOpenIn s.table.now s.at xs → no_slot ≡ slot_in xs x) →
      slot_of r ≡ slot_in (base_of s.base) x → slot_of r ≡ slot_in g x
  under_locals r none e =
      e ∙ slot_under h.locals (base_of s.base) x (none h.locals h.there) ∙ ap (λ l. slot_in l x) (sym h.names)

-- those of the locals and behind them those of the whole code
pub listed : (s : Sight) (g : List Name) (h : AreInSight s g) (told all : List Name) → told ≡ h.locals → all ≡ told ++ base_of s.base → all ≡ g
listed s g h told all e more = more ∙ ap (λ l. l ++ base_of s.base) e ∙ sym h.names
