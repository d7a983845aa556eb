-- A good store is good in slots; and what a store with slots shows.
use Rattle.std.proofs.Common.{◌≡◌, ℕ, ◌+◌, List, length, sym, ap, ◌∙◌, subst}
use Rattle.std.specs.Prelude.{reverse}
use Rattle.std.proofs.lemmas.List.{length-reverse, reverse-reverse}
use Rattle.janus_meaning.specs.Syntax.{Name}
use Rattle.janus_meaning.specs.Store.{Store, FitsVal, IsShort}
use Rattle.janus_meaning.specs.World.{World, size_of, oldest}
use Rattle.janus_meaning.specs.Outside.{IsGood}
use Rattle.janus_meaning.specs.Cells.{around, IsGoodWorld}
use Rattle.janus_meaning.specs.Limit.{IsWithin}
use Rattle.janus_meaning.proofs.Worlds.{oldest_whole}
use Rattle.janus_slots.specs.Slots.{names_in, in_slots, under_names, outside_in}
use Rattle.janus_slots.proofs.Whole.{each_same, held_same, under_same, under_named, under_slots}
use Rattle.janus_machine.specs.FrameCalls.{Caller, given_back}
use Rattle.janus_machine.specs.StoreState.{StoreState, IsWhole, declared_store, shown_store}

pub good_slots : (entries : List Name) (w : World) → IsGoodWorld w → IsGood (outside_in entries (around w)) (in_slots w.store)
good_slots entries w h = (
  each_same FitsVal w.store h.0,
  each_same (IsShort (around w).limits.single) w.store h.1,
  subst (λ (n : ℕ). IsWithin (around w).limits.together (0 + n)) (sym (held_same w.store)) h.2,
)

-- ---- what a store shows

-- where no local and no call is open, the declared names are all in sight
pub whole_in_sight : (h : StoreState) → IsWhole h → declared_store h ≡ h.slots
whole_in_sight h whole =
    ap (λ (cs : List Caller). oldest h.declared (given_back h.slots cs)) whole.callers ∙ oldest_whole h.declared h.slots (sym whole.declared)

-- of such a store what it shows tells what it has
pub record IsStoreOf (h : StoreState) (s : Store) : Type 0 where
  pub slots : h.slots ≡ in_slots s
  pub texts : h.texts ≡ reverse (names_in s)

pub whole_is : (h : StoreState) (s : Store) → IsWhole h → length h.texts ≡ h.declared → shown_store h ≡ s → IsStoreOf h s
whole_is h s whole many shows =
    let as_many : length (reverse h.texts) ≡ size_of h.slots = length-reverse h.texts ∙ many ∙ whole.declared in
    let under : under_names (reverse h.texts) h.slots ≡ s = ap (under_names (reverse h.texts)) (sym (whole_in_sight h whole)) ∙ shows in
    record {
      slots = sym whole.slots ∙ sym (under_slots (reverse h.texts) h.slots as_many) ∙ ap in_slots under;
      texts = sym (reverse-reverse h.texts) ∙ ap reverse (sym (under_named (reverse h.texts) h.slots as_many) ∙ ap names_in under);
    }

-- and what it has, what it shows
pub shown_whole : (h : StoreState) (s : Store) → IsWhole h → IsStoreOf h s → shown_store h ≡ s
shown_whole h s whole is =
    ap (under_names (reverse h.texts)) (whole_in_sight h whole ∙ is.slots)
    ∙ ap (λ (g : List Name). under_names g (in_slots s)) (ap reverse is.texts ∙ reverse-reverse (names_in s)) ∙ under_same s
