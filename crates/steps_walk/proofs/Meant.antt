-- Where a walk stands in the meaning.
use Rattle.std.proofs.Common.{◌≡◌, ℕ, List, [], ◌∷◌, ◌++◌, length, refl, ap, ◌∙◌, sym, subst, arith}
use Rattle.std.proofs.lemmas.List.{append_assoc, append-nil, length-append}
use Rattle.std.specs.Prelude.{Option, Some, slice_get, false}
use Rattle.janus_meaning.specs.Syntax.{Name, Blk, Proc}
use Rattle.janus_meaning.specs.Store.{Store, Bare, Slot, Val}
use Rattle.janus_meaning.specs.World.{World, listed, stacks_in}
use Rattle.janus_meaning.specs.Cells.{around}
use Rattle.janus_meaning.specs.Outside.{Outside}
use Rattle.janus_meaning.specs.Stepping as machine
use Rattle.janus_meaning.specs.Stepping.{BeforeBlock, Next, To, End, Halt, steps, frames_of}
use Rattle.janus_meaning.proofs.Laws.{to_place, to_store}
use Rattle.janus_slots.specs.Slots.{slot, names_in, in_slots, procedures_in}
use Rattle.janus_slots.specs.Places.{place_in, next_in}
use Rattle.janus_slots.proofs.Named.{LeadsSound, steps_sound}
use Rattle.janus_slots.proofs.Steps.{steps_are_the_same}
use Rattle.janus_machine.specs.Steps.{alone}
use Rattle.kernel_machine.specs.Language.{run_block}
use Rattle.kernel_runner.specs.declared.program.Program.{Program}
use Rattle.kernel_runner.specs.Runner.{Place, Is, Inside, at_count, start_at, block_of, slots_of, count_of}
use Rattle.steps_walk.specs.declared.walk.Walk.{Walk}
use Rattle.steps_walk.specs.Walk.{runner_of, program_of, slots_in, IsWalking, Moves}
use Rattle.steps_walk.specs.Where.{names_at}
use Rattle.steps_walk.specs.Values.{sighted, value_or_lent}
use Rattle.steps_walk.specs.Meant.{place_at_cursor, Means, StandAlike}
use Rattle.steps_walk.proofs.Lists.{there_still, there_last}

-- a place with its store, of which these are the slots
record CameFrom (es : List Name) (ps : List Proc) (g : List Name) (x : Next) (z : machine.Place) (r : Store) : Type 0 where
  place : machine.Place
  store : Store
  leads : x ≡ To place store
  is_place : place_in es ps g place ≡ z
  is_store : in_slots store ≡ r

came_from : (es : List Name) (ps : List Proc) (g : List Name) (x : Next) (z : machine.Place) (r : Store) → next_in es ps g x ≡ To z r → CameFrom es ps g x z r
came_from es ps g (To p q) z r h = record {
  place = p;
  store = q;
  leads = refl;
  is_place = to_place (place_in es ps g p) z (in_slots q) r h;
  is_store = to_store (place_in es ps g p) z (in_slots q) r h;
}
came_from es ps g End z r h = cc
came_from es ps g (Halt f) z r h = cc

-- ---- the values under the names

many_listed : (s : Store) → length (listed (in_slots s)) ≡ length (names_in s)
many_listed Bare = refl
many_listed (Slot x v s) =
    let more = length-append (listed (in_slots s)) ((slot (length (names_in s)), v) ∷ []) in
    let rest = many_listed s in
    omega (arith, more, rest)

sighted_under : (all s : Store) (more : List (Name × Val)) → listed all ≡ listed (in_slots s) ++ more → sighted all (names_in s) ≡ s
sighted_under all Bare more e = refl
sighted_under all (Slot x v s) more e =
    let here : Name × Val = (slot (length (names_in s)), v) in
    let rest : listed all ≡ listed (in_slots s) ++ here ∷ more = e ∙ append_assoc (listed (in_slots s)) (here ∷ []) more in
    let last : slice_get (listed (in_slots s) ++ here ∷ []) (length (names_in s)) ≡ Some here =
    ap (λ n. slice_get (listed (in_slots s) ++ here ∷ []) n) (sym (many_listed s)) ∙ there_last (listed (in_slots s)) here in
    let there : slice_get (listed all) (length (names_in s)) ≡ Some here =
    ap (λ (l : List (Name × Val)). slice_get l (length (names_in s))) e
    ∙ there_still (listed (in_slots s) ++ here ∷ []) more (length (names_in s)) here last in
    ap (λ (o : Option (Name × Val)). Slot x (value_or_lent o) (sighted all (names_in s))) there
    ∙ ap (Slot x v) (sighted_under all s (here ∷ more) rest)

sighted_same : (s : Store) → sighted (in_slots s) (names_in s) ≡ s
sighted_same s = sighted_under (in_slots s) s [] (sym (append-nil (listed (in_slots s))))

-- ---- a walk

module _ {L : Type 0} (w : Walk L) where
  pub meant : Means w
  meant at h =
      let es : List Name = (runner_of w).entries in
      let v : World = start_at at in
      let out : Outside = around v in
      let b : Blk = run_block at.code in
      let g : List Name = names_at at in
      let c = came_from es v.procedures g (steps out at.count (BeforeBlock b []) v.store) (place_at_cursor w) (slots_in w)
      (sym (steps_are_the_same es out at.count b v.store h.listed) ∙ h.faces.0) in
      record {
        place = c.place;
        store = c.store;
        led = c.leads;
        stands = sym c.is_place;
        values = sym c.is_store;
        sighted = ap (λ (s : Store). sighted s (names_in c.store)) (sym c.is_store) ∙ sighted_same c.store;
        names = (subst (LeadsSound v.procedures g) c.leads (steps_sound out g at.count (BeforeBlock b []) v.store (refl, tt))).0;
      }

-- ---- a walk that comes back

-- what stands outside the cell's code with slots in place of names
abbrev around_slots : List Name → Place → Outside
around_slots es at = alone (procedures_in es (start_at at).procedures) (stacks_in (start_at at).store)

module _ {L : Type 0} (old new : Walk L) (moves : Moves old new) (walking : IsWalking old)
    (count : count_of (runner_of new) ≡ count_of (runner_of old)) where
  pub alike : StandAlike old new
  alike =
      let at : Place = walking.stands.at in
      let was = walking.stands.stands in
      let moved = moves.stands at was in
      let now = moved.1 in
      let back : moved.0 ≡ at.count = sym now.counted ∙ count ∙ was.counted in
      let to = subst (λ (n : ℕ). Is (runner_of new) (Inside (program_of old) (at_count n at) false)) back now in
      let to_program = subst (λ (p : Program). Is (runner_of new) (Inside p (at_count at.count at) false)) (sym moves.program) to in
      let one = was.faces.0 in
      let other = subst (λ (es : List Name). steps (around_slots es at) at.count (BeforeBlock (block_of es (run_block at.code) (start_at at)) [])
      (slots_of (start_at at)) ≡ To (place_at_cursor new) (slots_in new)) moves.entries to_program.faces.0 in
      let same = sym other ∙ one in
      record {
        place = to_place (place_at_cursor new) (place_at_cursor old) (slots_in new) (slots_in old) same;
        values = to_store (place_at_cursor new) (place_at_cursor old) (slots_in new) (slots_in old) same;
      }
