-- Lemmas on trees: their worlds, the walks up and down, and that a tree stays legal with a new node, a step up and a step down.
use Rattle.std.proofs.Common.{◌≡◌, ℕ, ◌+◌, ◌-◌, ◌<◌, ◌≤◌, ◌==◌, ◌⊎◌, inl, inr, Bool, false, IsTrue, List, [], ◌∷◌, ◌++◌, length, zero, suc, get_or, set, refl}
use Rattle.std.proofs.Common.{sym, ap, ◌∙◌, subst, arith, length-append, length-set, if◌then◌else◌}
use Rattle.std.proofs.lemmas.List.{get_or_append_left, get_or_at, get_or-set_same, get_or-set_other}
use Rattle.std.proofs.lemmas.Bool.{cases_eq}
use Rattle.std.proofs.lemmas.Bool.Decides.{nat_tests}
use Rattle.janus_meaning.specs.World.{World, empty_world, Cell, entered}
use Rattle.kernel_machine.specs.Travel.{way_from, next_way, Way, Up, Down, Aim, Undo, Redo, Goto, Travel}
use Rattle.kernel_machine.specs.Language.{Forward, Backward, CodeExec, IsFormed, IsSound, end_of}
use Rattle.kernel_machine.specs.State.{Past, Node, new_state, root, ancestor, node_at, world_at, here, favourite_of, below_by, below, worlds_from}
use Rattle.kernel_machine.specs.Legal.{can_undo, can_redo, IsRun, HasFavouriteChild, IsLegal, IsWayTo, CanGo, IsPossible, IsMeeting}
use Rattle.kernel_machine.specs.Slices.{cells, stepped, moved, grown}
use Rattle.kernel_machine.proofs.LanguageLaws.{sound_good, exec_sound, exec_same, exec_inverted, end_of_root, empty_sound}

pub worlds-more : (worlds : List World) (nodes : List Node) (node : Node) →
    worlds_from worlds (nodes ++ node ∷ []) ≡ worlds_from worlds nodes ++ end_of node.cell (get_or (worlds_from worlds nodes) node.parent empty_world)
    node.steps ∷ []
unfolding worlds_from
worlds-more worlds [] node = refl
worlds-more worlds (n ∷ nodes) node = worlds-more (worlds ++ end_of n.cell (get_or worlds n.parent empty_world) n.steps ∷ []) nodes node

-- ---- above a node

pub ancestor_of_parent : (nodes : List Node) (n j : ℕ) → ancestor nodes (get_or nodes n root).parent j ≡ ancestor nodes n (suc j)
ancestor_of_parent nodes n zero = refl
ancestor_of_parent nodes n (suc j) = ap (λ (k : ℕ). (get_or nodes k root).parent) (ancestor_of_parent nodes n j)

parent_below : (s : Past) (n : ℕ) → IsLegal s → n < length s.nodes → (node_at s n).parent ≤ n
parent_below s zero g l = omega (arith, g.root_parent)
parent_below s (suc n) g l =
    let run : IsRun s.nodes s.worlds (suc n) = g.ran (suc n) (omega arith) l in
    let low = run.parent in
    omega arith

pub ancestors_below : (s : Past) (n j : ℕ) → IsLegal s → n < length s.nodes → ancestor s.nodes n j ≤ n
ancestors_below s n zero g l = omega arith
ancestors_below s n (suc j) g l =
    let low = ancestors_below s n j g l in
    let within : ancestor s.nodes n j < length s.nodes = omega arith in
    let step = parent_below s (ancestor s.nodes n j) g within in
    omega arith

pub ancestor_below : (s : Past) (j : ℕ) → IsLegal s → ancestor s.nodes s.position j ≤ s.position
ancestor_below s j g = ancestors_below s s.position j g g.position

-- above a child stand the position and what is above it
child_ancestor : (s : Past) (c j : ℕ) → (node_at s c).parent ≡ s.position → ancestor s.nodes c (suc j) ≡ ancestor s.nodes s.position j
child_ancestor s c j parent = sym (ancestor_of_parent s.nodes c j) ∙ ap (λ (n : ℕ). ancestor s.nodes n j) parent

-- the position goes down to this child
pub record IsNext (s : Past) (c : ℕ) : Type 0 where
  pub some : 0 < c
  pub known : c < length s.nodes
  pub parent : (node_at s c).parent ≡ s.position

favoured_down : (s : Past) (c j : ℕ) → IsLegal s → IsNext s c → 0 < ancestor s.nodes c j →
    get_or (set s.favourites s.position c) (ancestor s.nodes c (suc j)) 0 ≡ ancestor s.nodes c j
favoured_down s c zero g next above =
    ap (λ (n : ℕ). get_or (set s.favourites s.position c) n 0) next.parent ∙ get_or-set_same s.favourites s.position c 0 (rw g.favourites g.position)
favoured_down s c (suc j) g next above =
    let same = child_ancestor s c j next.parent in
    let more = child_ancestor s c (suc j) next.parent in
    let some : 0 < ancestor s.nodes s.position j = subst (λ (n : ℕ). 0 < n) same above in
    let low = ancestor_below s j g in
    let within : ancestor s.nodes s.position j < length s.nodes = let p = g.position in omega arith in
    let run : IsRun s.nodes s.worlds (ancestor s.nodes s.position j) = g.ran (ancestor s.nodes s.position j) some within in
    let less : ancestor s.nodes s.position (suc j) < s.position = let h = run.parent in omega arith in
    ap (λ (n : ℕ). get_or (set s.favourites s.position c) n 0) more
    ∙ get_or-set_other s.favourites s.position (ancestor s.nodes s.position (suc j)) c 0 (λ e. absurd (omega arith))
    ∙ g.favoured j some ∙ sym same

pub legal_up : (s : Past) → IsLegal s → IsLegal (record s { position = (node_at s s.position).parent })
legal_up s g =
    let step = parent_below s s.position g g.position in
    record {
      rooted = g.rooted;
      nothing_at_root = g.nothing_at_root;
      worlds = g.worlds;
      favourites = g.favourites;
      ran = g.ran;
      sound = g.sound;
      children = g.children;
      position = (let p = g.position in omega arith);
      root_parent = g.root_parent;
      favoured = λ j above.
          ap (λ (k : ℕ). favourite_of s (node_at s k).parent) (ancestor_of_parent s.nodes s.position j)
          ∙ g.favoured (suc j) (subst (λ (k : ℕ). 0 < k) (ancestor_of_parent s.nodes s.position j) above)
          ∙ sym (ancestor_of_parent s.nodes s.position j);
    }

child_set : (s : Past) (c i : ℕ) → IsLegal s → IsNext s c → i < length s.nodes → 0 < get_or (set s.favourites s.position c) i 0 →
    HasFavouriteChild s.nodes (set s.favourites s.position c) i
child_set s c i g next l above = elim (cases_eq i s.position) [
  | inl same ↦
      (let it : get_or (set s.favourites s.position c) i 0 ≡ c = rw same (get_or-set_same s.favourites s.position c 0 (rw g.favourites g.position)) in
      record { known = rw it next.known; parent = rw it (next.parent ∙ sym same) })
  | inr other ↦
      (let it : get_or (set s.favourites s.position c) i 0 ≡ get_or s.favourites i 0 = get_or-set_other s.favourites s.position i c 0 other in
      let child : HasFavouriteChild s.nodes s.favourites i = g.children i l (omega arith) in
      record { known = rw it child.known; parent = rw it child.parent })
]

-- a step down to a child, which is the favourite then
pub legal_down : (s : Past) (c : ℕ) → IsLegal s → IsNext s c → IsLegal (record s { favourites = set s.favourites s.position c; position = c })
legal_down s c g next = record {
  rooted = g.rooted;
  nothing_at_root = g.nothing_at_root;
  worlds = g.worlds;
  favourites = length-set s.favourites s.position c ∙ g.favourites;
  ran = g.ran;
  sound = g.sound;
  children = λ i l above. child_set s c i g next l above;
  position = next.known;
  root_parent = g.root_parent;
  favoured = λ j above. favoured_down s c j g next above;
}

-- an undo that is open stands above the root, and can go on from the parent
not_zero : (n : ℕ) (b : Bool) → IsTrue (if n == 0 then false else b) → (0 < n) × IsTrue b
not_zero n b h = grind (arith, nat_tests)

pub undo_above : (nodes : List Node) (n k : ℕ) → 0 < k → IsTrue (can_undo nodes n k) → (0 < n) × IsTrue (can_undo nodes (get_or nodes n root).parent (k - 1))
undo_above nodes n zero l h = absurd (omega arith)
undo_above nodes n (suc k) l h = let e : suc k - 1 ≡ k = omega arith in rw e (not_zero n _ h)

pub redo_below : (favourites : List ℕ) (n k : ℕ) → 0 < k → IsTrue (can_redo favourites n k) → (0 < get_or favourites n 0) ×
    IsTrue (can_redo favourites (get_or favourites n 0) (k - 1))
redo_below favourites n zero l h = absurd (omega arith)
redo_below favourites n (suc k) l h = let e : suc k - 1 ≡ k = omega arith in rw e (not_zero (get_or favourites n 0) _ h)

split : (i n : ℕ) → i < n + 1 → (i < n) ⊎ (i ≡ n)
split i n l = grind (arith, nat_tests)

run_kept : (s : Past) (new : Node) (w : World) (i : ℕ) → IsLegal s → 0 < i → i < length s.nodes → IsRun (s.nodes ++ new ∷ []) (s.worlds ++ w ∷ []) i
run_kept s new w i g above l =
    let run : IsRun s.nodes s.worlds i = g.ran i above l in
    let node : get_or (s.nodes ++ new ∷ []) i root ≡ get_or s.nodes i root = get_or_append_left s.nodes (new ∷ []) root i l in
    let world : get_or (s.worlds ++ w ∷ []) i empty_world ≡ get_or s.worlds i empty_world =
    get_or_append_left s.worlds (w ∷ []) empty_world i (rw g.worlds l) in
    let low : (get_or s.nodes i root).parent < length s.worlds = rw g.worlds (let h = run.parent in omega arith) in
    let parent : get_or (s.worlds ++ w ∷ []) (get_or s.nodes i root).parent empty_world ≡ get_or s.worlds (get_or s.nodes i root).parent empty_world =
    get_or_append_left s.worlds (w ∷ []) empty_world _ low in
    record {
      parent = rw node run.parent;
      formed = rw (node, parent) run.formed;
      ran = rw (node, world, parent) run.ran;
    }

run_new : (s : Past) (program : Cell) (n : ℕ) (w : World) (i : ℕ) → IsLegal s → i ≡ length s.nodes → IsFormed program (here s) →
    CodeExec (Forward program) (here s) n w →
    IsRun (s.nodes ++ record { parent = s.position; cell = program; steps = n } ∷ []) (s.worlds ++ w ∷ []) i
run_new s program n w i g same formed e =
    let new : Node = record { parent = s.position; cell = program; steps = n } in
    let node : get_or (s.nodes ++ new ∷ []) i root ≡ new = rw same (get_or_at s.nodes new [] root (length s.nodes) refl) in
    let world : get_or (s.worlds ++ w ∷ []) i empty_world ≡ w = rw same (get_or_at s.worlds w [] empty_world (length s.nodes) g.worlds) in
    let low : s.position < length s.worlds = rw g.worlds g.position in
    let parent : get_or (s.worlds ++ w ∷ []) s.position empty_world ≡ get_or s.worlds s.position empty_world =
    get_or_append_left s.worlds (w ∷ []) empty_world s.position low in
    record {
      parent = rw (node, same) g.position;
      formed = rw (node, parent) formed;
      ran = rw (node, world, parent) e;
    }

child_none : (s : Past) (i : ℕ) → IsLegal s → i ≡ length s.nodes → get_or (set s.favourites s.position (length s.nodes) ++ 0 ∷ []) i 0 ≡ 0
child_none s i g same =
    get_or_at (set s.favourites s.position (length s.nodes)) 0 [] 0 i (length-set s.favourites s.position (length s.nodes) ∙ g.favourites ∙ sym same)

child_kept : (s : Past) (new : Node) (i : ℕ) → IsLegal s → new.parent ≡ s.position → i < length s.nodes →
    0 < get_or (set s.favourites s.position (length s.nodes) ++ 0 ∷ []) i 0 →
    HasFavouriteChild (s.nodes ++ new ∷ []) (set s.favourites s.position (length s.nodes) ++ 0 ∷ []) i
child_kept s new i g from l above =
    let size : length (s.nodes ++ new ∷ []) ≡ length s.nodes + 1 = length-append s.nodes (new ∷ []) in
    let low : i < length (set s.favourites s.position (length s.nodes)) = rw (length-set s.favourites s.position (length s.nodes), g.favourites) l in
    let here : get_or (set s.favourites s.position (length s.nodes) ++ 0 ∷ []) i 0 ≡ get_or (set s.favourites s.position (length s.nodes)) i 0 =
    get_or_append_left _ (0 ∷ []) 0 i low in
    elim (cases_eq i s.position) [
      | inl same ↦
          (let it : get_or (set s.favourites s.position (length s.nodes) ++ 0 ∷ []) i 0 ≡ length s.nodes = here
          ∙ rw same (get_or-set_same s.favourites s.position (length s.nodes) 0 (rw g.favourites g.position)) in
          let node : get_or (s.nodes ++ new ∷ []) (length s.nodes) root ≡ new = get_or_at s.nodes new [] root (length s.nodes) refl in
          record { known = omega arith; parent = rw (it, node) (from ∙ sym same) })
      | inr other ↦
          (let it : get_or (set s.favourites s.position (length s.nodes) ++ 0 ∷ []) i 0 ≡ get_or s.favourites i 0 = here
          ∙ get_or-set_other s.favourites s.position i (length s.nodes) 0 other in
          let child : HasFavouriteChild s.nodes s.favourites i = g.children i l (omega arith) in
          let node : get_or (s.nodes ++ new ∷ []) (get_or s.favourites i 0) root ≡ get_or s.nodes (get_or s.favourites i 0) root =
          get_or_append_left s.nodes (new ∷ []) root _ child.known in
          record { known = (let k = child.known in omega arith); parent = rw (it, node) child.parent })
    ]

pub not_zero_is : (n : ℕ) (b : Bool) → (n ≡ 0 → ⊥) → (if n == 0 then false else b) ≡ b
not_zero_is n b h = grind (arith, nat_tests)

-- one step of the walks up and down
pub undo_step : (nodes : List Node) (n i k : ℕ) → i < k → (n ≡ 0 → ⊥) → can_undo nodes n (k - i) ≡ can_undo nodes (get_or nodes n root).parent (k - (i + 1))
undo_step nodes n i k l above =
    let e : k - i ≡ suc (k - (i + 1)) = omega arith in
    rw e (not_zero_is n _ above)

pub undo_stop : (nodes : List Node) (n i k : ℕ) → i < k → n ≡ 0 → can_undo nodes n (k - i) ≡ false
undo_stop nodes n i k l at =
    let e : k - i ≡ suc (k - (i + 1)) = omega arith in
    rw (e, at) refl

pub redo_step : (favourites : List ℕ) (n i k : ℕ) → i < k → (get_or favourites n 0 ≡ 0 → ⊥) →
    can_redo favourites n (k - i) ≡ can_redo favourites (get_or favourites n 0) (k - (i + 1))
redo_step favourites n i k l above =
    let e : k - i ≡ suc (k - (i + 1)) = omega arith in
    rw e (not_zero_is (get_or favourites n 0) _ above)

pub redo_stop : (favourites : List ℕ) (n i k : ℕ) → i < k → get_or favourites n 0 ≡ 0 → can_redo favourites n (k - i) ≡ false
redo_stop favourites n i k l at =
    let e : k - i ≡ suc (k - (i + 1)) = omega arith in
    rw (e, at) refl

grown_parent : (s : Past) (new : Node) (i : ℕ) → i < length s.nodes → (get_or (s.nodes ++ new ∷ []) i root).parent ≡ (get_or s.nodes i root).parent
grown_parent s new i l = ap (λ (n : Node). n.parent) (get_or_append_left s.nodes (new ∷ []) root i l)

-- above a new node stand the position and what is above it
grown_ancestor : (s : Past) (new : Node) (j : ℕ) → IsLegal s → new.parent ≡ s.position →
    ancestor (s.nodes ++ new ∷ []) (length s.nodes) (suc j) ≡ ancestor s.nodes s.position j
grown_ancestor s new zero g from = ap (λ (n : Node). n.parent) (get_or_at s.nodes new [] root (length s.nodes) refl) ∙ from
grown_ancestor s new (suc j) g from =
    let before : ancestor (s.nodes ++ new ∷ []) (length s.nodes) (suc j) ≡ ancestor s.nodes s.position j = grown_ancestor s new j g from in
    let low : ancestor s.nodes s.position j < length s.nodes = let h = ancestor_below s j g in let p = g.position in omega arith in
    ap (λ (k : ℕ). (get_or (s.nodes ++ new ∷ []) k root).parent) before ∙ grown_parent s new (ancestor s.nodes s.position j) low

-- the favourites as they are with a new node, at an old one and at the position
grown_favourite : (s : Past) (i : ℕ) → IsLegal s → i < s.position →
    get_or (set s.favourites s.position (length s.nodes) ++ 0 ∷ []) i 0 ≡ get_or s.favourites i 0
grown_favourite s i g l =
    let low : i < length (set s.favourites s.position (length s.nodes)) =
    rw (length-set s.favourites s.position (length s.nodes), g.favourites) (let p = g.position in omega arith) in
    get_or_append_left _ (0 ∷ []) 0 i low ∙ get_or-set_other s.favourites s.position i (length s.nodes) 0 (λ e. absurd (omega arith))

position_favourite : (s : Past) → IsLegal s → get_or (set s.favourites s.position (length s.nodes) ++ 0 ∷ []) s.position 0 ≡ length s.nodes
position_favourite s g =
    let low : s.position < length (set s.favourites s.position (length s.nodes)) =
    rw (length-set s.favourites s.position (length s.nodes), g.favourites) g.position in
    get_or_append_left _ (0 ∷ []) 0 s.position low ∙ get_or-set_same s.favourites s.position (length s.nodes) 0 (rw g.favourites g.position)

favoured_grown : (s : Past) (program : Cell) (n : ℕ) (w : World) (j : ℕ) → IsLegal s → 0 < ancestor (grown s program n w).nodes (length s.nodes) j →
    get_or (grown s program n w).favourites (ancestor (grown s program n w).nodes (length s.nodes) (suc j)) 0 ≡ ancestor (grown s program n w).nodes
    (length s.nodes) j
favoured_grown s program n w zero g above =
    let new : Node = record { parent = s.position; cell = program; steps = n } in
    ap (λ (k : ℕ). get_or (set s.favourites s.position (length s.nodes) ++ 0 ∷ []) k 0) (grown_ancestor s new 0 g refl) ∙ position_favourite s g
favoured_grown s program n w (suc j) g above =
    let new : Node = record { parent = s.position; cell = program; steps = n } in
    let here : ancestor (s.nodes ++ new ∷ []) (length s.nodes) (suc j) ≡ ancestor s.nodes s.position j = grown_ancestor s new j g refl in
    let there : ancestor (s.nodes ++ new ∷ []) (length s.nodes) (suc (suc j)) ≡ ancestor s.nodes s.position (suc j) = grown_ancestor s new (suc j) g refl in
    let some : 0 < ancestor s.nodes s.position j = subst (λ (k : ℕ). 0 < k) here above in
    let low = ancestor_below s j g in
    let within : ancestor s.nodes s.position j < length s.nodes = let p = g.position in omega arith in
    let run : IsRun s.nodes s.worlds (ancestor s.nodes s.position j) = g.ran (ancestor s.nodes s.position j) some within in
    let below : ancestor s.nodes s.position (suc j) < s.position = let h = run.parent in omega arith in
    ap (λ (k : ℕ). get_or (set s.favourites s.position (length s.nodes) ++ 0 ∷ []) k 0) there ∙ grown_favourite s (ancestor s.nodes s.position (suc j)) g below
    ∙ g.favoured j some ∙ sym here

-- a cell that ended well is a new node
pub legal_grown : (s : Past) (program : Cell) (n : ℕ) (w : World) → IsLegal s → IsFormed program (here s) → CodeExec (Forward program) (here s) n w →
    IsLegal (grown s program n w)
legal_grown s program n w g formed e =
    let new : Node = record { parent = s.position; cell = program; steps = n } in
    let count : length (s.nodes ++ new ∷ []) ≡ length s.nodes + 1 = length-append s.nodes (new ∷ []) in
    let nodes-old = λ (i : ℕ) (l : i < length s.nodes). get_or_append_left s.nodes (new ∷ []) root i l in
    let worlds-old = λ (i : ℕ) (l : i < length s.nodes). get_or_append_left s.worlds (w ∷ []) empty_world i (rw g.worlds l) in
    let node-new : get_or (s.nodes ++ new ∷ []) (length s.nodes) root ≡ new = get_or_at s.nodes new [] root (length s.nodes) refl in
    let world-new : get_or (s.worlds ++ w ∷ []) (length s.nodes) empty_world ≡ w = get_or_at s.worlds w [] empty_world (length s.nodes) g.worlds in
    record {
      rooted = omega arith;
      nothing_at_root = worlds-old 0 g.rooted ∙ g.nothing_at_root;
      worlds = omega (arith, length-append s.worlds (w ∷ []), g.worlds);
      favourites = omega
          (arith, length-append (set s.favourites s.position (length s.nodes)) (0 ∷ []), length-set s.favourites s.position (length s.nodes), g.favourites);
      ran = λ i above l. elim (split i (length s.nodes) (omega arith)) [
        | inl below ↦ run_kept s new w i g above below
        | inr same ↦ run_new s program n w i g same formed e
      ];
      sound = λ i l. elim (split i (length s.nodes) (omega arith)) [
        | inl below ↦ rw (worlds-old i below) (g.sound i below)
        | inr same ↦ rw (same, world-new) (exec_sound _ _ _ _ (g.sound s.position g.position) formed e)
      ];
      children = λ i l above. elim (split i (length s.nodes) (omega arith)) [
        | inl below ↦ child_kept s new i g refl below above
        | inr same ↦ absurd (let none = child_none s i g same in omega arith)
      ];
      position = omega arith;
      root_parent = ap (λ (n : Node). n.parent) (get_or_append_left s.nodes (new ∷ []) root 0 g.rooted) ∙ g.root_parent;
      favoured = λ j above. favoured_grown s program n w j g above;
    }

-- above the older nodes stand the worlds that stood there, and above the new one the position's
pub world_above_kept : (s : Past) (program : Cell) (n : ℕ) (w : World) (i : ℕ) → IsLegal s → 0 < i → i < length s.nodes →
    world_at (grown s program n w) (node_at (grown s program n w) i).parent ≡ world_at s (node_at s i).parent
world_above_kept s program n w i g above low =
    let new : Node = record { parent = s.position; cell = program; steps = n } in
    let run : IsRun s.nodes s.worlds i = g.ran i above low in
    let known : (node_at s i).parent < length s.worlds = let h = run.parent in rw g.worlds (omega arith) in
    ap (λ (k : ℕ). get_or (s.worlds ++ w ∷ []) k empty_world) (grown_parent s new i low)
    ∙ get_or_append_left s.worlds (w ∷ []) empty_world (node_at s i).parent known

pub world_above_new : (s : Past) (program : Cell) (n : ℕ) (w : World) → IsLegal s →
    world_at (grown s program n w) (node_at (grown s program n w) (length s.nodes)).parent ≡ here s
world_above_new s program n w g =
    let new : Node = record { parent = s.position; cell = program; steps = n } in
    ap (λ (x : Node). get_or (s.worlds ++ w ∷ []) x.parent empty_world) (get_or_at s.nodes new [] root (length s.nodes) refl)
    ∙ get_or_append_left s.worlds (w ∷ []) empty_world s.position (rw g.worlds g.position)

-- the runs of the position's cell and of its favourite's
pub run_here : (s : Past) → IsLegal s → 0 < s.position → IsRun s.nodes s.worlds s.position
run_here s g l = g.ran s.position l g.position

pub parent_sound : (s : Past) → IsLegal s → 0 < s.position → IsSound (world_at s (node_at s s.position).parent)
parent_sound s g l =
    let run = run_here s g l in
    let above : (node_at s s.position).parent < length s.nodes = let h = run.parent in let k = g.position in omega arith in
    g.sound (node_at s s.position).parent above

-- the favourite of the position is a child of it
pub favourite_next : (s : Past) → IsLegal s → 0 < favourite_of s s.position → IsNext s (favourite_of s s.position)
favourite_next s g l =
    let child = g.children s.position g.position l in
    record { some = l; known = child.known; parent = child.parent }

pub run_below : (s : Past) (c : ℕ) → IsLegal s → IsNext s c → CodeExec (Forward (node_at s c).cell) (here s) (node_at s c).steps (world_at s c)
run_below s c g next =
    let run : IsRun s.nodes s.worlds c = g.ran c next.some next.known in
    rw next.parent at run.ran

pub formed_below : (s : Past) (c : ℕ) → IsLegal s → IsNext s c → IsFormed (node_at s c).cell (here s)
formed_below s c g next =
    let run : IsRun s.nodes s.worlds c = g.ran c next.some next.known in
    rw next.parent at run.formed

-- the inverse of the position's cell leads to where that cell's statements began
pub run_above : (s : Past) → IsLegal s → 0 < s.position → CodeExec (Backward (node_at s s.position).cell) (here s) (node_at s s.position).steps
    (entered (node_at s s.position).cell (world_at s (node_at s s.position).parent))
run_above s g l = exec_inverted _ _ _ _ (sound_good _ (parent_sound s g l)) (run_here s g l).ran

-- the world at the end of an undone cell, and of a redone one
pub undone_world : (s : Past) (n : ℕ) (w : World) → IsLegal s → 0 < s.position → CodeExec (Backward (node_at s s.position).cell) (here s) n w →
    w ≡ entered (node_at s s.position).cell (world_at s (node_at s s.position).parent)
undone_world s n w g l e = (exec_same _ _ _ _ _ _ e (run_above s g l)).1

pub redone_world : (s : Past) (c n : ℕ) (w : World) → IsLegal s → IsNext s c → CodeExec (Forward (node_at s c).cell) (here s) n w → w ≡ world_at s c
redone_world s c n w g next e = (exec_same _ _ _ _ _ _ e (run_below s c g next)).1

-- ---- travels

pub way_up : (up : ℕ) → way_from up ≡ Up → 0 < up
way_up zero e = absurd (cc)
way_up (suc up) e = omega arith

pub way_down : (up : ℕ) → way_from up ≡ Down → up ≡ 0
way_down zero e = refl
way_down (suc up) e = absurd (cc)

pub set_back : (xs : List ℕ) (i : ℕ) → set xs i (get_or xs i 0) ≡ xs
set_back [] zero = refl
set_back [] (suc i) = refl
set_back (x ∷ xs) zero = refl
set_back (x ∷ xs) (suc i) = ap (λ (ys : List ℕ). x ∷ ys) (set_back xs i)

-- who can go up stays above the root on the way
pub all_above : (nodes : List Node) (n k j : ℕ) → IsTrue (can_undo nodes n k) → j < k → 0 < ancestor nodes n j
all_above nodes n zero j h l = absurd (omega arith)
all_above nodes n (suc k) zero h l = (undo_above nodes n (suc k) (omega arith) h).0
all_above nodes n (suc k) (suc j) h l =
    let above = undo_above nodes n (suc k) (omega arith) h in
    let e : suc k - 1 ≡ k = omega arith in
    let rest : IsTrue (can_undo nodes (get_or nodes n root).parent k) = rw e at above.1 in
    subst (λ (x : ℕ). 0 < x) (ancestor_of_parent nodes n j) (all_above nodes (get_or nodes n root).parent k j rest (omega arith))

-- and who stays above it can
pub above_all : (nodes : List Node) (n k : ℕ) → ((j : ℕ) → j < k → 0 < ancestor nodes n j) → IsTrue (can_undo nodes n k)
above_all nodes n zero h = refl
above_all nodes n (suc k) h =
    let some = h 0 (omega arith) in
    not_zero_is n _ (λ e. absurd (omega arith))
    ∙ above_all nodes (get_or nodes n root).parent k (λ j l. subst (λ (x : ℕ). 0 < x) (sym (ancestor_of_parent nodes n j)) (h (suc j) (omega arith)))

-- a travel by its aim goes down next to a child
goto_next : (s : Past) (n down : ℕ) → IsLegal s → 0 < down → IsWayTo s.nodes s.position n 0 down → IsNext s (ancestor s.nodes n (down - 1))
goto_next s n down g l w =
    let low = ancestors_below s n (down - 1) g w.known in
    let known = w.known in
    let e : suc (down - 1) ≡ down = omega arith in
    record {
      some = all_above s.nodes n down (down - 1) w.above_to (omega arith);
      known = omega arith;
      parent = ap (λ (k : ℕ). ancestor s.nodes n k) e ∙ sym w.meet;
    }

next_by : (aim : Aim) (s : Past) (down : ℕ) → IsLegal s → 0 < down → CanGo aim s.nodes s.favourites s.position 0 down → IsNext s (below_by aim s down)
next_by Undo s down g l w = absurd (let e = w.0 in omega arith)
next_by Redo s down g l w = favourite_next s g (redo_below s.favourites s.position down l w.1).0
next_by (Goto n) s down g l w = goto_next s n down g l w

pub next_below : (s : Past) (travel : Travel) → IsLegal s → next_way travel ≡ Down → IsPossible s.nodes s.favourites s.position travel →
    IsNext s (below s travel)
next_below s travel g way p =
    let none : travel.up ≡ 0 = way_down travel.up way in
    let some = p.some in
    next_by travel.aim s travel.down g (omega arith) (subst (λ (up : ℕ). CanGo travel.aim s.nodes s.favourites s.position up travel.down) none p.way_there)

above_by : (aim : Aim) (s : Past) (up down : ℕ) → 0 < up → CanGo aim s.nodes s.favourites s.position up down →
    (0 < s.position) × CanGo aim s.nodes s.favourites (node_at s s.position).parent (up - 1) down
above_by Undo s up down l w =
    let above = undo_above s.nodes s.position up l w.1 in
    (above.0, (w.0, above.1))
above_by Redo s up down l w = absurd (let e = w.0 in omega arith)
above_by (Goto n) s up down l w =
    let above = undo_above s.nodes s.position up l w.above_from in
    let e : suc (up - 1) ≡ up = omega arith in (
      above.0,
      record {
        known = w.known;
        above_from = above.1;
        above_to = w.above_to;
        meet = ancestor_of_parent s.nodes s.position (up - 1) ∙ ap (λ (k : ℕ). ancestor s.nodes s.position k) e ∙ w.meet;
      },
    )

-- a travel that goes up next stands above the root, and can go on from the parent
pub up_possible : (s : Past) (travel : Travel) → next_way travel ≡ Up → IsPossible s.nodes s.favourites s.position travel →
    (0 < s.position) × CanGo travel.aim s.nodes s.favourites (node_at s s.position).parent (travel.up - 1) travel.down
up_possible s travel way p = above_by travel.aim s travel.up travel.down (way_up travel.up way) p.way_there

down_by : (aim : Aim) (s : Past) (down : ℕ) → IsLegal s → 0 < down → CanGo aim s.nodes s.favourites s.position 0 down →
    CanGo aim s.nodes (set s.favourites s.position (below_by aim s down)) (below_by aim s down) 0 (down - 1)
down_by Undo s down g l w = absurd (let e = w.0 in omega arith)
down_by Redo s down g l w =
    let rest = redo_below s.favourites s.position down l w.1 in
    (refl, subst (λ (f : List ℕ). IsTrue (can_redo f (favourite_of s s.position) (down - 1))) (sym (set_back s.favourites s.position)) rest.1)
down_by (Goto n) s down g l w = record {
  known = w.known;
  above_from = refl;
  above_to = above_all s.nodes n (down - 1) (λ j h. all_above s.nodes n down j w.above_to (omega arith));
  meet = refl;
}

pub down_possible : (s : Past) (travel : Travel) → IsLegal s → next_way travel ≡ Down → IsPossible s.nodes s.favourites s.position travel →
    CanGo travel.aim s.nodes (set s.favourites s.position (below s travel)) (below s travel) 0 (travel.down - 1)
down_possible s travel g way p =
    let none : travel.up ≡ 0 = way_down travel.up way in
    let some = p.some in
    down_by travel.aim s travel.down g (omega arith) (subst (λ (up : ℕ). CanGo travel.aim s.nodes s.favourites s.position up travel.down) none p.way_there)

-- after a cell the tree is legal, and the rest of the travel can be gone
moved_by : (s : Past) (travel : Travel) (way : Way) → next_way travel ≡ way → IsLegal s → IsPossible s.nodes s.favourites s.position travel →
    IsLegal (moved s travel) × CanGo (stepped travel).aim (moved s travel).nodes (moved s travel).favourites (moved s travel).position (stepped travel).up
    (stepped travel).down
moved_by s travel Up way g p = rw (way, moved, stepped) (legal_up s g, (up_possible s travel way p).1)
moved_by s travel Down way g p =
    let none : travel.up ≡ 0 = way_down travel.up way in
    rw (way, moved, stepped) (
      legal_down s (below s travel) g (next_below s travel g way p),
      subst (λ (up : ℕ). CanGo travel.aim s.nodes (set s.favourites s.position (below s travel)) (below s travel) up (travel.down - 1)) (sym none)
          (down_possible s travel g way p),
    )

pub moved_legal : (s : Past) (travel : Travel) → IsLegal s → IsPossible s.nodes s.favourites s.position travel →
    IsLegal (moved s travel) × CanGo (stepped travel).aim (moved s travel).nodes (moved s travel).favourites (moved s travel).position (stepped travel).up
    (stepped travel).down
moved_legal s travel g p = moved_by s travel (next_way travel) refl g p

stays_at_root : (s : Past) (n i j : ℕ) → IsLegal s → ancestor s.nodes n i ≡ 0 → ancestor s.nodes n (i + j) ≡ 0
stays_at_root s n i zero g e = (let h : i + 0 ≡ i = omega arith in rw h e)
stays_at_root s n i (suc j) g e =
    let h : i + suc j ≡ suc (i + j) = omega arith in
    rw h (ap (λ (k : ℕ). (node_at s k).parent) (stays_at_root s n i j g e) ∙ g.root_parent)

-- where two paths meet, there is a way
pub meeting_way : (s : Past) (n up down : ℕ) → IsLegal s → n < length s.nodes → IsMeeting s.nodes s.position n up down → IsWayTo s.nodes s.position n up down
meeting_way s n up down g l m = record {
  known = l;
  above_from = above_all s.nodes s.position up (λ j h. elim (cases_eq (ancestor s.nodes s.position j) 0) [
    | inl at ↦ absurd (
        let far : j + (up - j) ≡ up = omega arith in
        let root : ancestor s.nodes s.position up ≡ 0 = subst (λ (k : ℕ). ancestor s.nodes s.position k ≡ 0) far (stays_at_root s s.position j (up - j) g at) in
        let least = (m.least j down (at ∙ sym root ∙ m.same)).0 in
        omega arith)
    | inr other ↦ omega (arith, other)
  ]);
  above_to = above_all s.nodes n down (λ j h. elim (cases_eq (ancestor s.nodes n j) 0) [
    | inl at ↦ absurd (
        let far : j + (down - j) ≡ down = omega arith in
        let root : ancestor s.nodes n down ≡ 0 = subst (λ (k : ℕ). ancestor s.nodes n k ≡ 0) far (stays_at_root s n j (down - j) g at) in
        let least = (m.least up j (m.same ∙ root ∙ sym at)).1 in
        omega arith)
    | inr other ↦ omega (arith, other)
  ]);
  meet = m.same;
}

pub meeting_same : (nodes : List Node) (a b up down i j : ℕ) → IsMeeting nodes a b up down → IsMeeting nodes a b i j → (up ≡ i) × (down ≡ j)
meeting_same nodes a b up down i j m h =
    let one = m.least i j h.same in
    let other = h.least up down m.same in
    let p = one.0 in
    let q = other.0 in
    let r = one.1 in
    let t = other.1 in
    (omega arith, omega arith)

pub stepped_cells : (travel : Travel) → 0 < cells travel → cells (stepped travel) + 1 ≡ cells travel
stepped_cells travel l = stepped_by travel (next_way travel) refl l
  where
    stepped_by : (travel : Travel) (way : Way) → next_way travel ≡ way → 0 < cells travel → cells (stepped travel) + 1 ≡ cells travel
    stepped_by travel Up way l =
        let some = way_up travel.up way in
        rw (way, stepped) (omega arith)
    stepped_by travel Down way l =
        let none = way_down travel.up way in
        rw (way, stepped) (omega arith)

-- ---- a new kernel's tree

pub new_worlds : worlds_from [] (root ∷ []) ≡ empty_world ∷ []
unfolding worlds_from
new_worlds = ap (λ (w : World). w ∷ []) end_of_root

new_ancestor : (j : ℕ) → ancestor (root ∷ []) 0 j ≡ 0
new_ancestor zero = refl
new_ancestor (suc j) = ap (λ (k : ℕ). (get_or (root ∷ []) k root).parent) (new_ancestor j)

pub new_legal : IsLegal new_state.past
new_legal = record {
  rooted = omega arith;
  nothing_at_root = refl;
  worlds = refl;
  favourites = refl;
  ran = λ n above l. absurd (omega arith);
  sound = λ n l. (let e : n ≡ 0 = omega arith in rw e empty_sound);
  children = λ n l above. absurd (let e : n ≡ 0 = omega arith in let h : 0 < get_or (0 ∷ []) 0 0 = rw e at above in omega arith);
  position = omega arith;
  root_parent = refl;
  favoured = λ j above. absurd (let e = new_ancestor j in omega arith);
}
