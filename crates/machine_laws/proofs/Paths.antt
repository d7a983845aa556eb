-- The worlds are those of the paths.
use Rattle.std.proofs.Common.{◌≡◌, ℕ, ◌<◌, ◌≤◌, inl, inr, List, [], ◌∷◌, length, zero, suc, refl, sym, ◌∙◌, subst, arith}
use Rattle.std.proofs.lemmas.Bool.{cases_eq}
use Rattle.janus_meaning.specs.World.{World, Cell, empty_world}
use Rattle.kernel_machine.specs.Language.{Forward, CodeExec}
use Rattle.kernel_machine.specs.State.{Past, world_at, node_at}
use Rattle.kernel_machine.specs.Legal.{IsRun, IsLegal}
use Rattle.machine_laws.specs.Travels.{IsPath, LeadTo, PathGivesWorld}
use Rattle.kernel_machine.proofs.LanguageLaws.{exec_same}

path : (s : Past) (f n : ℕ) → IsLegal s → n ≤ f → n < length s.nodes → (cells : List Cell) × IsPath s.nodes n cells
path s zero n g few l = ([], omega arith)
path s (suc f) n g few l = elim (cases_eq n 0) [
  | inl e ↦ ([], e)
  | inr above ↦
      (let some : 0 < n = omega (arith, above) in
      let run : IsRun s.nodes s.worlds n = g.ran n some l in
      let low = run.parent in
      let rest = path s f (node_at s n).parent g (omega arith) (omega arith) in
      ((node_at s n).cell ∷ rest.0, (some, l, refl, rest.1)))
]

leads : (s : Past) (n : ℕ) (cells : List Cell) → IsLegal s → IsPath s.nodes n cells → LeadTo cells (world_at s n)
leads s n [] g p = subst (λ (k : ℕ). world_at s k ≡ empty_world) (sym p) g.nothing_at_root
leads s n (cell ∷ above) g p =
    let run : IsRun s.nodes s.worlds n = g.ran n p.0 p.1 in (
      world_at s (node_at s n).parent,
      (node_at s n).steps,
      leads s (node_at s n).parent above g p.3,
      subst (λ (x : Cell). CodeExec (Forward x) (world_at s (node_at s n).parent) (node_at s n).steps (world_at s n)) p.2 run.ran,
    )

one_world : (cells : List Cell) (v w : World) → LeadTo cells v → LeadTo cells w → v ≡ w
one_world [] v w p q = p ∙ sym q
one_world (cell ∷ above) v w p q =
    let start : p.0 ≡ q.0 = one_world above p.0 q.0 p.2 q.2 in
    let again : CodeExec (Forward cell) q.0 p.1 v = subst (λ (x : World). CodeExec (Forward cell) x p.1 v) start p.3 in
    (exec_same _ _ _ _ _ _ again q.3).1

pub path_gives_world : PathGivesWorld
path_gives_world s n g l =
    let p = path s n n g (omega arith) l in
    (p.0, p.1, leads s n p.0 g p.1, λ w q. one_world p.0 w (world_at s n) q (leads s n p.0 g p.1))
