-- The laws of the language that the kernel rests on, from those of worlds.
use Rattle.std.proofs.Common.{◌≡◌, ℕ, ◌-◌, ◌<◌, arith, refl, sym, ◌∙◌}
use Rattle.janus_meaning.specs.Fault.{Fault}
use Rattle.janus_meaning.specs.Syntax.{Blk}
use Rattle.janus_meaning.specs.Store.{Store}
use Rattle.janus_meaning.specs.Outside.{Outside}
use Rattle.janus_meaning.specs.Meaning.{Whole, Block, Done, block_run, Run as RunOf}
use Rattle.janus_meaning.specs.World.{World, empty_world, Cell, entered, define}
use Rattle.janus_meaning.specs.Cells.{IsGoodWorld, world_after, store_after}
use Rattle.janus_meaning.proofs.Worlds.{worlds_are_determined, world_trichotomy, worlds_start_and_end, worlds_reverse, entered_is_good}
use Rattle.janus_meaning.proofs.FormedWorlds.{formed_good, formed_worlds_last}
use Rattle.kernel_machine.specs.Language.{IsFormed, IsSound, empty_cell, Code, Forward, Backward, start_of, run_block, CodePart, CodeExec, CodeStop, end_of}

-- before the first step of a cell, and of its inverse
pub part_zero_forward : (cell : Cell) (w : World) → CodePart (Forward cell) w 0 (entered cell w)
unfolding CodePart
part_zero_forward cell w = (worlds_start_and_end (entered cell w) cell.block).first

pub part_zero_backward : (cell : Cell) (w : World) → CodePart (Backward cell) w 0 w
unfolding CodePart
part_zero_backward cell w = (worlds_start_and_end w _).first

-- the world after some steps is one
pub part_same : (code : Code) (w : World) (j : ℕ) (u v : World) → CodePart code w j u → CodePart code w j v → u ≡ v
unfolding CodePart
part_same code w j u v p q =
    let f = worlds_are_determined (start_of code w) (run_block code) in
    f.part j u p ∙ sym (f.part j v q)

pub part_none_forward : (cell : Cell) (w v : World) → CodePart (Forward cell) w 0 v → v ≡ entered cell w
part_none_forward cell w v p = part_same (Forward cell) w 0 v (entered cell w) p (part_zero_forward cell w)

pub part_none_backward : (cell : Cell) (w v : World) → CodePart (Backward cell) w 0 v → v ≡ w
part_none_backward cell w v p = part_same (Backward cell) w 0 v w p (part_zero_backward cell w)

pub exec_part : (code : Code) (w : World) (n : ℕ) (v : World) → CodeExec code w n v → CodePart code w n v
unfolding CodePart CodeExec
exec_part code w n v e = (worlds_start_and_end (start_of code w) (run_block code)).last n v e

block_some : {out : Outside} {n : ℕ} {b : Blk} {s m : Store} → RunOf out (Whole (Block b)) s n (Done m) → 0 < n
block_some (block_run r h) = omega arith

-- no cell ends before its first step
pub exec_some : (code : Code) (w : World) (n : ℕ) (v : World) → CodeExec code w n v → 0 < n
unfolding CodeExec
exec_some code w n v e = block_some e.ran

pub exec_same : (code : Code) (w : World) (n m : ℕ) (u v : World) → CodeExec code w n u → CodeExec code w m v → (n ≡ m) × (u ≡ v)
unfolding CodeExec
exec_same code w n m u v p q =
    let f = worlds_are_determined (start_of code w) (run_block code) in
    let steps : n ≡ m = f.one_end n m u v p q in
    (steps, f.exec n u p ∙ sym (rw (← steps) at (f.exec m v q)))

pub exec_no_stop : (code : Code) (w : World) (n j : ℕ) (u : World) (f : Fault) → CodeExec code w n u → CodeStop code w j f → ⊥
unfolding CodeExec CodeStop
exec_no_stop code w n j u f e s = (worlds_are_determined (start_of code w) (run_block code)).no_stop_and_end j n f u s e

-- a fault is met after one number of steps, and it is one
pub stop_same : (code : Code) (w : World) (i j : ℕ) (f g : Fault) → CodeStop code w i f → CodeStop code w j g → (i ≡ j) × (f ≡ g)
unfolding CodeStop
stop_same code w i j f g p q = (worlds_are_determined (start_of code w) (run_block code)).one_stop i j f g p q

-- no step is taken beyond a fault
pub stop_no_part : (code : Code) (w : World) (j m : ℕ) (u : World) (f : Fault) → CodeStop code w j f → j < m → CodePart code w m u →
    ((v : World) → CodeExec code w m v → ⊥) → ⊥
unfolding CodeExec CodePart CodeStop
stop_no_part code w j m u f s l p none = (world_trichotomy (start_of code w) (run_block code) m).stopped_or_under_way (j, f, l, s) (u, p, none)

-- the world after a cell is a function of the cell, the world before it and the steps
pub exec_end : (cell : Cell) (w : World) (n : ℕ) (v : World) → CodeExec (Forward cell) w n v → v ≡ end_of cell w n
unfolding CodeExec end_of
exec_end cell w n v e = (worlds_are_determined (entered cell w) cell.block).exec n v e

-- the root's cell does nothing
pub end_of_root : end_of empty_cell empty_world 0 ≡ empty_world
unfolding end_of world_after store_after
end_of_root = refl

-- the inverse leads back, in as many steps, and through the same worlds
pub exec_inverted : (cell : Cell) (w : World) (n : ℕ) (v : World) → IsGoodWorld w → CodeExec (Forward cell) w n v →
    CodeExec (Backward cell) v n (entered cell w)
unfolding CodeExec
exec_inverted cell w n v good e = (worlds_reverse (entered cell w) cell.block n v (entered_is_good cell w good) e).back

pub part_inverted : (cell : Cell) (w : World) (n j : ℕ) (u v : World) → IsGoodWorld w → CodeExec (Forward cell) w n v → CodePart (Forward cell) w j u →
    CodePart (Backward cell) v (n - j) u
unfolding CodeExec CodePart
part_inverted cell w n j u v good e p = (worlds_reverse (entered cell w) cell.block n v (entered_is_good cell w good) e).through j u p

-- ---- sound worlds

pub sound_good : (w : World) → IsSound w → IsGoodWorld w
sound_good w sound = formed_good w sound.formed

pub empty_sound : IsSound empty_world
empty_sound = record { formed = formed_worlds_last.first }

-- the procedures of the world after a cell are those of the world before it, with the cell's over them
pub exec_procedures : (cell : Cell) (w : World) (n : ℕ) (v : World) → CodeExec (Forward cell) w n v → v.procedures ≡ define cell.procedures w.procedures
unfolding CodeExec
exec_procedures cell w n v e = e.procedures

-- a world after a cell is sound
pub exec_sound : (cell : Cell) (w : World) (n : ℕ) (v : World) → IsSound w → IsFormed cell w → CodeExec (Forward cell) w n v → IsSound v
unfolding CodeExec
exec_sound cell w n v sound formed e = record { formed = (formed_worlds_last.later cell w n v sound.formed formed.formed).ended_is e }
