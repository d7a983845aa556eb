-- Flat code and its inverse: the same numbers, each statement inverted, the members of each block backward.
use Rattle.std.specs.Prelude.{◌≡◌, ℕ, suc, ◌+◌, ◌-◌, ◌<◌, ◌≤◌, List, length, slice_get, slice_index_or, Some}
use Rattle.janus_code.specs.declared.code.Block.{Block}
use Rattle.janus_code.specs.declared.code.Statement.{Statement}
use Rattle.janus_code.specs.declared.code.Statement.TheVariants.{Skip, Assign, AssignElement, Push, Pop, Swap, If, Loop, LocalInt, LocalStack, Call, Uncall}
use Rattle.janus_code.specs.Cells.{IsOpposite}
use Rattle.janus_code.specs.Numbered.{IsCopy}

-- the members of the block c are those of b, backward
pub record IsBackward (members others : List ℕ) (b c : Block) : Type 0 where
  pub order : c.start ≤ c.end
  pub within : c.end ≤ length others
  pub as_many : c.end - c.start ≡ b.end - b.start
  pub backward : (i : ℕ) → i < b.end - b.start → slice_index_or others (c.start + i) 0 ≡ slice_index_or members (b.end - suc i) 0

-- s and its inverse r
abbrev pub IsInverse : List ℕ → List ℕ → Statement → Statement → Type 0
IsInverse members others Skip Skip = Unit {0}
IsInverse members others (Assign x u e) (Assign y v f) = (y ≡ x) × IsOpposite u v × IsCopy e f
IsInverse members others (AssignElement x i u e) (AssignElement y j v f) =
    (y ≡ x) × IsCopy i j × IsOpposite u v × IsCopy e f
IsInverse members others (Push x y) (Pop v w) = (v ≡ x) × (w ≡ y)
IsInverse members others (Pop x y) (Push v w) = (v ≡ x) × (w ≡ y)
IsInverse members others (Swap x y) (Swap v w) = (v ≡ x) × (w ≡ y)
IsInverse members others (If a p q b) (If c r s d) =
    IsCopy b c × IsBackward members others p r × IsBackward members others q s × IsCopy a d
IsInverse members others (Loop a p q b) (Loop c r s d) =
    IsCopy b c × IsBackward members others p r × IsBackward members others q s × IsCopy a d
IsInverse members others (LocalInt x a p b) (LocalInt y c r d) =
    (y ≡ x) × IsCopy b c × IsBackward members others p r × IsCopy a d
IsInverse members others (LocalStack x p) (LocalStack y r) = (y ≡ x) × IsBackward members others p r
IsInverse members others (Call f xs) (Uncall g ys) = (g ≡ f) × (ys.items ≡ xs.items)
IsInverse members others (Uncall f xs) (Call g ys) = (g ≡ f) × (ys.items ≡ xs.items)
IsInverse members others _ _ = ⊥

pub record AreInverse (members : List ℕ) (statements : List Statement) (body : Block) (others : List ℕ) (inverses : List Statement)
    (back : Block) : Type 0 where
  pub as_many : length inverses ≡ length statements
  pub inverse : (n : ℕ) (s r : Statement) → slice_get statements n ≡ Some s → slice_get inverses n ≡ Some r → IsInverse members others s r
  pub whole : IsBackward members others body back
