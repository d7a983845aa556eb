-- Which statements of flat code are reached: each is a member of a block.
use Rattle.std.specs.Prelude.{◌≡◌, ℕ, ◌<◌, ◌≤◌, ◌⊎◌, List, length, slice_get, Some}
use Rattle.janus_code.specs.declared.code.Block.{Block}
use Rattle.janus_code.specs.declared.code.Statement.{Statement}
use Rattle.janus_code.specs.declared.code.Statement.TheVariants.{Skip, Assign, AssignElement, Push, Pop, Swap, If, Loop, LocalInt, LocalStack, Call, Uncall}

-- the block has this number among its members
pub record IsMember (members : List ℕ) (b : Block) (n : ℕ) : Type 0 where
  pub place : ℕ
  pub from : b.start ≤ place
  pub until : place < b.end
  pub there : slice_get members place ≡ Some n

-- a block of the statement has it
abbrev pub HasMember : List ℕ → ℕ → Statement → Type 0
HasMember members n Skip = ⊥
HasMember members n (Assign x u e) = ⊥
HasMember members n (AssignElement a i u e) = ⊥
HasMember members n (Push x y) = ⊥
HasMember members n (Pop x y) = ⊥
HasMember members n (Swap x y) = ⊥
HasMember members n (If a p q b) = IsMember members p n ⊎ IsMember members q n
HasMember members n (Loop a p q b) = IsMember members p n ⊎ IsMember members q n
HasMember members n (LocalInt x a p b) = IsMember members p n
HasMember members n (LocalStack x p) = IsMember members p n
HasMember members n (Call f xs) = ⊥
HasMember members n (Uncall f xs) = ⊥

-- it is the number of a statement inside another one
pub record IsInside (members : List ℕ) (statements : List Statement) (n : ℕ) : Type 0 where
  pub outer : ℕ
  pub statement : Statement
  pub there : slice_get statements outer ≡ Some statement
  pub member : HasMember members n statement

-- each statement from a number on is one of those that P tells of, or inside another one
abbrev pub AreInsideFrom : ℕ → List ℕ → List Statement → (ℕ → Type 0) → Type 0
AreInsideFrom from members statements P = (n : ℕ) → from ≤ n → n < length statements → P n ⊎ IsInside members statements n

-- Each statement is a member of the outermost block, or of a block of another statement. Since that one stands behind it, the blocks lead to it from the
-- outermost one on.
abbrev pub AreReached : List ℕ → List Statement → Block → Type 0
AreReached members statements body = (n : ℕ) → n < length statements → IsMember members body n ⊎ IsInside members statements n
