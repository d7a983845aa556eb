-- What a store has room for.
use Rattle.std.specs.Prelude.{◌<◌}
use Rattle.janus_meaning.specs.Limit.{live_stack_limit}
use Rattle.janus_meaning.specs.Store.{Store}
use Rattle.janus_meaning.specs.World.{Declaration, DeclareInt, DeclareArray, DeclareStack, stacks_in}

-- where a stack is declared, one more may live
abbrev pub HasStackRoom : Declaration → Store → Type 0
HasStackRoom (DeclareInt x) s = Unit {0}
HasStackRoom (DeclareArray x n) s = Unit {0}
HasStackRoom (DeclareStack x) s = stacks_in s < live_stack_limit
