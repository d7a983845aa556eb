-- Sets of names, in the order of their octets.
use Rattle.std.specs.Prelude.{List}
use Rattle.std.specs.Ordering.{nat_cmp}
use Rattle.std.specs.Cmp.Lexicographic.{slice_cmp}
use Rattle.std.specs.BTreeSet.{insert_key}
use Rattle.janus_meaning.specs.Syntax.{Name}

-- the names, with one more at its place, unless it is there
abbrev pub with_name : List Name → Name → List Name
with_name names name = insert_key (slice_cmp nat_cmp) names name
