-- What an expression is checked over: the declared names of a world, and no procedure.
use Rattle.std.specs.Prelude.{◌≡◌, [], map}
use Rattle.janus_meaning.specs.Store.{Store}
use Rattle.janus_meaning.specs.Shape.{shape_of}
use Rattle.janus_meaning.specs.World.{listed}
use Rattle.janus_check.specs.Names.{Known, shape_in}
use Rattle.kernel_loader.specs.Kinds.{kind_in}

-- the declared names in order, each with the kind of its value
abbrev pub known_by_names : Store → Known
known_by_names s = record { names = map (λ e. (e.0, kind_in e.1)) (listed s); procedures = [] }

-- what is known has the names of the store and no others, each as the kind that it is there
abbrev pub KnowsNamesOf : Known → Store → Type 0
KnowsNamesOf known s = shape_in known.names ≡ shape_of s
