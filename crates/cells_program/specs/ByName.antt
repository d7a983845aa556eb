-- How procedures are put in order: words for the contracts of private functions.
use Rattle.std.specs.Prelude.{List, [], ◌∷◌}
use Rattle.janus_meaning.specs.Fault.{Res, Fine, Bad}
use Rattle.janus_meaning.specs.Syntax.{Name, Proc}
use Rattle.janus_meaning.specs.Store.{find}
use Rattle.kernel_text.specs.NameSets.{with_name}

-- names that are put into a set, one after another
abbrev pub with_names : List Name → List Name → List Name
with_names known [] = known
with_names known (name ∷ names) = with_names (with_name known name) names

-- what was found, before others
abbrev pub onto_found : Res Proc → List Proc → List Proc
onto_found (Fine p) ps = p ∷ ps
onto_found (Bad f) ps = ps

-- the procedures of names, in their order
abbrev pub found : List Proc → List Name → List Proc
found all [] = []
found all (x ∷ xs) = onto_found (find x all) (found all xs)
