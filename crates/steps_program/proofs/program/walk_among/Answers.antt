use Rattle.std.proofs.Common.{◌∙◌, List, [], ◌∷◌, ◌++◌, map, ap}
use Rattle.std.proofs.lemmas.List.{map-append}
use Rattle.steps_program.specs.Before.{text_of}
use Rattle.steps_program.specs.declared.source.Source.{Source}
use Rattle.steps_program.proofs.Entering.{told_as_read}
use Rattle.steps_program.proofs.program.walk_among.Goals as goal

pub returns-in-Ok : goal.returns-in-Ok
returns-in-Ok g c =
    told_as_read c.as_slice.result.now (map text_of c.args.sources.items ++ text_of c.args.source ∷ []) c.args.walk (g.R.Read.remaining c.args.reader.now)
    (g.W.Write.contents c.args.writer.now) (g.W.Write.contents c.walk_as_read.new.writer) c.walk_as_read.result
    (ap (λ (l : List Source). map text_of l) (c.as_slice.ensures.value ∙ c.in-Ok.ensures.items)
    ∙ map-append text_of c.args.sources.items (c.args.source ∷ []))
    c.walk_as_read.ensures.read c.walk_as_read.ensures.tells
