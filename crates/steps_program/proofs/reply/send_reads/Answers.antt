use Rattle.std.proofs.Common.{ℕ, List, [], refl, sym, subst}
use Rattle.std.specs.Borrow.{Bor}
use Rattle.std.specs.Prelude.{Option, Some}
use Rattle.std.specs.Str.Pattern.{GetsRange}
use Rattle.exact_write.proofs.SendLemmas.{appends_none}
use Rattle.janus_meaning.specs.Syntax.{Name}
use Rattle.janus_syntax.specs.declared.token.Span.{Span}
use Rattle.steps_walk.specs.Sights.{AreInSight}
use Rattle.steps_walk.specs.Walk.{slots_in}
use Rattle.steps_program.specs.declared.source.Source.{Source}
use Rattle.steps_program.specs.Told.{TellsReads, TellsPart, TellsSpan}
use Rattle.steps_program.proofs.Telling.{more}
use Rattle.steps_program.proofs.reply.send_reads.Goals as goal

pub returns-in_default-source_of : goal.returns-in_default-source_of
returns-in_default-source_of g c =
    let s = slots_in c.args.walk.now in
    let is = c.in-Some.ensures in (
      [],
      record {
        told = (c.in-Some.level, c.in-Some.spot);
        stands = record { tells = is.tells; code = is.code; node = is.node };
        sight = c.in-Some-sight_here.sight;
        of = c.in-Some-sight_here.ensures.is;
        is = λ names h. subst (λ (o : Option Source). TellsSpan o c.in-Some.spot.span s names []) (sym c.in_default-source_of.ensures) refl;
      },
      appends_none (g.W.Write.contents c.args.writer.now),
    )

pub returns-in_default-span : goal.returns-in_default-span
returns-in_default-span g c =
    let s = slots_in c.args.walk.now in
    let is = c.in-Some.ensures in
    let spot = c.in-Some.spot in (
      [],
      record {
        told = (c.in-Some.level, spot);
        stands = record { tells = is.tells; code = is.code; node = is.node };
        sight = c.in-Some-sight_here.sight;
        of = c.in-Some-sight_here.ensures.is;
        is = λ names h.
            subst (λ (o : Option Source). TellsSpan o spot.span s names []) (sym c.in-Some-source_of.ensures)
            (subst (λ (o : Option Span). TellsSpan (Some c.in-Some-source_of.source.now) o s names []) (sym c.in_default-span.is) refl);
      },
      appends_none (g.W.Write.contents c.args.writer.now),
    )

pub returns : goal.returns
returns g c =
    let s = slots_in c.args.walk.now in
    let is = c.in-Some.ensures in
    let source = c.in-Some-source_of.source.now in
    let span = c.in-Some-span.span in
    let spot = c.in-Some.spot in
    more (λ out. (names : List Name) → AreInSight c.in-Some-sight_here.sight names →
    (part : Option (Bor (List ℕ))) × GetsRange c.as_str.result.now span.start span.end part × TellsPart s names part out)
    (TellsReads c.args.sources.now c.args.walk.now) (g.W.Write.contents c.args.writer.now) (g.W.Write.contents c.send_read.new.writer) c.send_read.result
    (λ out told. record {
      told = (c.in-Some.level, spot);
      stands = record { tells = is.tells; code = is.code; node = is.node };
      sight = c.in-Some-sight_here.sight;
      of = c.in-Some-sight_here.ensures.is;
      is = λ names h.
          let k = told names h in
          subst (λ (o : Option Source). TellsSpan o spot.span s names out) (sym c.in-Some-source_of.ensures)
          (subst (λ (o : Option Span). TellsSpan (Some source) o s names out) (sym c.in-Some-span.is)
          (k.0, subst (λ (t : List ℕ). GetsRange t span.start span.end k.0) c.as_str.ensures.value k.1, k.2));
    })
    c.send_read.ensures
