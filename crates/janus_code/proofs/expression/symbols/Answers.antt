use Rattle.std.proofs.Common.{List, map, take, ◌∷◌, ◌++◌, [], ap, ◌∙◌, sym, subst}
use Rattle.std.proofs.lemmas.List.{map-append}
use Rattle.janus_meaning.specs.Syntax.{names_of}
use Rattle.janus_check.specs.Slots.{slot_in, slots_in}
use Rattle.janus_syntax.specs.Tree.{name_view, names_view}
use Rattle.janus_syntax.specs.View.{text_of}
use Rattle.janus_check.specs.Sight.{in_sight}
use Rattle.janus_check.proofs.DropLemmas.{taken}
use Rattle.janus_code.specs.declared.code.Symbol.{Symbol}
use Rattle.janus_code.specs.Expressions.{symbol_name, names_in}
use Rattle.janus_code.specs.Numbered.{HaveTheirNumbers}
use Rattle.janus_code.specs.Slotted.{all_slots}
use Rattle.janus_code.proofs.Lists.{numbers_more}
use Rattle.janus_code.proofs.Seeing.{one_name_seen}
use Rattle.janus_code.proofs.expression.symbols.Goals as goal

pub symbol-requires-clause-seen : goal.symbol-requires-clause-seen
symbol-requires-clause-seen g c =
    one_name_seen (in_sight c.args.sight.now) c.args.list.now c.loop-i.i c.index-list-i.result c.loop-i-test.true (sym c.index-list-i.is) c.requires.seen

pub loop-i-preserved : goal.loop-i-preserved
loop-i-preserved g c =
    let xs = c.args.list.now in
    let i = c.loop-i.i in
    let x = c.index-list-i.result in
    let y = c.symbol.result in
    let ys = c.loop-i.symbols.items in
    let g = names_of (in_sight c.args.sight.now) in
    let v = c.loop-i.invariant in (
      ap (names_in all_slots) c.in_ok-push.ensures.items ∙ map-append (symbol_name all_slots) ys (y ∷ [])
          ∙ (λ j. v.0 j ++ c.symbol.ensures.name j ∷ [])
          ∙ sym (ap (λ xs. slots_in g (map text_of (names_view xs))) (taken xs i x c.index-list-i.is c.loop-i-test.true)
          ∙ ap (λ ns. slots_in g (map text_of ns)) (map-append name_view (take i xs) (x ∷ []))
          ∙ ap (slots_in g) (map-append text_of (names_view (take i xs)) (name_view x ∷ []))
          ∙ map-append (slot_in g) (map text_of (names_view (take i xs))) (text_of (name_view x) ∷ [])),
      subst (λ (ys : List Symbol). HaveTheirNumbers g ys) (sym c.in_ok-push.ensures.items) (numbers_more g ys y v.1 c.symbol.ensures.numbered),
    )
