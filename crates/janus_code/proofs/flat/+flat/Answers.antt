use Rattle.std.proofs.Common.{rules, length-append, refl, [], ◌∷◌, ◌≡◌, ℕ, subst, List, length, get_or, ap, ◌∙◌, sym, arith, ◌+◌, ◌<◌, ◌≤◌}
use Rattle.std.specs.Prelude.{slice_get, Some}
use Rattle.std.proofs.lemmas.List.{drop_all}
use Rattle.std.proofs.lemmas.Option.{slice_get_within, slice_get_read}
use Rattle.janus_syntax.specs.View.{name_of, stm_of, block_of}
use Rattle.janus_code.specs.declared.code.Statement.{Statement}
use Rattle.janus_code.specs.Flat.{tree_at, ahead}
use Rattle.janus_code.proofs.Trees.{row_is, block_grown, grows_on}
use Rattle.janus_code.specs.Held.{IsMember, AreInsideFrom}
use Rattle.janus_code.proofs.HeldLemmas.{if_both, if_three, both_inside, one_inside, row_inside, row_reached, IsListed}
use Rattle.janus_code.proofs.Flattened.{if_ok, always_ok, if_parts, loop_parts, local_int_part, local_stack_part, row_below, row_trees, if_flat, loop_flat}
use Rattle.janus_code.proofs.Flattened.{local_int_flat, local_stack_flat}
use Rattle.janus_check.proofs.Weights.{block_weight, one_lighter}
use Rattle.janus_code.proofs.Seeing.{one_seen}
use Rattle.janus_check.specs.Sight.{in_sight}
use Rattle.janus_meaning.specs.Syntax.{ANumber, AStack, names_of}
use Rattle.janus_meaning.specs.Shape.{Shape}
use Rattle.janus_check.specs.Slots.{stm_in, block_in}
use Rattle.janus_code.specs.Seen.{SeesBlk}
use Rattle.janus_code.specs.Slotted.{all_slots}
use Rattle.janus_code.proofs.Slotting.{symbols_more, exp_more, fits}
use Rattle.janus_code.specs.Numbered.{HaveNumbers}
use Rattle.janus_code.specs.Width.{open_in_block}
use Rattle.janus_code.proofs.Widths.{open_if, open_loop, open_local_int, open_local_stack, open_more}
use Rattle.janus_code.proofs.flat.+flat.Goals as goal

pub flat_block-returns-clause-block : goal.flat_block-returns-clause-block
flat_block-returns-clause-block g t c =
    let d = c.loop-i.draft in
    let v = c.loop-i.invariant in
    let tree : ℕ → _ = tree_at all_slots d.members.items d.statements.items in
    let long : length c.deref.result.now ≡ length c.args.block.now = omega (arith, ap length c.deref.ensures.value, v.as_many) in
    let row : ahead tree c.deref.result.now 0 (length c.deref.result.now) ≡ block_in c.args.entries.now (names_of (in_sight c.args.sight.now))
    (block_of c.args.block.now) =
    ap (ahead tree c.deref.result.now 0) long
    ∙ row_is c.args.entries.now (names_of (in_sight c.args.sight.now)) tree c.deref.result.now 0 c.args.block.now (λ j s e. let z : 0 + j ≡ j = omega arith in
    ap (λ j. tree (get_or c.deref.result.now j 0)) z ∙ ap (λ (ns : List ℕ). tree (get_or ns j 0)) c.deref.ensures.value
    ∙ v.trees j s (omega (arith, slice_get_within c.args.block.now j s e)) e) in
    if_ok c.add_block.result (λ b e. e all_slots ∙ row) c.add_block.ensures.block

pub flat_statement-returns-in_ok-test-in-If-clause-tree : goal.flat_statement-returns-in_ok-test-in-If-clause-tree
flat_statement-returns-in_ok-test-in-If-clause-tree g t c =
    let d = c.flat_block.new.draft in
    let e = c.flat_block-in-If.new.draft in
    let kept = block_grown all_slots d.members.items e.members.items d.statements.items e.statements.items c.in_ok-then_part-in-If.then_part
    c.in_ok-else_part-in-If.ensures.grows c.in_ok-then_part-in-If.ensures.below in
    if_ok c.add-in-If.result (λ n h.
    h all_slots ∙ if_flat c.args.entries.now (names_of (in_sight c.args.sight.now)) all_slots c.in-If.test c.in-If.last c.in_ok-test-in-If.test
    c.in_ok-test-in-If.last c.in-If.then_part c.in-If.else_part _ _
    (rw c.deref-in-If-3.ensures at c.in_ok-test-in-If.ensures.trees.0) (rw c.deref-in-If-4.ensures at c.in_ok-test-in-If.ensures.trees.1)
    (kept.0 ∙ c.in_ok-then_part-in-If.ensures.block ∙ ap (λ ss. block_in c.args.entries.now (names_of (in_sight c.args.sight.now)) (block_of ss))
    c.deref-in-If.ensures.value)
    (c.in_ok-else_part-in-If.ensures.block ∙ ap (λ ss. block_in c.args.entries.now (names_of (in_sight c.args.sight.now)) (block_of ss))
    c.deref-in-If-2.ensures.value)
    ∙ ap (λ s. stm_in c.args.entries.now (names_of (in_sight c.args.sight.now)) (stm_of s)) (sym c.in-If.is)) c.add-in-If.ensures.tree

pub flat_statement-returns-in_ok-entry-in-Loop-clause-tree : goal.flat_statement-returns-in_ok-entry-in-Loop-clause-tree
flat_statement-returns-in_ok-entry-in-Loop-clause-tree g t c =
    let d = c.flat_block-in-Loop.new.draft in
    let e = c.flat_block-in-Loop-2.new.draft in
    let kept = block_grown all_slots d.members.items e.members.items d.statements.items e.statements.items c.in_ok-do_part-in-Loop.do_part
    c.in_ok-loop_part-in-Loop.ensures.grows c.in_ok-do_part-in-Loop.ensures.below in
    if_ok c.add-in-Loop.result (λ n h.
    h all_slots ∙ loop_flat c.args.entries.now (names_of (in_sight c.args.sight.now)) all_slots c.in-Loop.entry c.in-Loop.exit c.in_ok-entry-in-Loop.entry
    c.in_ok-entry-in-Loop.exit c.in-Loop.do_part c.in-Loop.loop_part _ _
    (rw c.deref-in-Loop-3.ensures at c.in_ok-entry-in-Loop.ensures.trees.0) (rw c.deref-in-Loop-4.ensures at c.in_ok-entry-in-Loop.ensures.trees.1)
    (kept.0 ∙ c.in_ok-do_part-in-Loop.ensures.block ∙ ap (λ ss. block_in c.args.entries.now (names_of (in_sight c.args.sight.now)) (block_of ss))
    c.deref-in-Loop.ensures.value)
    (c.in_ok-loop_part-in-Loop.ensures.block ∙ ap (λ ss. block_in c.args.entries.now (names_of (in_sight c.args.sight.now)) (block_of ss))
    c.deref-in-Loop-2.ensures.value)
    ∙ ap (λ s. stm_in c.args.entries.now (names_of (in_sight c.args.sight.now)) (stm_of s)) (sym c.in-Loop.is)) c.add-in-Loop.ensures.tree

pub flat_block-returns-clause-numbered : goal.flat_block-returns-clause-numbered
flat_block-returns-clause-numbered g t c =
    always_ok c.add_block.result (λ b xs w p.
    subst (HaveNumbers xs) (sym c.add_block.ensures.statements) (c.loop-i.invariant.numbered xs (omega (arith, w, c.add_block.ensures.width)) p))

pub flat_statement-returns-in_ok-test-in-If-clause-numbered : goal.flat_statement-returns-in_ok-test-in-If-clause-numbered
flat_statement-returns-in_ok-test-in-If-clause-numbered g t c =
    let w : c.flat_block.new.draft.width ≤ c.flat_block-in-If.new.draft.width = c.in_ok-else_part-in-If.ensures.wider in
    let same : c.add-in-If.new.draft.width ≡ c.flat_block-in-If.new.draft.width = c.add-in-If.ensures.width in
    let older : c.args.draft.now.width ≤ c.flat_block.new.draft.width = c.in_ok-then_part-in-If.ensures.wider in
    if_ok c.add-in-If.result (λ n h xs l p.
    let le = fits (in_sight c.args.sight.now) xs c.args.draft.now.width c.add-in-If.new.draft.width c.requires.sight (omega (arith, w, same, older)) l in
    h xs (c.in_ok-else_part-in-If.ensures.numbered xs (omega (arith, l, same)) (c.in_ok-then_part-in-If.ensures.numbered xs (omega (arith, l, same, w)) p)) (
      exp_more (names_of (in_sight c.args.sight.now)) xs c.in_ok-test-in-If.test le c.in_ok-test-in-If.ensures.numbered.0,
      exp_more (names_of (in_sight c.args.sight.now)) xs c.in_ok-test-in-If.last le c.in_ok-test-in-If.ensures.numbered.1,
    )) c.add-in-If.ensures.numbered

pub flat_statement-returns-in_ok-entry-in-Loop-clause-numbered : goal.flat_statement-returns-in_ok-entry-in-Loop-clause-numbered
flat_statement-returns-in_ok-entry-in-Loop-clause-numbered g t c =
    let w : c.flat_block-in-Loop.new.draft.width ≤ c.flat_block-in-Loop-2.new.draft.width = c.in_ok-loop_part-in-Loop.ensures.wider in
    let same : c.add-in-Loop.new.draft.width ≡ c.flat_block-in-Loop-2.new.draft.width = c.add-in-Loop.ensures.width in
    let older : c.args.draft.now.width ≤ c.flat_block-in-Loop.new.draft.width = c.in_ok-do_part-in-Loop.ensures.wider in
    if_ok c.add-in-Loop.result (λ n h xs l p.
    let le = fits (in_sight c.args.sight.now) xs c.args.draft.now.width c.add-in-Loop.new.draft.width c.requires.sight (omega (arith, w, same, older)) l in
    h xs (c.in_ok-loop_part-in-Loop.ensures.numbered xs (omega (arith, l, same)) (c.in_ok-do_part-in-Loop.ensures.numbered xs (omega (arith, l, same, w)) p)) (
      exp_more (names_of (in_sight c.args.sight.now)) xs c.in_ok-entry-in-Loop.entry le c.in_ok-entry-in-Loop.ensures.numbered.0,
      exp_more (names_of (in_sight c.args.sight.now)) xs c.in_ok-entry-in-Loop.exit le c.in_ok-entry-in-Loop.ensures.numbered.1,
    ))
    c.add-in-Loop.ensures.numbered

pub flat_block-flat_statement-requires : goal.flat_block-flat_statement-requires
flat_block-flat_statement-requires g t c κs within =
    let s = c.index-block-i.result in
    let inside : c.loop-i.i < length c.args.block.now = omega arith in (
      omega (arith, c.decreases, one_lighter c.args.block.now c.loop-i.i s inside (sym c.index-block-i.is)),
      (
        within,
        (
          one_seen c.args.entries.now (in_sight c.args.sight.now) c.args.block.now c.loop-i.i s inside (sym c.index-block-i.is) c.requires.seen,
          (c.requires.small, (omega (arith, c.requires.sight, c.loop-i.invariant.wider), omega (arith, c.requires.entries, c.loop-i.invariant.wider))),
        ),
      ),
    )

pub flat_statement-flat_block-requires : goal.flat_statement-flat_block-requires
flat_statement-flat_block-requires g t c κs within =
    let parts = if_parts c.args.entries.now (in_sight c.args.sight.now) c.args.statement.now c.in-If.test c.in-If.last c.in-If.then_part c.in-If.else_part
    c.in-If.is c.requires.seen in
    let same = c.deref-in-If.ensures.value in (
      omega (arith, c.decreases, parts.first_lighter, ap (λ ss. block_weight (block_of ss)) same),
      (
        within,
        (
          subst (λ ss. SeesBlk c.args.entries.now (in_sight c.args.sight.now) (block_of ss)) (sym same) parts.first,
          (c.requires.small, (c.requires.sight, c.requires.entries)),
        ),
      ),
    )

pub flat_statement-flat_block-requires-in-If : goal.flat_statement-flat_block-requires-in-If
flat_statement-flat_block-requires-in-If g t c κs within =
    let parts = if_parts c.args.entries.now (in_sight c.args.sight.now) c.args.statement.now c.in-If.test c.in-If.last c.in-If.then_part c.in-If.else_part
    c.in-If.is c.requires.seen in
    let same = c.deref-in-If-2.ensures.value in (
      omega (arith, c.decreases, parts.second_lighter, ap (λ ss. block_weight (block_of ss)) same),
      (
        within,
        (
          subst (λ ss. SeesBlk c.args.entries.now (in_sight c.args.sight.now) (block_of ss)) (sym same) parts.second,
          (
            c.requires.small,
            (omega (arith, c.requires.sight, c.in_ok-then_part-in-If.ensures.wider), omega (arith, c.requires.entries, c.in_ok-then_part-in-If.ensures.wider)),
          ),
        ),
      ),
    )

pub flat_statement-flat_block-requires-in-Loop : goal.flat_statement-flat_block-requires-in-Loop
flat_statement-flat_block-requires-in-Loop g t c κs within =
    let parts = loop_parts c.args.entries.now (in_sight c.args.sight.now) c.args.statement.now c.in-Loop.entry c.in-Loop.exit c.in-Loop.do_part
    c.in-Loop.loop_part c.in-Loop.is c.requires.seen in
    let same = c.deref-in-Loop.ensures.value in (
      omega (arith, c.decreases, parts.first_lighter, ap (λ ss. block_weight (block_of ss)) same),
      (
        within,
        (
          subst (λ ss. SeesBlk c.args.entries.now (in_sight c.args.sight.now) (block_of ss)) (sym same) parts.first,
          (c.requires.small, (c.requires.sight, c.requires.entries)),
        ),
      ),
    )

pub flat_statement-flat_block-requires-in-Loop-2 : goal.flat_statement-flat_block-requires-in-Loop-2
flat_statement-flat_block-requires-in-Loop-2 g t c κs within =
    let parts = loop_parts c.args.entries.now (in_sight c.args.sight.now) c.args.statement.now c.in-Loop.entry c.in-Loop.exit c.in-Loop.do_part
    c.in-Loop.loop_part c.in-Loop.is c.requires.seen in
    let same = c.deref-in-Loop-2.ensures.value in (
      omega (arith, c.decreases, parts.second_lighter, ap (λ ss. block_weight (block_of ss)) same),
      (
        within,
        (
          subst (λ ss. SeesBlk c.args.entries.now (in_sight c.args.sight.now) (block_of ss)) (sym same) parts.second,
          (
            c.requires.small,
            (omega (arith, c.requires.sight, c.in_ok-do_part-in-Loop.ensures.wider), omega (arith, c.requires.entries, c.in_ok-do_part-in-Loop.ensures.wider)),
          ),
        ),
      ),
    )

pub flat_block-loop-i-preserved : goal.flat_block-loop-i-preserved
flat_block-loop-i-preserved g t c =
    let v = c.loop-i.invariant in
    let i = c.loop-i.i in
    let old = c.loop-i.draft in
    let new = c.flat_statement.new.draft in
    let one = c.in_ok-flat_statement.ensures in
    let n = c.in_ok-flat_statement.field-0 in
    let s = c.index-block-i.result in
    let ns = c.loop-i.numbers.items in
    let more = c.push.new.self.items in
    let grown = c.in_ok-push.ensures.items in
    let inside : i < length c.args.block.now = omega arith in
    let here : slice_get c.args.block.now i ≡ Some s = slice_get_read c.args.block.now (length c.args.block.now) i s refl inside c.index-block-i.is in
    record {
      as_many = omega (arith, ap length grown, length-append ns (n ∷ []), v.as_many);
      grows = search rules;
      below = row_below ns more n i (length old.statements.items) (length new.statements.items) grown v.as_many v.below one.grows.further one.below;
      trees = row_trees (λ s. stm_in c.args.entries.now (names_of (in_sight c.args.sight.now)) (stm_of s))
          (tree_at all_slots old.members.items old.statements.items) (tree_at all_slots new.members.items new.statements.items) ns more n i
          (length old.statements.items) c.args.block.now s grown v.as_many v.below (one.grows.trees all_slots) v.trees here one.tree;
      numbered = λ xs w p. one.numbered xs w (v.numbered xs (omega (arith, w, one.wider)) p);
      wider = omega (arith, v.wider, one.wider);
      width = omega (arith, v.width, one.width, open_more c.args.block.now i s c.index-block-i.is inside);
      inside = row_inside (length c.args.draft.now.statements.items) old.members.items new.members.items old.statements.items new.statements.items ns more n i
          one.grows grown v.as_many v.inside one.inside;
    }

pub flat_statement-flat_block-requires-in-LocalInt : goal.flat_statement-flat_block-requires-in-LocalInt
flat_statement-flat_block-requires-in-LocalInt g t c κs within =
    let part = local_int_part c.args.entries.now (in_sight c.args.sight.now) c.args.statement.now c.in-LocalInt.name c.in-LocalInt.field-3 c.in-LocalInt.first
    c.in-LocalInt.last c.in-LocalInt.block c.in-LocalInt.is c.requires.seen in
    let same = c.deref-in-LocalInt.ensures.value in
    let long = ap (λ (h : Shape). length h) c.local-inside.ensures.names in (
      omega (arith, c.decreases, part.lighter, ap (λ ss. block_weight (block_of ss)) same),
      (
        within,
        (
          subst (λ (h : Shape). SeesBlk c.args.entries.now h (block_of c.deref-in-LocalInt.result.now)) (sym c.local-inside.ensures.names)
              (subst (λ ss. SeesBlk c.args.entries.now ((name_of c.in-LocalInt.name, ANumber) ∷ in_sight c.args.sight.now) (block_of ss)) (sym same) part.block),
          (
            omega (arith, long, c.in_ok-symbol-in-LocalInt.ensures.small),
            (omega (arith, long, c.in_ok-symbol-in-LocalInt.ensures.width), omega (arith, c.requires.entries, c.in_ok-symbol-in-LocalInt.ensures.wider)),
          ),
        ),
      ),
    )

pub flat_statement-flat_block-requires-in-LocalStack : goal.flat_statement-flat_block-requires-in-LocalStack
flat_statement-flat_block-requires-in-LocalStack g t c κs within =
    let part = local_stack_part c.args.entries.now (in_sight c.args.sight.now) c.args.statement.now c.in-LocalStack.name c.in-LocalStack.field-2
    c.in-LocalStack.block c.in-LocalStack.is c.requires.seen in
    let same = c.deref-in-LocalStack.ensures.value in
    let long = ap (λ (h : Shape). length h) c.local-inside-in-LocalStack.ensures.names in (
      omega (arith, c.decreases, part.lighter, ap (λ ss. block_weight (block_of ss)) same),
      (
        within,
        (
          subst (λ (h : Shape). SeesBlk c.args.entries.now h (block_of c.deref-in-LocalStack.result.now)) (sym c.local-inside-in-LocalStack.ensures.names)
              (subst (λ ss. SeesBlk c.args.entries.now ((name_of c.in-LocalStack.name, AStack) ∷ in_sight c.args.sight.now) (block_of ss)) (sym same) part.block),
          (
            omega (arith, long, c.in_ok-symbol-in-LocalStack.ensures.small),
            (omega (arith, long, c.in_ok-symbol-in-LocalStack.ensures.width), omega (arith, c.requires.entries, c.in_ok-symbol-in-LocalStack.ensures.wider)),
          ),
        ),
      ),
    )

pub flat_statement-returns-in_ok-first-in-LocalInt-clause-tree : goal.flat_statement-returns-in_ok-first-in-LocalInt-clause-tree
flat_statement-returns-in_ok-first-in-LocalInt-clause-tree g t c =
    let g = names_of (in_sight c.args.sight.now) in
    if_ok c.add-in-LocalInt.result (λ n h.
    h all_slots ∙ local_int_flat c.args.entries.now g all_slots c.in-LocalInt.name c.in-LocalInt.field-3 c.in-LocalInt.first c.in-LocalInt.last
    _ c.in_ok-first-in-LocalInt.first c.in_ok-first-in-LocalInt.last c.in-LocalInt.block _
    c.in_ok-symbol-in-LocalInt.ensures.name (rw c.deref-in-LocalInt-2.ensures at c.in_ok-first-in-LocalInt.ensures.trees.0)
    (rw c.deref-in-LocalInt-3.ensures at c.in_ok-first-in-LocalInt.ensures.trees.1)
    (c.in_ok-block-in-LocalInt.ensures.block
    ∙ ap (λ (h : Shape). block_in c.args.entries.now (names_of h) (block_of c.deref-in-LocalInt.result.now)) c.local-inside.ensures.names
    ∙ ap (λ ss. block_in c.args.entries.now (name_of c.in-LocalInt.name ∷ g) (block_of ss))
    c.deref-in-LocalInt.ensures.value)
    ∙ ap (λ s. stm_in c.args.entries.now g (stm_of s)) (sym c.in-LocalInt.is)) c.add-in-LocalInt.ensures.tree

pub flat_statement-returns-in_ok-block-in-LocalStack-clause-tree : goal.flat_statement-returns-in_ok-block-in-LocalStack-clause-tree
flat_statement-returns-in_ok-block-in-LocalStack-clause-tree g t c =
    let g = names_of (in_sight c.args.sight.now) in
    if_ok c.add-in-LocalStack.result (λ n h.
    h all_slots ∙ local_stack_flat c.args.entries.now g c.in-LocalStack.name c.in-LocalStack.field-2 _ c.in-LocalStack.block _
    c.in_ok-symbol-in-LocalStack.ensures.name
    (c.in_ok-block-in-LocalStack.ensures.block
    ∙ ap (λ (h : Shape). block_in c.args.entries.now (names_of h) (block_of c.deref-in-LocalStack.result.now)) c.local-inside-in-LocalStack.ensures.names
    ∙ ap (λ ss. block_in c.args.entries.now (name_of c.in-LocalStack.name ∷ g) (block_of ss))
    c.deref-in-LocalStack.ensures.value)
    ∙ ap (λ s. stm_in c.args.entries.now g (stm_of s)) (sym c.in-LocalStack.is)) c.add-in-LocalStack.ensures.tree

pub flat_statement-returns-in_ok-first-in-LocalInt-clause-numbered : goal.flat_statement-returns-in_ok-first-in-LocalInt-clause-numbered
flat_statement-returns-in_ok-first-in-LocalInt-clause-numbered g t c =
    let w : c.local.new.draft.width ≤ c.flat_block-in-LocalInt.new.draft.width = c.in_ok-block-in-LocalInt.ensures.wider in
    let same : c.add-in-LocalInt.new.draft.width ≡ c.flat_block-in-LocalInt.new.draft.width = c.add-in-LocalInt.ensures.width in
    let older : c.args.draft.now.width ≤ c.local.new.draft.width = c.in_ok-symbol-in-LocalInt.ensures.wider in
    if_ok c.add-in-LocalInt.result (λ n h xs l p.
    let le = fits (in_sight c.args.sight.now) xs c.args.draft.now.width c.add-in-LocalInt.new.draft.width c.requires.sight (omega (arith, w, same, older)) l in
    h xs
    (c.in_ok-block-in-LocalInt.ensures.numbered xs (omega (arith, l, same)) (subst (HaveNumbers xs) (sym c.in_ok-symbol-in-LocalInt.ensures.statements) p)) (
      (omega (arith, c.in_ok-symbol-in-LocalInt.ensures.number, c.in_ok-symbol-in-LocalInt.ensures.width, w, same, l)),
      exp_more (names_of (in_sight c.args.sight.now)) xs c.in_ok-first-in-LocalInt.first le c.in_ok-first-in-LocalInt.ensures.numbered.0,
      exp_more (names_of (in_sight c.args.sight.now)) xs c.in_ok-first-in-LocalInt.last le c.in_ok-first-in-LocalInt.ensures.numbered.1,
    ))
    c.add-in-LocalInt.ensures.numbered

pub flat_statement-returns-in_ok-block-in-LocalStack-clause-numbered : goal.flat_statement-returns-in_ok-block-in-LocalStack-clause-numbered
flat_statement-returns-in_ok-block-in-LocalStack-clause-numbered g t c =
    let w : c.local-in-LocalStack.new.draft.width ≤ c.flat_block-in-LocalStack.new.draft.width = c.in_ok-block-in-LocalStack.ensures.wider in
    let same : c.add-in-LocalStack.new.draft.width ≡ c.flat_block-in-LocalStack.new.draft.width = c.add-in-LocalStack.ensures.width in
    let older : c.args.draft.now.width ≤ c.local-in-LocalStack.new.draft.width = c.in_ok-symbol-in-LocalStack.ensures.wider in
    if_ok c.add-in-LocalStack.result (λ n h xs l p.
    let le = fits (in_sight c.args.sight.now) xs c.args.draft.now.width c.add-in-LocalStack.new.draft.width c.requires.sight (omega (arith, w, same, older))
    l in
    h xs (c.in_ok-block-in-LocalStack.ensures.numbered xs (omega (arith, l, same))
    (subst (HaveNumbers xs) (sym c.in_ok-symbol-in-LocalStack.ensures.statements) p))
    (omega (arith, c.in_ok-symbol-in-LocalStack.ensures.number, c.in_ok-symbol-in-LocalStack.ensures.width, w, same, l))) c.add-in-LocalStack.ensures.numbered

pub flat_statement-returns-in_ok-exp-in-Assign-clause-numbered : goal.flat_statement-returns-in_ok-exp-in-Assign-clause-numbered
flat_statement-returns-in_ok-exp-in-Assign-clause-numbered g t c =
    let g = names_of (in_sight c.args.sight.now) in
    if_ok c.add-in-Assign.result (λ n h xs l p.
    let le = fits (in_sight c.args.sight.now) xs c.args.draft.now.width c.add-in-Assign.new.draft.width c.requires.sight
    (omega (arith, c.add-in-Assign.ensures.width)) l in
    h xs p ((omega (arith, c.symbol-name.ensures.numbered, le)), exp_more g xs c.in_ok-exp-in-Assign.exp le c.in_ok-exp-in-Assign.ensures.numbered))
    c.add-in-Assign.ensures.numbered

pub flat_statement-returns-in_ok-index-in-AssignElement-clause-numbered : goal.flat_statement-returns-in_ok-index-in-AssignElement-clause-numbered
flat_statement-returns-in_ok-index-in-AssignElement-clause-numbered g t c =
    let g = names_of (in_sight c.args.sight.now) in
    if_ok c.add-in-AssignElement.result (λ n h xs l p.
    let le = fits (in_sight c.args.sight.now) xs c.args.draft.now.width c.add-in-AssignElement.new.draft.width c.requires.sight
    (omega (arith, c.add-in-AssignElement.ensures.width)) l in
    h xs p (
      (omega (arith, c.symbol-name-in-AssignElement.ensures.numbered, le)),
      exp_more g xs c.in_ok-index-in-AssignElement.index le c.in_ok-index-in-AssignElement.ensures.numbered.0,
      exp_more g xs c.in_ok-index-in-AssignElement.exp le c.in_ok-index-in-AssignElement.ensures.numbered.1,
    )) c.add-in-AssignElement.ensures.numbered

pub flat_statement-returns-in-Push-clause-numbered : goal.flat_statement-returns-in-Push-clause-numbered
flat_statement-returns-in-Push-clause-numbered g t c =
    let g = names_of (in_sight c.args.sight.now) in
    if_ok c.add-in-Push.result (λ n h xs l p.
    let le = fits (in_sight c.args.sight.now) xs c.args.draft.now.width c.add-in-Push.new.draft.width c.requires.sight
    (omega (arith, c.add-in-Push.ensures.width)) l in
    h xs p ((omega (arith, c.symbol-variable.ensures.numbered, le)), (omega (arith, c.symbol-stack.ensures.numbered, le)))) c.add-in-Push.ensures.numbered

pub flat_statement-returns-in-Pop-clause-numbered : goal.flat_statement-returns-in-Pop-clause-numbered
flat_statement-returns-in-Pop-clause-numbered g t c =
    let g = names_of (in_sight c.args.sight.now) in
    if_ok c.add-in-Pop.result (λ n h xs l p.
    let le = fits (in_sight c.args.sight.now) xs c.args.draft.now.width c.add-in-Pop.new.draft.width c.requires.sight
    (omega (arith, c.add-in-Pop.ensures.width)) l in
    h xs p ((omega (arith, c.symbol-variable-in-Pop.ensures.numbered, le)), (omega (arith, c.symbol-stack-in-Pop.ensures.numbered, le))))
    c.add-in-Pop.ensures.numbered

pub flat_statement-returns-in-Swap-clause-numbered : goal.flat_statement-returns-in-Swap-clause-numbered
flat_statement-returns-in-Swap-clause-numbered g t c =
    let g = names_of (in_sight c.args.sight.now) in
    if_ok c.add-in-Swap.result (λ n h xs l p.
    let le = fits (in_sight c.args.sight.now) xs c.args.draft.now.width c.add-in-Swap.new.draft.width c.requires.sight
    (omega (arith, c.add-in-Swap.ensures.width)) l in
    h xs p ((omega (arith, c.symbol-one.ensures.numbered, le)), (omega (arith, c.symbol-other.ensures.numbered, le)))) c.add-in-Swap.ensures.numbered

pub flat_statement-returns-in_ok-arguments-in-Call-clause-numbered : goal.flat_statement-returns-in_ok-arguments-in-Call-clause-numbered
flat_statement-returns-in_ok-arguments-in-Call-clause-numbered g t c =
    let g = names_of (in_sight c.args.sight.now) in
    if_ok c.add-in-Call.result (λ n h xs l p.
    let le = fits (in_sight c.args.sight.now) xs c.args.draft.now.width c.add-in-Call.new.draft.width c.requires.sight
    (omega (arith, c.add-in-Call.ensures.width)) l in
    h xs p (
      omega (arith, c.entry-called.ensures.numbered, c.requires.entries, c.add-in-Call.ensures.width, l),
      symbols_more g xs c.in_ok-arguments-in-Call.arguments.items le c.in_ok-arguments-in-Call.ensures.numbered,
    )) c.add-in-Call.ensures.numbered

pub flat_statement-returns-in_ok-arguments-in-Uncall-clause-numbered : goal.flat_statement-returns-in_ok-arguments-in-Uncall-clause-numbered
flat_statement-returns-in_ok-arguments-in-Uncall-clause-numbered g t c =
    let g = names_of (in_sight c.args.sight.now) in
    if_ok c.add-in-Uncall.result (λ n h xs l p.
    let le = fits (in_sight c.args.sight.now) xs c.args.draft.now.width c.add-in-Uncall.new.draft.width c.requires.sight
    (omega (arith, c.add-in-Uncall.ensures.width)) l in
    h xs p (
      omega (arith, c.entry-called-in-Uncall.ensures.numbered, c.requires.entries, c.add-in-Uncall.ensures.width, l),
      symbols_more g xs c.in_ok-arguments-in-Uncall.arguments.items le c.in_ok-arguments-in-Uncall.ensures.numbered,
    )) c.add-in-Uncall.ensures.numbered

pub flat_block-returns-clause-grows : goal.flat_block-returns-clause-grows
flat_block-returns-clause-grows g t c =
    if_ok c.add_block.result (λ b h.
    grows_on c.args.draft.now.members.items c.loop-i.draft.members.items c.add_block.new.draft.members.items c.args.draft.now.statements.items
    c.loop-i.draft.statements.items c.add_block.new.draft.statements.items c.loop-i.invariant.grows h)
    c.add_block.ensures.grows

pub flat_block-returns-clause-width : goal.flat_block-returns-clause-width
flat_block-returns-clause-width g t c =
    let v = c.loop-i.invariant in
    let none = ap (λ ss. open_in_block (block_of ss)) (drop_all c.loop-i.i c.args.block.now (omega arith)) in
    always_ok c.add_block.result (λ b. omega (arith, none, v.width, v.wider, c.add_block.ensures.width, c.requires.sight))

pub flat_statement-returns-in_ok-test-in-If-clause-width : goal.flat_statement-returns-in_ok-test-in-If-clause-width
flat_statement-returns-in_ok-test-in-If-clause-width g t c =
    let most = open_if c.args.statement.now c.in-If.test c.in-If.last c.in-If.then_part c.in-If.else_part
    c.deref-in-If.result.now c.deref-in-If-2.result.now c.in-If.is c.deref-in-If.ensures.value c.deref-in-If-2.ensures.value in
    always_ok c.add-in-If.result (λ n.
    omega (arith, most, c.in_ok-then_part-in-If.ensures.width, c.in_ok-else_part-in-If.ensures.width, c.add-in-If.ensures.width))

pub flat_statement-returns-in_ok-entry-in-Loop-clause-width : goal.flat_statement-returns-in_ok-entry-in-Loop-clause-width
flat_statement-returns-in_ok-entry-in-Loop-clause-width g t c =
    let most = open_loop c.args.statement.now c.in-Loop.entry c.in-Loop.exit c.in-Loop.do_part c.in-Loop.loop_part
    c.deref-in-Loop.result.now c.deref-in-Loop-2.result.now c.in-Loop.is c.deref-in-Loop.ensures.value c.deref-in-Loop-2.ensures.value in
    always_ok c.add-in-Loop.result (λ n.
    omega (arith, most, c.in_ok-do_part-in-Loop.ensures.width, c.in_ok-loop_part-in-Loop.ensures.width, c.add-in-Loop.ensures.width))

pub flat_statement-returns-in_ok-first-in-LocalInt-clause-width : goal.flat_statement-returns-in_ok-first-in-LocalInt-clause-width
flat_statement-returns-in_ok-first-in-LocalInt-clause-width g t c =
    let most = open_local_int c.args.statement.now c.in-LocalInt.name c.in-LocalInt.field-3 c.in-LocalInt.first c.in-LocalInt.last c.in-LocalInt.block
    c.deref-in-LocalInt.result.now c.in-LocalInt.is c.deref-in-LocalInt.ensures.value in
    let long = ap (λ (h : Shape). length h) c.local-inside.ensures.names in
    always_ok c.add-in-LocalInt.result (λ n.
    omega (arith, most, long, c.in_ok-symbol-in-LocalInt.ensures.width, c.in_ok-block-in-LocalInt.ensures.width, c.add-in-LocalInt.ensures.width))

pub flat_statement-returns-in_ok-block-in-LocalStack-clause-width : goal.flat_statement-returns-in_ok-block-in-LocalStack-clause-width
flat_statement-returns-in_ok-block-in-LocalStack-clause-width g t c =
    let most = open_local_stack c.args.statement.now c.in-LocalStack.name c.in-LocalStack.field-2 c.in-LocalStack.block
    c.deref-in-LocalStack.result.now c.in-LocalStack.is c.deref-in-LocalStack.ensures.value in
    let long = ap (λ (h : Shape). length h) c.local-inside-in-LocalStack.ensures.names in
    always_ok c.add-in-LocalStack.result (λ n.
    omega (arith, most, long, c.in_ok-symbol-in-LocalStack.ensures.width, c.in_ok-block-in-LocalStack.ensures.width, c.add-in-LocalStack.ensures.width))

pub flat_block-returns-clause-inside : goal.flat_block-returns-clause-inside
flat_block-returns-clause-inside g t c =
    let d = c.loop-i.draft in
    let v = c.loop-i.invariant in
    let ns = c.deref.result.now in
    let long : c.loop-i.i ≤ length ns = omega (arith, ap length c.deref.ensures.value, v.as_many) in
    let listed : AreInsideFrom (length c.args.draft.now.statements.items) d.members.items d.statements.items (IsListed ns c.loop-i.i) =
    subst (λ (ns : List ℕ). AreInsideFrom (length c.args.draft.now.statements.items) d.members.items d.statements.items (IsListed ns c.loop-i.i))
    (sym c.deref.ensures.value) v.inside in
    if_both c.add_block.result (λ b g members.
    row_reached (length c.args.draft.now.statements.items) d.members.items c.add_block.new.draft.members.items d.statements.items
    c.add_block.new.draft.statements.items ns c.loop-i.i b g c.add_block.ensures.statements long listed members)
    c.add_block.ensures.grows c.add_block.ensures.members

pub flat_statement-returns-in_ok-test-in-If-clause-inside : goal.flat_statement-returns-in_ok-test-in-If-clause-inside
flat_statement-returns-in_ok-test-in-If-clause-inside g t c =
    let d = c.flat_block.new.draft in
    let e = c.flat_block-in-If.new.draft in
    let f = c.add-in-If.new.draft in
    if_three c.add-in-If.result (λ n g alone held.
    both_inside (length c.args.draft.now.statements.items) d.members.items e.members.items f.members.items d.statements.items e.statements.items
    f.statements.items c.in_ok-then_part-in-If.then_part c.in_ok-else_part-in-If.else_part n c.in_ok-else_part-in-If.ensures.grows g
    c.in_ok-then_part-in-If.ensures.inside c.in_ok-else_part-in-If.ensures.inside alone held)
    c.add-in-If.ensures.grows c.add-in-If.ensures.alone c.add-in-If.ensures.inside

pub flat_statement-returns-in_ok-entry-in-Loop-clause-inside : goal.flat_statement-returns-in_ok-entry-in-Loop-clause-inside
flat_statement-returns-in_ok-entry-in-Loop-clause-inside g t c =
    let d = c.flat_block-in-Loop.new.draft in
    let e = c.flat_block-in-Loop-2.new.draft in
    let f = c.add-in-Loop.new.draft in
    if_three c.add-in-Loop.result (λ n g alone held.
    both_inside (length c.args.draft.now.statements.items) d.members.items e.members.items f.members.items d.statements.items e.statements.items
    f.statements.items c.in_ok-do_part-in-Loop.do_part c.in_ok-loop_part-in-Loop.loop_part n c.in_ok-loop_part-in-Loop.ensures.grows g
    c.in_ok-do_part-in-Loop.ensures.inside c.in_ok-loop_part-in-Loop.ensures.inside alone held)
    c.add-in-Loop.ensures.grows c.add-in-Loop.ensures.alone c.add-in-Loop.ensures.inside

pub flat_statement-returns-in_ok-first-in-LocalInt-clause-inside : goal.flat_statement-returns-in_ok-first-in-LocalInt-clause-inside
flat_statement-returns-in_ok-first-in-LocalInt-clause-inside g t c =
    let d = c.flat_block-in-LocalInt.new.draft in
    let e = c.add-in-LocalInt.new.draft in
    let p = c.in_ok-block-in-LocalInt.block in
    let first : AreInsideFrom (length c.args.draft.now.statements.items) d.members.items d.statements.items (IsMember d.members.items p) =
    subst (λ (ss : List Statement). AreInsideFrom (length ss) d.members.items d.statements.items (IsMember d.members.items p))
    c.in_ok-symbol-in-LocalInt.ensures.statements c.in_ok-block-in-LocalInt.ensures.inside in
    if_three c.add-in-LocalInt.result (λ n g alone held.
    one_inside (length c.args.draft.now.statements.items) d.members.items e.members.items d.statements.items e.statements.items p n g first alone held)
    c.add-in-LocalInt.ensures.grows c.add-in-LocalInt.ensures.alone c.add-in-LocalInt.ensures.inside

pub flat_statement-returns-in_ok-block-in-LocalStack-clause-inside : goal.flat_statement-returns-in_ok-block-in-LocalStack-clause-inside
flat_statement-returns-in_ok-block-in-LocalStack-clause-inside g t c =
    let d = c.flat_block-in-LocalStack.new.draft in
    let e = c.add-in-LocalStack.new.draft in
    let p = c.in_ok-block-in-LocalStack.block in
    let first : AreInsideFrom (length c.args.draft.now.statements.items) d.members.items d.statements.items (IsMember d.members.items p) =
    subst (λ (ss : List Statement). AreInsideFrom (length ss) d.members.items d.statements.items (IsMember d.members.items p))
    c.in_ok-symbol-in-LocalStack.ensures.statements c.in_ok-block-in-LocalStack.ensures.inside in
    if_three c.add-in-LocalStack.result (λ n g alone held.
    one_inside (length c.args.draft.now.statements.items) d.members.items e.members.items d.statements.items e.statements.items p n g first alone held)
    c.add-in-LocalStack.ensures.grows c.add-in-LocalStack.ensures.alone c.add-in-LocalStack.ensures.inside
