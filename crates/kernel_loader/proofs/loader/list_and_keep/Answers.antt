use Rattle.std.proofs.Common.{◌≡◌, ◌≤◌, ℕ, List, map, take, refl, sym, ap, ◌∙◌, subst, inr, arith}
use Rattle.janus_meaning.specs.Syntax.{Proc}
use Rattle.janus_slots.specs.Law.{AreListed}
use Rattle.janus_syntax.specs.Tree as tree
use Rattle.janus_syntax.specs.Tree.{cell_view, procedures_view}
use Rattle.janus_syntax.specs.View.{plain_cell, plain_procedure}
use Rattle.kernel_runner.specs.Bodies.{AreBelow}
use Rattle.kernel_runner.specs.Procedures.{kept_in}
use Rattle.kernel_loader.specs.Loading.{AddNamesOf}
use Rattle.kernel_loader.proofs.Named.{few_listed}
use Rattle.kernel_loader.proofs.Made.{all_kept, shows_more, bodies_within}
use Rattle.kernel_loader.proofs.loader.list_and_keep.Goals as goal

pub make-requires : goal.make-requires
make-requires g c =
    let s = c.requires in
    let same : map plain_procedure (procedures_view c.deref.result.now) ≡ (plain_cell (cell_view c.args.cell)).procedures =
    ap (λ l. map plain_procedure (procedures_view l)) c.deref.ensures.value in
    record {
      shows = (
        s.0,
        shows_more c.args.runner.now _ s.0 refl c.list_all.ensures.onward
            (all_kept (kept_in c.args.runner.now.procedures) (kept_in c.args.runner.now.procedures) refl) (λ d. d) s.2 s.1,
        s.2,
      );
      listed = subst (λ (ps : List Proc). AreListed c.list_all.new.entries ps) same c.in-Ok.ensures.listed;
    }

pub returns-clause-accepts : goal.returns-clause-accepts
returns-clause-accepts g c = λ shown is sound text read.
    c.in-Ok-make.ensures.accepts shown
    (shows_more c.args.runner.now _ shown refl c.list_all.ensures.onward
    (all_kept (kept_in c.args.runner.now.procedures) (kept_in c.args.runner.now.procedures) refl) (λ d. d) sound is)
    sound text read

pub returns-clause-same : goal.returns-clause-same
returns-clause-same g c = ap plain_cell c.in-Ok-make.ensures.same

pub returns-clause-ready : goal.returns-clause-ready
returns-clause-ready g c =
    c.in-Ok-make.ensures.ready c.args.runner.now.procedures c.keep_all.new.kept _ c.in-Ok-keep_all.ensures.kept
    (record { tree = c.in-Ok-make.ensures.same; code = refl; bodies = c.len-first.ensures })

pub returns-in_default-clause-shown : goal.returns-in_default-clause-shown
returns-in_default-clause-shown g c = λ shown sound is.
    shows_more c.args.runner.now _ shown refl c.list_all.ensures.onward
    (all_kept (kept_in c.args.runner.now.procedures) (kept_in c.args.runner.now.procedures) refl) (λ d. d) sound is

pub returns-in-Err-clause-shown : goal.returns-in-Err-clause-shown
returns-in-Err-clause-shown g c = λ shown sound is.
    shows_more c.args.runner.now _ shown refl c.list_all.ensures.onward
    (all_kept (kept_in c.args.runner.now.procedures) (kept_in c.args.runner.now.procedures) refl) (λ d. d) sound is

pub returns-in-Err-clause-refuses : goal.returns-in-Err-clause-refuses
returns-in-Err-clause-refuses g c = λ shown is sound text read. c.in-Err.ensures.refuses shown
    (shows_more c.args.runner.now _ shown refl c.list_all.ensures.onward
    (all_kept (kept_in c.args.runner.now.procedures) (kept_in c.args.runner.now.procedures) refl) (λ d. d) sound is)
    sound text read

pub returns-clause-shown : goal.returns-clause-shown
returns-clause-shown g c = λ shown sound is.
    shows_more c.args.runner.now _ shown refl c.list_all.ensures.onward c.keep_all.ensures.older (λ d. c.keep_all.ensures.defined shown.bodies d) sound is

pub returns-in_default-keep_all-clause-shown : goal.returns-in_default-keep_all-clause-shown
returns-in_default-keep_all-clause-shown g c = λ shown sound h.
    let same : kept_in c.forget.new.self ≡ kept_in c.args.runner.now.procedures =
    c.forget.ensures.kept ∙ ap (λ (n : ℕ). take n (kept_in c.keep_all.new.kept)) c.len-first.ensures ∙ c.keep_all.ensures.older in
    let below : AreBelow c.len-first.result shown.bodies =
    subst (λ (n : ℕ). AreBelow n shown.bodies) (sym c.len-first.ensures)
    (bodies_within (kept_in c.args.runner.now.procedures) shown.bodies _ h.0.defined.bodies) in
    shows_more c.args.runner.now _ shown refl c.list_all.ensures.onward
    (all_kept (kept_in c.args.runner.now.procedures) (kept_in c.forget.new.self) same)
    (λ d. c.forget.ensures.defined shown.bodies (c.keep_all.ensures.defined shown.bodies d) below) sound h

pub returns-clause-only : goal.returns-clause-only
returns-clause-only g c =
    let same : map plain_procedure (procedures_view c.deref.result.now) ≡ (plain_cell (cell_view c.args.cell)).procedures =
    ap (λ l. map plain_procedure (procedures_view l)) c.deref.ensures.value in
    subst (λ (ps : List Proc). AddNamesOf c.args.runner.now.entries c.list_all.new.entries ps) same c.list_all.ensures.only

pub returns-in_default-keep_all-clause-only : goal.returns-in_default-keep_all-clause-only
returns-in_default-keep_all-clause-only g c =
    let same : map plain_procedure (procedures_view c.deref.result.now) ≡ (plain_cell (cell_view c.args.cell)).procedures =
    ap (λ l. map plain_procedure (procedures_view l)) c.deref.ensures.value in
    subst (λ (ps : List Proc). AddNamesOf c.args.runner.now.entries c.list_all.new.entries ps) same c.list_all.ensures.only

pub returns-clause-few : goal.returns-clause-few
returns-clause-few g c = λ shown is sound text read.
    let same : map plain_procedure (procedures_view c.deref.result.now) ≡ (plain_cell (cell_view c.args.cell)).procedures =
    ap (λ l. map plain_procedure (procedures_view l)) c.deref.ensures.value in
    let accepts = c.in-Ok-make.ensures.accepts shown
    (shows_more c.args.runner.now _ shown refl c.list_all.ensures.onward
    (all_kept (kept_in c.args.runner.now.procedures) (kept_in c.args.runner.now.procedures) refl) (λ d. d) sound is)
    sound text read in (
      (plain_cell (cell_view c.args.cell)).procedures,
      inr (plain_cell (cell_view c.in-Ok-make.made.cell), accepts, ap (λ (t : tree.Cell). (plain_cell t).procedures) c.in-Ok-make.ensures.same),
      λ n places more. c.keep_all.ensures.few n places
          (λ i b at. (let low = c.in-Ok-make.ensures.few i b at in
          let few = few_listed c.args.runner.now.entries c.list_all.new.entries c.deref.result.now (plain_cell (cell_view c.args.cell)).procedures n same
          c.list_all.ensures.few more in
          omega (arith, low, few))),
    )

pub returns-in_default-keep_all-clause-few : goal.returns-in_default-keep_all-clause-few
returns-in_default-keep_all-clause-few g c = λ shown is sound text read.
    let same : map plain_procedure (procedures_view c.deref.result.now) ≡ (plain_cell (cell_view c.args.cell)).procedures =
    ap (λ l. map plain_procedure (procedures_view l)) c.deref.ensures.value in
    let accepts = c.in-Ok-make.ensures.accepts shown
    (shows_more c.args.runner.now _ shown refl c.list_all.ensures.onward
    (all_kept (kept_in c.args.runner.now.procedures) (kept_in c.args.runner.now.procedures) refl) (λ d. d) sound is)
    sound text read in (
      (plain_cell (cell_view c.args.cell)).procedures,
      inr (plain_cell (cell_view c.in-Ok-make.made.cell), accepts, ap (λ (t : tree.Cell). (plain_cell t).procedures) c.in-Ok-make.ensures.same),
      λ n places more. subst (λ (k : ℕ). k ≤ n) (sym c.forget.ensures.places)
          (c.keep_all.ensures.few n places
          (λ i b at. (let low = c.in-Ok-make.ensures.few i b at in
          let few = few_listed c.args.runner.now.entries c.list_all.new.entries c.deref.result.now (plain_cell (cell_view c.args.cell)).procedures n same
          c.list_all.ensures.few more in
          omega (arith, low, few)))),
    )
