-- Entering a cell, its inverse, and leaving it: names are declared and procedures defined, and taken back.
use Rattle.std.proofs.Common.{◌≡◌, ℕ, ◌+◌, ◌≤◌, false, List, [], ◌∷◌, ◌++◌, length, refl, sym, ap, ◌∙◌, subst, arith}
use Rattle.std.proofs.lemmas.List.{length-map}
use Rattle.janus_meaning.specs.Fault.{Broken}
use Rattle.janus_meaning.specs.Syntax.{Name, Blk, Proc, inverse_block}
use Rattle.janus_meaning.specs.Meaning.{Block}
use Rattle.janus_meaning.specs.Cells.{around}
use Rattle.janus_meaning.proofs.Safe.{well_formed_is_safe}
use Rattle.janus_slots.specs.Slots.{names_in, procedure_in, procedures_in}
use Rattle.janus_slots.specs.Law.{AreListed}
use Rattle.janus_slots.proofs.Laws.{runs_are_the_same, slots_stay}
use Rattle.janus_slots.proofs.Whole.{names_size, size_same, stacks_same}
use Rattle.janus_meaning.specs.Store.{Store}
use Rattle.janus_meaning.specs.Shape.{Shape, Heads, shape_of, heads_of}
use Rattle.janus_meaning.specs.Formed.{IsBlk}
use Rattle.janus_meaning.specs.FormedWorld.{with_heads}
use Rattle.janus_meaning.specs.Stepping.{Frame, Place, BeforeBlock, AfterBlock, BeforeOne, AfterOne, To, frames_of, live}
use Rattle.janus_meaning.specs.World.{World, Cell, entered, declare, define, stacks_in, size_of}
use Rattle.janus_meaning.proofs.Worlds.{worlds_reverse, entered_is_good}
use Rattle.janus_meaning.proofs.FormedWorlds.{shape_declared, entered_formed}
use Rattle.janus_machine.specs.FrameCalls.{Caller, stacks_lent, own_names}
use Rattle.janus_machine.specs.StoreState.{StoreState, IsWhole, shown_store, live_stacks}
use Rattle.janus_machine.specs.LinearOpen.{locals_in}
use Rattle.janus_machine.specs.Within.{within}
use Rattle.janus_machine.specs.Bodies.{AreDefined, AreBodiesFrom, Define, onto}
use Rattle.janus_machine.specs.Procedures.{kept_in}
use Rattle.janus_machine.specs.Cursors.{outside_of, place_in, place_of, IsStanding}
use Rattle.janus_machine.specs.Cursor.{calls_of}
use Rattle.janus_machine.specs.Law.{NeverBroken}
use Rattle.janus_machine.specs.Nested.{AreOpenCalls}
use Rattle.janus_machine.specs.Open.{HaveLocals, Agrees}
use Rattle.janus_machine.specs.Places.{block_in, names_under}
use Rattle.janus_machine.specs.declared.linked_code.LinkedCode.{LinkedCode}
use Rattle.janus_machine.specs.declared.direction.Direction.{Direction}
use Rattle.janus_machine.specs.declared.direction.Direction.TheVariants.{Forward, Inverse}
use Rattle.janus_machine.specs.declared.cursor.Call.{Call}
use Rattle.janus_machine.specs.declared.cursor.Cursor.{Cursor}
use Rattle.janus_machine.specs.declared.procedures.Procedures.{Procedures}
use Rattle.janus_machine.proofs.BodiesInEffect.{all_defined, all_retired, bodies_from_same}
use Rattle.janus_machine.proofs.Courses.{blocks_are_safe, books_turn}
use Rattle.kernel_machine.specs.Language.{CodeExec, IsFormed, IsSound}
use Rattle.kernel_runner.specs.Program.{cell_of_program, procedures_of, IsReady, with_bodies}
use Rattle.kernel_runner.specs.Runner.{ShownWorld, Becomes, block_of, slots_of, Stands, entry, inverse_entry, Is, Between, CanEnter, CanReturn, CanLeave}
use Rattle.kernel_runner.specs.declared.program.Program.{Program}
use Rattle.kernel_runner.specs.declared.runner.Runner.{Runner}
use Rattle.kernel_runner.proofs.Growing.{no_more, same_more, ready_grows}
use Rattle.kernel_runner.proofs.Slotted.{IsStoreOf, whole_is}
use Rattle.kernel_machine.proofs.LanguageLaws.{sound_good}

-- ---- before the first step nothing is open

no_calls : (t : Procedures) (b : LinkedCode) (d : Direction) (cs : List Call) (hs : List Caller) → hs ≡ [] → AreOpenCalls t b d cs hs → cs ≡ []
no_calls t b d [] hs e h = refl
no_calls t b d (c ∷ cs) [] e h = absurd h
no_calls t b d (c ∷ cs) (x ∷ hs) e h = cc

frames_within : (us : List Frame) (p : Place) → frames_of (within us p) ≡ frames_of p ++ us
frames_within us (BeforeBlock b fs) = refl
frames_within us (AfterBlock b fs) = refl
frames_within us (BeforeOne c before after fs) = refl
frames_within us (AfterOne c before after fs) = refl

none_in_front : (fs us : List Frame) → fs ++ us ≡ [] → fs ≡ []
none_in_front [] us e = refl
none_in_front (f ∷ fs) us e = cc

pub agrees_before : (k : ℕ) (t : Procedures) (b : LinkedCode) (c : Cursor) (h : StoreState) (blk : Blk) → IsWhole h → stacks_in h.slots ≡ k →
    names_under b ≡ h.declared → IsStanding t b c h → place_of t b c h.callers ≡ BeforeBlock blk [] → Agrees k t b c h
agrees_before k t b c h blk whole stacks names standing place =
    let frames : frames_of (place_in t b c) ++ outside_of t b c h.callers ≡ [] =
    sym (frames_within (outside_of t b c h.callers) (place_in t b c)) ∙ ap frames_of place in
    let none : frames_of (place_in t b c) ≡ [] = none_in_front (frames_of (place_in t b c)) (outside_of t b c h.callers) frames in
    let lent : stacks_lent h.callers ≡ 0 = ap stacks_lent whole.callers in
    let own : own_names h.declared h.callers ≡ h.declared = ap (own_names h.declared) whole.callers in
    let locals : locals_in (frames_of (place_in t b c)) ≡ 0 = ap locals_in none in
    let declared = whole.declared in
    record {
      stacks = (let e : live_stacks h ≡ k = omega arith in e) ∙ sym (ap (live k) (ap frames_of place));
      size = omega arith;
      names = names;
      callers = subst (λ (cs : List Call). HaveLocals t b h.declared c.direction cs h.callers)
          (sym (no_calls t b c.direction (calls_of c) h.callers whole.callers standing.calls)) tt;
    }

-- ---- entering a cell

-- code that runs over as many names as a store has runs over those that are declared there
as_many_names : (s : Store) (n d : ℕ) → n ≡ length (names_in s) → d ≡ size_of s → n ≡ d
as_many_names s n d names declared = names ∙ names_size s ∙ sym declared

heads_defined : (more ps : List Proc) → heads_of (define more ps) ≡ with_heads (heads_of ps) more
heads_defined [] ps = refl
heads_defined (p ∷ more) ps = heads_defined more (p ∷ ps)

never_broken : (entries : List Name) (cell : Cell) (w : World) → IsSound w → IsFormed cell w → AreListed entries (entered cell w).procedures →
    NeverBroken (procedures_in entries (entered cell w).procedures) (stacks_in (entered cell w).store) (block_of entries cell.block (entered cell w))
    (slots_of (entered cell w))
never_broken entries cell w sound formed listed =
    let start : World = entered cell w in
    (blocks_are_safe (procedures_in entries start.procedures) (stacks_in start.store) (block_of entries cell.block start) (slots_of start)).no_stop (λ n stop.
    well_formed_is_safe (around start) n (Block cell.block) start.store Broken (entered_formed cell w sound.formed formed.formed).procedures
    (subst (λ (hs : Heads). IsBlk hs (shape_of start.store) cell.block) (sym (heads_defined cell.procedures w.procedures))
    (subst (λ (g : Shape). IsBlk (with_heads (heads_of w.procedures) cell.procedures) g cell.block) (sym (shape_declared cell.declarations w.store))
    formed.formed.block))
    ((runs_are_the_same entries (around start) cell.block start.store n listed).stopped Broken stop))

-- ---- a table of procedures' names that goes on

listed_more : (es : List Name) (more ps : List Proc) → AreListed es more → AreListed es ps → AreListed es (define more ps)
listed_more es [] ps h k = k
listed_more es (p ∷ more) ps h k = listed_more es more (p ∷ ps) h.1 (h.0, k)

listed_less : (es : List Name) (more ps : List Proc) → AreListed es (define more ps) → AreListed es ps
listed_less es [] ps h = h
listed_less es (p ∷ more) ps h = (listed_less es more (p ∷ ps) h).1

defined_in_slots : (es : List Name) (more ps : List Proc) → procedures_in es (define more ps) ≡ define (procedures_in es more) (procedures_in es ps)
defined_in_slots es [] ps = refl
defined_in_slots es (p ∷ more) ps = defined_in_slots es more (p ∷ ps)

-- the bodies of a program stay where they are, and its code as it is, where as many bodies are kept
ready_still : {L : Type 0} (old new : Runner L) (sight : List Name) (program : Program) → new.entries ≡ old.entries →
    kept_in new.procedures ≡ kept_in old.procedures → IsReady old.entries sight old.procedures program → IsReady new.entries sight new.procedures program
ready_still old new sight program entries kept h =
    let more = ready_grows old.entries new.entries (same_more old.entries new.entries entries) sight old.procedures program h in
    record {
      meant = more.meant;
      names = more.names;
      within = subst (λ bodies. program.first + length (procedures_of program) ≤ length bodies) (sym kept) more.within;
      bodies = λ es onward. bodies_from_same (kept_in old.procedures) (kept_in new.procedures) program.first
          (procedures_in es (procedures_of program)) kept (more.bodies es onward);
    }

-- what a cursor promises before a block
pub record IsBefore (cursor : Cursor) (book : LinkedCode) (blk : Blk) : Type 0 where
  pub stands : (t : Procedures) (h : StoreState) → h.callers ≡ [] → IsStanding t book cursor h
  pub place : (t : Procedures) (hs : List Caller) → place_of t book cursor hs ≡ BeforeBlock blk []
  pub counts : (cursor.count ≡ 0) × (cursor.turned ≡ false)

pub entered_here : {L : Type 0} (old new : Runner L) (program : Program) (from : ShownWorld) → CanEnter old program from →
    Becomes old.counted.store new.counted.store (declare (cell_of_program program).declarations (shown_store old.counted.store)) →
    kept_in new.procedures ≡ kept_in old.procedures →
    new.entries ≡ old.entries →
    AreDefined new.procedures (with_bodies program from.bodies) →
    IsBefore new.cursor program.book (block_in program.book Forward) →
    Stands new program (entry program from) false
entered_here old new program from can becomes kept entries defined before =
    let cell = cell_of_program program in
    let start : World = entered cell from.world in
    let es : List Name = new.entries in
    let shows : shown_store new.counted.store ≡ start.store = becomes.shown ∙ ap (declare cell.declarations) can.is.0.store in
    let is : IsStoreOf new.counted.store start.store = whole_is new.counted.store start.store becomes.whole becomes.texts shows in
    let standing = before.stands new.procedures new.counted.store becomes.whole.callers in
    let ready : IsReady es (names_in start.store) new.procedures program = ready_still old new (names_in start.store) program entries kept can.ready in
    let meant : block_in program.book Forward ≡ block_of es cell.block start = ready.meant es (no_more es) in
    let place : place_of new.procedures program.book new.cursor new.counted.store.callers ≡ BeforeBlock (block_of es cell.block start) [] =
    before.place new.procedures new.counted.store.callers ∙ ap (λ (b : Blk). BeforeBlock b []) meant in
    let stacks : stacks_in new.counted.store.slots ≡ stacks_in start.store = ap stacks_in is.slots ∙ stacks_same start.store in
    let declared : new.counted.store.declared ≡ size_of start.store = becomes.whole.declared ∙ ap size_of is.slots ∙ size_same start.store in
    let listed : AreListed es start.procedures =
    subst (λ (es : List Name). AreListed es start.procedures) (sym entries)
    (listed_more old.entries cell.procedures from.world.procedures can.named can.is.0.listed) in
    let older : Define old.procedures from.bodies (procedures_in es from.world.procedures) =
    subst (λ (es : List Name). Define old.procedures from.bodies (procedures_in es from.world.procedures)) (sym entries) can.is.0.defined in
    let bodies : AreBodiesFrom (kept_in old.procedures) program.first (procedures_in es (procedures_of program)) =
    can.ready.bodies es (same_more old.entries es entries) in
    let as_many : length (procedures_in es (procedures_of program)) ≡ length (procedures_of program) = length-map (procedures_of program) (procedure_in es) in
    record {
      cell = refl;
      good = entered_is_good cell from.world (sound_good from.world can.sound);
      few = omega arith;
      counted = before.counts.0;
      turned = before.counts.1;
      standing = standing;
      declared = declared;
      texts = is.texts;
      agrees = agrees_before (stacks_in start.store) new.procedures program.book new.cursor new.counted.store (block_of es cell.block start)
          becomes.whole stacks (as_many_names start.store _ _ ready.names declared) standing place;
      ready = ready;
      listed = listed;
      defined = subst (λ (n : ℕ). Define new.procedures (onto program.first n from.bodies) (procedures_in es start.procedures)) as_many
          (subst (λ (ps : List Proc). Define new.procedures (onto program.first (length (procedures_in es (procedures_of program))) from.bodies) ps)
          (sym (defined_in_slots es cell.procedures from.world.procedures))
          (all_defined old.procedures new.procedures program.first (procedures_in es (procedures_of program)) from.bodies
          (procedures_in es from.world.procedures) kept older bodies
          (subst (λ (n : ℕ). AreDefined new.procedures (onto program.first n from.bodies)) (sym as_many) defined)));
      faces = (
        ap (λ (r : Store). To (BeforeBlock (block_of es cell.block start) []) r) (sym is.slots) ∙ ap (λ (p : Place). To p new.counted.store.slots) (sym place),
        never_broken es cell from.world can.sound can.formed listed,
      );
    }

-- ---- and its inverse

pub entered_inverse_here : {L : Type 0} (old new : Runner L) (program : Program) (from : ShownWorld) → CanReturn old program from →
    new.counted.store ≡ old.counted.store →
    new.procedures ≡ old.procedures → new.entries ≡ old.entries →
    IsBefore new.cursor program.book (block_in program.book Inverse) →
    Stands new program (inverse_entry program from) false
unfolding CodeExec
entered_inverse_here old new program from can store procedures entries before =
    let cell = cell_of_program program in
    let es : List Name = new.entries in
    let start : World = from.world in
    let inverse : Blk = inverse_block cell.block in
    let back = worlds_reverse (entered cell can.before) cell.block can.steps start (entered_is_good cell can.before (sound_good can.before can.sound))
    can.ran in
    let listed : AreListed es start.procedures = subst (λ (es : List Name). AreListed es start.procedures) (sym entries) can.is.0.listed in
    let never : NeverBroken (procedures_in es start.procedures) (stacks_in start.store) (block_of es inverse start) (slots_of start) =
    (blocks_are_safe (procedures_in es start.procedures) (stacks_in start.store) (block_of es inverse start) (slots_of start)).ended can.steps _
    ((runs_are_the_same es (around start) inverse start.store can.steps listed).ends _ back.back.ran) in
    let now : IsWhole new.counted.store = subst (λ (h : StoreState). IsWhole h) (sym store) can.is.1 in
    let is : IsStoreOf new.counted.store start.store =
    subst (λ (h : StoreState). IsStoreOf h start.store) (sym store) (whole_is old.counted.store start.store can.is.1 can.is.0.texts can.is.0.store) in
    let standing = before.stands new.procedures new.counted.store now.callers in
    let ready : IsReady es (names_in start.store) new.procedures program =
    ready_still old new (names_in start.store) program entries (ap kept_in procedures) can.ready in
    let turned : block_in program.book Inverse ≡ block_of es inverse start =
    books_turn program.book ∙ ap inverse_block (ready.meant es (no_more es)) ∙ slots_stay.inverse es (names_in start.store) cell.block in
    let place : place_of new.procedures program.book new.cursor new.counted.store.callers ≡ BeforeBlock (block_of es inverse start) [] =
    before.place new.procedures new.counted.store.callers ∙ ap (λ (b : Blk). BeforeBlock b []) turned in
    let stacks : stacks_in new.counted.store.slots ≡ stacks_in start.store = ap stacks_in is.slots ∙ stacks_same start.store in
    let declared : new.counted.store.declared ≡ size_of start.store = now.declared ∙ ap size_of is.slots ∙ size_same start.store in
    record {
      cell = refl;
      good = back.good;
      few = omega arith;
      counted = before.counts.0;
      turned = before.counts.1;
      standing = standing;
      declared = declared;
      texts = is.texts;
      agrees = agrees_before (stacks_in start.store) new.procedures program.book new.cursor new.counted.store
          (block_of es inverse start) now stacks (as_many_names start.store _ _ ready.names declared) standing place;
      ready = ready;
      listed = listed;
      defined = subst (λ (t : Procedures). Define t from.bodies (procedures_in es start.procedures)) (sym procedures)
          (subst (λ (es : List Name). Define old.procedures from.bodies (procedures_in es start.procedures)) (sym entries) can.is.0.defined);
      faces = (
        ap (λ (r : Store). To (BeforeBlock (block_of es inverse start) []) r) (sym is.slots) ∙ ap (λ (p : Place). To p new.counted.store.slots) (sym place),
        never,
      );
    }

-- ---- leaving a cell

pub left_here : {L : Type 0} (old new : Runner L) (program : Program) (to : ShownWorld) → CanLeave old program to →
    Becomes old.counted.store new.counted.store to.world.store →
    kept_in new.procedures ≡ kept_in old.procedures → new.entries ≡ old.entries → AreDefined new.procedures to.bodies → Is new (Between to)
left_here old new program to can becomes kept entries defined =
    let cell = cell_of_program program in
    let es : List Name = old.entries in
    let as_many : length (procedures_in es (procedures_of program)) ≡ length (procedures_of program) = length-map (procedures_of program) (procedure_in es) in
    let before : Define old.procedures (onto program.first (length (procedures_in es (procedures_of program))) to.bodies)
    (define (procedures_in es cell.procedures) (procedures_in es to.world.procedures)) =
    subst (λ (n : ℕ). Define old.procedures (onto program.first n to.bodies)
    (define (procedures_in es cell.procedures) (procedures_in es to.world.procedures))) (sym as_many)
    (subst (λ (ps : List Proc). Define old.procedures (with_bodies program to.bodies) ps) (defined_in_slots es cell.procedures to.world.procedures)
    can.is.0.defined) in (
      record {
        store = becomes.shown;
        texts = becomes.texts;
        listed = subst (λ (es : List Name). AreListed es to.world.procedures) (sym entries)
            (listed_less es cell.procedures to.world.procedures can.is.0.listed);
        defined = subst (λ (es : List Name). Define new.procedures to.bodies (procedures_in es to.world.procedures)) (sym entries)
            (all_retired old.procedures new.procedures program.first (procedures_in es (procedures_of program)) to.bodies
            (procedures_in es to.world.procedures) kept before defined);
      },
      becomes.whole,
    )
