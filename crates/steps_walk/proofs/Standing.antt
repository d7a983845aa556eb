-- What is told of where a walk stands.
use Rattle.std.proofs.Common.{◌≡◌, ℕ, zero, suc, ◌+◌, ◌<◌, List, [], ◌∷◌, ◌++◌, true, false, cond, reverse, get_or, refl, ap, ◌∙◌, sym, subst, arith}
use Rattle.std.specs.Prelude.{Option, None, Some, length, slice_get, unwrap_or}
use Rattle.std.proofs.lemmas.List.{reverse-reverse, reverse-append, length-reverse, length-append}
use Rattle.std.proofs.lemmas.List.Elements.{All-get_or}
use Rattle.std.proofs.lemmas.Option.{slice_get-get_or, slice_get_within, get_or_from_slice_get}
use Rattle.std.proofs.Math.Seq.{get_or-append_seam}
use Rattle.janus_meaning.specs.Fault.{Fine, Bad, Broken}
use Rattle.janus_meaning.specs.Syntax.{Name, Blk, Proc}
use Rattle.janus_meaning.specs.Store.{find, same_name}
use Rattle.janus_meaning.specs.World.{World, entered}
use Rattle.janus_meaning.proofs.Stores.{same_name_self}
use Rattle.janus_slots.specs.Numbers.{IsNumbered, HaveOneNumber}
use Rattle.janus_slots.specs.Slots.{slot, number_from, number_in, procedure_in, procedures_in}
use Rattle.janus_slots.proofs.Results.{res_in}
use Rattle.janus_slots.proofs.Stores.{find_in}
use Rattle.janus_linear.specs.declared.code.Order.TheVariants.{Straight}
use Rattle.janus_linear.specs.Layout.{block_size, place_at}
use Rattle.janus_syntax.specs.declared.token.Span.{Span}
use Rattle.janus_syntax.specs.declared.tree.Procedure.{Procedure}
use Rattle.janus_machine.specs.declared.linked_code.LinkedCode.{LinkedCode}
use Rattle.janus_machine.specs.declared.linked_procedure.LinkedProcedure.{LinkedProcedure}
use Rattle.janus_machine.specs.declared.direction.Direction.TheVariants.{Forward}
use Rattle.janus_machine.specs.declared.cursor.Call.{Call}
use Rattle.janus_machine.specs.declared.cursor.Cursor.{Cursor}
use Rattle.janus_machine.specs.declared.procedures.Procedures.{Procedures}
use Rattle.janus_machine.specs.Cursor.{has_no_calls, are_no_calls, direction_of, calls_of}
use Rattle.janus_machine.specs.Cursors.{book_of}
use Rattle.janus_machine.specs.LinkedProcedure.{body_of}
use Rattle.janus_machine.specs.Procedures.{body_at}
use Rattle.janus_machine.specs.Bodies.{IsFound}
use Rattle.janus_machine.specs.Nested.{row_place, book_in, book_or}
use Rattle.janus_machine.specs.Places.{block_in}
use Rattle.janus_machine.specs.Whereabouts.{faced, IsWrittenAt}
use Rattle.janus_machine.proofs.BodiesInEffect.{defined_in_effect}
use Rattle.kernel_machine.specs.Language.{Code, start_of}
use Rattle.kernel_runner.specs.Program.{cell_of_program}
use Rattle.kernel_runner.specs.declared.program.Program.{Program}
use Rattle.kernel_runner.specs.declared.runner.Runner.{Runner}
use Rattle.kernel_runner.specs.Runner.{Place, Stands, start_at}
use Rattle.janus_places.specs.declared.part.Part.{Part}
use Rattle.janus_places.specs.Standing.{code_of, IsTold}
use Rattle.janus_places.specs.declared.table.Table.{Table}
use Rattle.janus_places.specs.Table.{places_in, IsTableOf}
use Rattle.janus_places.proofs.Rows.{table_long, append_none}
use Rattle.steps_walk.specs.declared.body.Body.{Body}
use Rattle.steps_walk.specs.declared.level.Level.{Level}
use Rattle.steps_walk.specs.declared.level.Spot.{Spot}
use Rattle.steps_walk.specs.declared.walk.Walk.{Walk}
use Rattle.steps_walk.specs.Bodies.{plain, text_body, parameters_of, procedures_over, IsInEffect, IsMet}
use Rattle.steps_walk.specs.Where.{IsThere, names_at, text_block}
use Rattle.steps_walk.specs.Walk.{runner_of, program_of, tree_of, block_of, bodies_of, calls_in, IsWalking, is_outside}
use Rattle.steps_walk.specs.Standing.{IsHere, IsCodeAt, IsTableAt, IsTableIn, IsThereInCall, IsInnermostOf, Calls, TellsSpot, TellsPlace, node_in, node_at}
use Rattle.steps_walk.proofs.Bodies.{false_unless}

no_call : (cs : List Call) → are_no_calls cs ≡ true → cs ≡ []
no_call [] e = refl
no_call (c ∷ cs) e = cc

own_book : (t : Procedures) (b : LinkedCode) (c : Cursor) → has_no_calls c ≡ true → book_of t b c ≡ b
own_book t b c e = ap (λ cs. book_in t b (reverse cs)) (no_call c.calls.items e)

module _ {L : Type 0} (runner : Runner L) (program : Program) (table : Table) (at : Place) (n : ℕ) (h : Stands runner program at false)
    (out : has_no_calls runner.cursor ≡ true) (is : IsTableOf table (text_block program))
    (written : IsWrittenAt runner.procedures program.book runner.cursor n) where
  code_is : block_in program.book Forward ≡ code_of runner.entries (names_at at) (text_block program)
  code_is = h.ready.meant runner.entries ([], sym (append_none runner.entries))

  book_is : book_of runner.procedures program.book runner.cursor ≡ program.book
  book_is = own_book runner.procedures program.book runner.cursor out

  pub inside : n < places_in table
  inside =
      let within : n < block_size (block_in program.book Forward) =
      subst (λ (b : LinkedCode). n < block_size (block_in b Forward)) book_is written.within in
      let size : block_size (block_in program.book Forward)
      ≡ block_size (code_of runner.entries (names_at at) (text_block program)) = ap block_size code_is in
      let long = table_long table runner.entries (names_at at) (text_block program) is in
      omega (arith, within, size, long)

  pub there : (p : Part) (s : Option Span) → IsTold runner.entries (names_at at) (text_block program) n p s → IsThere runner program at p s
  there p s told =
      record {
        faces = h.faces;
        n = n;
        place = written.place
            ∙ ap (λ (b : LinkedCode). faced (direction_of runner.cursor) (row_place b Forward n)) book_is
            ∙ ap (λ (b : Blk). faced (direction_of runner.cursor) (place_at Straight b n)) code_is;
        told = told;
      }

-- a walk without open calls stands in the cell's own code
none_open : {L : Type 0} (w : Walk L) → is_outside w ≡ true → calls_in w ≡ 0
none_open w e = ap (λ (cs : List Call). length (reverse cs)) (no_call w.open.runner.cursor.calls.items e)

-- ---- in calls

-- the number of a name that stands nowhere before
number_from_is : (es : List Name) (k n : ℕ) (f : Name) → slice_get es n ≡ Some f → ((j : ℕ) → j < n → ¬ (slice_get es j ≡ Some f)) →
    number_from k es f ≡ slot (k + n)
number_from_is [] k n f e first = absurd (let l = slice_get_within {A = Name} [] n f e in omega arith)
number_from_is (h ∷ es) k zero f e first =
    let same : h ≡ f = ap (λ (o : Option Name). unwrap_or o f) e in
    let z : k ≡ k + 0 = omega arith in
    ap (λ b. cond b (slot k) (number_from (suc k) es f)) (ap (λ x. same_name f x) same ∙ same_name_self f) ∙ ap slot z
number_from_is (h ∷ es) k (suc n) f e first =
    let differ : same_name f h ≡ false = false_unless f h (λ s. first 0 (omega arith) (ap Some (sym s))) in
    let z : suc k + n ≡ k + suc n = omega arith in
    ap (λ b. cond b (slot k) (number_from (suc k) es f)) differ
    ∙ number_from_is es (suc k) n f e (λ j l. first (suc j) (omega arith)) ∙ ap slot z

pub number_is : (es : List Name) (n : ℕ) (f : Name) → IsNumbered es n f → HaveOneNumber es → number_in es f ≡ slot n
number_is es n f e one =
    let z : 0 + n ≡ n = omega arith in
    number_from_is es 0 n f e (λ j l s. let same : j ≡ n = one j n f s e in omega (arith, l, same)) ∙ ap slot z

-- the first of the open calls is the last in the other order
last_of : (c : Call) (cs : List Call) → slice_get (reverse (c ∷ cs)) (length cs) ≡ Some c
last_of c cs =
    let turned : reverse (c ∷ cs) ≡ reverse cs ++ c ∷ [] = reverse-append (c ∷ []) cs in
    let size : length (reverse cs) ≡ length cs = length-reverse cs in
    let more : length (reverse cs ++ c ∷ []) ≡ length (reverse cs) + 1 = length-append (reverse cs) (c ∷ []) in
    ap (λ (l : List Call). slice_get l (length cs)) turned
    ∙ slice_get-get_or (reverse cs ++ c ∷ []) (length cs) c (omega (arith, size, more))
    ∙ ap (λ n. Some (get_or (reverse cs ++ c ∷ []) n c)) (sym size)
    ∙ ap Some (get_or-append_seam (reverse cs) c [] c)

module _ {L : Type 0} (w : Walk L) (walking : IsWalking w) where
  abbrev pub entries : List Name
  entries = (runner_of w).entries

  abbrev bodies : Procedures
  bodies = (runner_of w).procedures

  abbrev pub began : List Proc
  began = (start_at walking.stands.at).procedures

  pub began_over : began ≡ procedures_over (program_of w) (tree_of w)
  began_over =
      ap (λ (c : Code). (start_of c walking.stands.at.world).procedures) walking.stands.code
      ∙ ap (λ (v : World). (entered (cell_of_program (program_of w)) v).procedures) walking.stands.world

  -- the body of a number is that of the procedure
  pub in_body : (number : ℕ) (node : Option ℕ) (p : Procedure) → IsInEffect entries (program_of w) (tree_of w) number node p →
      (b : LinkedProcedure) × (body_at bodies number ≡ Some b) × (block_in (body_of b) Forward ≡ code_of entries (parameters_of p) (text_body p))
  in_body number cell p e =
      let found : find e.name began ≡ Fine (plain p) = ap (find e.name) began_over ∙ e.text.found in
      let numbered : find (slot number) (procedures_in entries began) ≡ Fine (procedure_in entries (plain p)) =
      ap (λ f. find f (procedures_in entries began)) (sym (number_is entries number e.name e.numbered walking.one_number))
      ∙ find_in entries e.name began walking.stands.stands.listed ∙ ap (res_in (procedure_in entries)) found in
      by (body_at bodies number) refl
      (subst (λ r. IsFound (body_at bodies number) r) numbered
      (defined_in_effect bodies walking.stands.at.bodies (procedures_in entries began) walking.stands.stands.defined number))
    where
      broken : {A : Type 0} {a : A} → Fine a ≡ Bad Broken → ⊥
      broken e = cc

      fine : {a b : Proc} → Fine a ≡ Fine b → b ≡ a
      fine e = cc

      by : (o : Option LinkedProcedure) → body_at bodies number ≡ o → IsFound o (Fine (procedure_in entries (plain p))) →
          (b : LinkedProcedure) × (body_at bodies number ≡ Some b) × (block_in (body_of b) Forward ≡ code_of entries (parameters_of p) (text_body p))
      by None at h = absurd (broken h)
      by (Some b) at h = (b, at, h.2.body ∙ ap (λ (q : Proc). q.body) (fine h.1))

  -- the body that was met of the innermost call, and the code that runs in it
  record RunsIn (k : ℕ) (c : Call) : Type 0 where
    body : Body
    there : slice_get (bodies_of w) k ≡ Some body
    met : IsMet entries (program_of w) (tree_of w) body
    number : body.number ≡ c.procedure
    code : LinkedProcedure
    book : book_of bodies (program_of w).book (runner_of w).cursor ≡ body_of code
    same : block_in (body_of code) Forward ≡ code_of entries (parameters_of met.procedure) (text_body met.procedure)

  runs_in : (k : ℕ) (c : Call) (cs : List Call) → calls_of (runner_of w).cursor ≡ c ∷ cs → Calls w (length cs) k → RunsIn k c
  runs_in k c cs opened calls =
      let last : calls.call ≡ c =
      ap (λ (o : Option Call). unwrap_or o c)
      (sym calls.there ∙ ap (λ (l : List Call). slice_get (reverse l) (length cs)) opened ∙ last_of c cs) in
      let b : Body = calls.runs.body in
      let within = slice_get_within (bodies_of w) k b calls.runs.there in
      let m : IsMet entries (program_of w) (tree_of w) b =
      subst (IsMet entries (program_of w) (tree_of w)) (get_or_from_slice_get (bodies_of w) k b b calls.runs.there)
      (All-get_or (IsMet entries (program_of w) (tree_of w)) (bodies_of w) k b within walking.met) in
      let number : b.number ≡ c.procedure = calls.runs.named ∙ ap (λ (x : Call). x.procedure) last in
      let there = in_body c.procedure b.node m.procedure
      (subst (λ (n : ℕ). IsInEffect entries (program_of w) (tree_of w) n b.node m.procedure) number m.in_effect) in
      record {
        body = b;
        there = calls.runs.there;
        met = m;
        number = number;
        code = there.0;
        book = ap (book_in bodies (program_of w).book) opened ∙ ap (book_or (program_of w).book) there.1;
        same = there.2;
      }

  -- the innermost place is one of the table of its code
  module _ (level : Level) (here : IsHere w level) where
    called_inside : (k : ℕ) (c : Call) (cs : List Call) → calls_of (runner_of w).cursor ≡ c ∷ cs → Calls w (length cs) k →
        (t : Table) × IsTableAt w (Some k) t × (level.at < places_in t)
    called_inside k c cs opened calls =
        let r = runs_in k c cs opened calls in
        let p = r.met.procedure in
        let within : level.at < block_size (block_in (body_of r.code) Forward) =
        subst (λ (b : LinkedCode). level.at < block_size (block_in b Forward)) r.book here.written.within in
        let size : block_size (block_in (body_of r.code) Forward) ≡ block_size (code_of entries (parameters_of p) (text_body p)) = ap block_size r.same in
        let long = table_long r.body.table entries (parameters_of p) (text_body p) r.met.is.table in (
          r.body.table,
          subst (λ (o : Option Body). IsTableIn o r.body.table) (sym r.there) refl,
          omega (arith, within, size, long),
        )

    inside_by : (cs : List Call) → calls_of (runner_of w).cursor ≡ cs → (body : Option ℕ) → IsCodeAt w (length cs) body →
        (t : Table) × IsTableAt w body t × (level.at < places_in t)
    inside_by [] e None code =
        let none : (runner_of w).cursor.calls.items ≡ [] = sym (reverse-reverse (runner_of w).cursor.calls.items) ∙ ap reverse e in (
          block_of w,
          refl,
          inside (runner_of w) (program_of w) (block_of w) walking.stands.at level.at walking.stands.stands (ap are_no_calls none) walking.table
              here.written,
        )
    inside_by [] e (Some k) code = absurd (own code)
      where
        own : Some k ≡ None → ⊥
        own e = cc
    inside_by (c ∷ cs) e None code = absurd code
    inside_by (c ∷ cs) e (Some k) code = called_inside k c cs e code

    pub inside_table : IsCodeAt w (calls_in w) level.body → (t : Table) × IsTableAt w level.body t × (level.at < places_in t)
    inside_table code = inside_by (calls_of (runner_of w).cursor) refl level.body code

  module _ (level : Level) (spot : Spot) (here : IsHere w level) (node : level.node ≡ node_at w level.body) (t : Table) (of : IsTableAt w level.body t)
      (tells : TellsSpot t level.at spot) where
    called_in : (k : ℕ) (c : Call) (cs : List Call) → calls_of (runner_of w).cursor ≡ c ∷ cs → level.body ≡ Some k →
        Calls w (length cs) k → IsThereInCall w level spot.part spot.span
    called_in k c cs opened body calls =
        let r = runs_in k c cs opened calls in
        let m = r.met in
        let at_node : r.body.node ≡ level.node =
        sym (node ∙ ap (node_at w) body ∙ ap node_in r.there) in
        let in_effect : IsInEffect entries (program_of w) (tree_of w) c.procedure level.node m.procedure =
        subst (λ (n : ℕ). IsInEffect entries (program_of w) (tree_of w) n level.node m.procedure) r.number
        (subst (λ (o : Option ℕ). IsInEffect entries (program_of w) (tree_of w) r.body.number o m.procedure) at_node m.in_effect) in
        let of_body = subst (λ (o : Option ℕ). IsTableAt w o t) body of in
        let same : t ≡ r.body.table = subst (λ (o : Option Body). IsTableIn o t) r.there of_body in
        let table : IsTableOf t (text_body m.procedure) = subst (λ (x : Table). IsTableOf x (text_body m.procedure)) (sym same) m.is.table in
        record {
          number = c.procedure;
          call = subst (λ (l : List Call). IsInnermostOf l c.procedure) (sym opened) refl;
          procedure = m.procedure;
          in_effect = in_effect;
          place = here.written.place
              ∙ ap (λ (x : LinkedCode). faced (direction_of (runner_of w).cursor) (row_place x Forward level.at)) r.book
              ∙ ap (λ (x : Blk). faced (direction_of (runner_of w).cursor) (place_at Straight x level.at)) r.same;
          told = tells (text_body m.procedure) table entries (parameters_of m.procedure);
        }

    by_calls : (cs : List Call) → calls_of (runner_of w).cursor ≡ cs → is_outside w ≡ false → (body : Option ℕ) → level.body ≡ body →
        IsCodeAt w (length cs) body → IsThereInCall w level spot.part spot.span
    by_calls [] e out body is code =
        absurd (inside (runner_of w).cursor.calls.items (sym (reverse-reverse (runner_of w).cursor.calls.items) ∙ ap reverse e) out)
      where
        inside : (items : List Call) → items ≡ [] → are_no_calls items ≡ false → ⊥
        inside [] e f = cc
        inside (c ∷ cs) e f = cc
    by_calls (c ∷ cs) e out None is code = absurd code
    by_calls (c ∷ cs) e out (Some k) is code = called_in k c cs e is code

    pub called : IsCodeAt w (calls_in w) level.body → is_outside w ≡ false → IsThereInCall w level spot.part spot.span
    called code out = by_calls (calls_of (runner_of w).cursor) refl out level.body refl code

pub none_some : false ≡ true → ⊥
none_some e = cc

one_table : (o : Option Body) (t u : Table) → IsTableIn o t → IsTableIn o u → t ≡ u
one_table None t u e f = absurd e
one_table (Some body) t u e f = e ∙ sym f

-- a code has one table
pub same_table : {L : Type 0} (w : Walk L) (body : Option ℕ) (t u : Table) → IsTableAt w body t → IsTableAt w body u → t ≡ u
same_table w None t u e f = e ∙ sym f
same_table w (Some k) t u e f = one_table (slice_get (bodies_of w) k) t u e f

pub tells : {L : Type 0} (w : Walk L) (level : Level) (spot : Spot) → IsHere w level → IsCodeAt w (calls_in w) level.body →
    level.node ≡ node_at w level.body → (t : Table) → IsTableAt w level.body t → TellsSpot t level.at spot → TellsPlace w (level, spot)
tells w level spot here code node t of told = record {
  here = here;
  there = λ is out at h.
      let own : level.body ≡ None = subst (λ n. IsCodeAt w n level.body) (none_open w out) code in
      let table : t ≡ block_of w = subst (λ (o : Option ℕ). IsTableAt w o t) own of in
      let is_table : IsTableOf t (text_block (program_of w)) = subst (λ (x : Table). IsTableOf x (text_block (program_of w))) (sym table) is in
      there (runner_of w) (program_of w) (block_of w) at level.at h out is here.written spot.part spot.span
      (told (text_block (program_of w)) is_table (runner_of w).entries (names_at at));
  called = λ walking out. called w walking level spot here node t of told code out;
}
