-- The tokens that spell the print of statements spell those statements, places aside.
use Rattle.std.proofs.Common.{◌≡◌, ℕ, suc, ◌≤◌, List, [], ◌∷◌, ◌++◌, Some, None, false, refl, ap, sym, subst, ◌∙◌}
use Rattle.janus_meaning.specs.Syntax as plain
use Rattle.janus_syntax.specs.declared.token.Span.{Span}
use Rattle.janus_syntax.specs.declared.token.Sign.TheVariants as sign
use Rattle.janus_syntax.specs.declared.token.Keyword.{Keyword}
use Rattle.janus_syntax.specs.declared.token.Keyword.TheVariants as keyword
use Rattle.janus_syntax.specs.declared.tree.LocalKind.TheVariants as kind
use Rattle.janus_syntax.specs.declared.tree.Update.{Update}
use Rattle.janus_syntax.specs.declared.tree.Update.TheVariants as update
use Rattle.janus_syntax.specs.Tokens.{Token, Name, Sign_of, Keyword_of}
use Rattle.janus_syntax.specs.Tree.{Name as Named, named, Exp, Stm, Skip, Assign, AssignElement, Push, Pop, Swap, If, Loop, LocalInt, LocalStack, Call, Uncall}
use Rattle.janus_syntax.specs.Tree.{Block, Empty, More}
use Rattle.janus_syntax.specs.Forms.{Part, Body, Statements, Else_part, Do_part, Loop_part, Local, Swap_partner, Target_index, Whole, Tree, The_keyword}
use Rattle.janus_syntax.specs.Forms.{The_sign, A_name, An_update, seen, Form, done, take, part, close}
use Rattle.janus_syntax.specs.Table.{rule, assignment, keyword_then, sign_then, variable_and_stack_then, call_then, delocal_then, local_int, local_stack}
use Rattle.janus_syntax.specs.Table.{behind_target, statement}
use Rattle.janus_syntax.specs.Grammar.{depth_limit}
use Rattle.janus_syntax.specs.Printing.{A_sign, A_keyword, update_sign, binding_pieces, whole_pieces, stm_pieces, block_pieces}
use Rattle.janus_syntax.specs.View.{plain_stm, plain_block, update_of}
use Rattle.janus_printing.proofs.Fits.{FitsWhole, FitsStm, FitsBlock, IsBody}
use Rattle.janus_printing.proofs.Spelled.{Spelled, in_two}
use Rattle.janus_printing.proofs.NamesAgain.{call_again}
use Rattle.janus_printing.proofs.Onward.{SpellsTo, StartsTo, done_to, part_to, left_to, token_to, pair_to, head_to, delocal_to, close_to, begins_to, opens_to}
use Rattle.janus_printing.proofs.Onward.{whole_again}

-- these tokens are read as that statement
pub record StmAgain (s : Stm) (d : ℕ) (ts rest : List Token) : Type 0 where
  pub again : Stm
  pub same : plain_stm again ≡ plain_stm s
  pub starts : {p : Part} (k : Stm → Form p) (v : Tree p) (d' : ℕ) (end : List Token) → SpellsTo (k again) v d rest d' end →
      StartsTo (λ t. statement t k) v d ts d' end

-- as that block, where statements may stand, and where one has to
pub record BlockAgain (b : Block) (d : ℕ) (ts rest : List Token) : Type 0 where
  pub again : Block
  pub same : plain_block again ≡ plain_block b
  pub statements : {p : Part} (k : Block → Form p) (v : Tree p) (d' : ℕ) (end : List Token) → SpellsTo (k again) v d rest d' end →
      SpellsTo (part Statements k) v d ts d' end
  pub body : IsBody b → {p : Part} (k : Block → Form p) (v : Tree p) (d' : ℕ) (end : List Token) → SpellsTo (k again) v d rest d' end →
      SpellsTo (part Body k) v d ts d' end

-- ---- assignments

update_seen : (u : Update) (at : Span) → seen An_update (Sign_of (update_sign u) at) ≡ Some u
update_seen update.Add at = refl
update_seen update.Subtract at = refl
update_seen update.Xor at = refl

assign_again : (x : List ℕ) (place : Span) (u : Update) (e : Exp) (d : ℕ) (ts rest : List Token) → d ≤ depth_limit → FitsWhole e d →
    Spelled (stm_pieces (Assign (named x place) u e)) ts rest → StmAgain (Assign (named x place) u e) d ts rest
assign_again x place u e d ts rest h f (at, t1, e1, (on, t2, e2, s)) =
    let r = whole_again e d t2 rest h f s in
    record {
      again = Assign (named x at) u r.again;
      same = ap (λ y. plain.Do (plain.Set x (update_of u) y)) r.same;
      starts = λ {p} k v d' end onward.
          begins_to (λ t. statement t k) (part Swap_partner (λ other. behind_target (named x at) other k)) v d d' (Name x at) ts t1 end e1 refl h
          (left_to (λ other. behind_target (named x at) other k) None v d d' t1 end refl
          (left_to (λ i. take An_update (λ w. part Whole (λ y. k (assignment (named x at) i w y)))) None v d d' t1 end refl
          (token_to An_update (λ w. part Whole (λ y. k (assignment (named x at) None w y))) u v d d' (Sign_of (update_sign u) on) t1 t2 end e2
          (update_seen u on)
          (r.spells (λ y. k (Assign (named x at) u y)) v d' end onward))));
    }

assign_element_again : (x : List ℕ) (place : Span) (i : Exp) (u : Update) (e : Exp) (d : ℕ) (ts rest : List Token) → d ≤ depth_limit → suc d ≤ depth_limit →
    FitsWhole i (suc d) → FitsWhole e d → Spelled (stm_pieces (AssignElement (named x place) i u e)) ts rest →
    StmAgain (AssignElement (named x place) i u e) d ts rest
assign_element_again x place i u e d ts rest h few fits_i fits_e (at, t1, e1, (opened, t2, e2, s)) =
    let two = in_two (whole_pieces i) (A_sign sign.CloseIndex ∷ A_sign (update_sign u) ∷ whole_pieces e) t2 rest s in
    let j = whole_again i (suc d) t2 two.0 few fits_i two.1 in
    let shut = two.2 in
    let on = shut.3 in
    let r = whole_again e d on.1 rest h fits_e on.3 in
    record {
      again = AssignElement (named x at) j.again u r.again;
      same = (λ n. plain.Do (plain.SetAt x (j.same n) (update_of u) (r.same n)));
      starts = λ {p} k v d' end onward.
          begins_to (λ t. statement t k) (part Swap_partner (λ other. behind_target (named x at) other k)) v d d' (Name x at) ts t1 end e1 refl h
          (left_to (λ other. behind_target (named x at) other k) None v d d' t1 end refl
          (part_to (λ z. take An_update (λ w. part Whole (λ y. k (assignment (named x at) z w y)))) (Some j.again) v d d d' t1 shut.1 end
          (opens_to (rule Target_index) (part Whole (λ y. sign_then sign.CloseIndex (close (done (Some y))))) (Some j.again) d d (Sign_of sign.OpenIndex opened)
          t1 t2 shut.1 e2 refl few
          (j.spells {p = Target_index} (λ y. sign_then sign.CloseIndex (close (done (Some y)))) (Some j.again) d shut.1
          (token_to {p = Target_index} (The_sign sign.CloseIndex) (λ z. close (done (Some j.again))) tt (Some j.again) (suc d) d
          (Sign_of sign.CloseIndex shut.0) two.0 shut.1 shut.1 shut.2 refl
          (close_to {p = Target_index} (done (Some j.again)) (Some j.again) d d shut.1 shut.1 (done_to {p = Target_index} (Some j.again) d shut.1)))))
          (token_to An_update (λ w. part Whole (λ y. k (assignment (named x at) (Some j.again) w y))) u v d d' (Sign_of (update_sign u) on.0)
          shut.1 on.1 end on.2 (update_seen u on.0)
          (r.spells (λ y. k (AssignElement (named x at) j.again u y)) v d' end onward))));
    }

-- ---- the parts of `if` and loops

-- a body behind a keyword
optional_to : {p q : Part} (w : Keyword) (at : Span) (from_block : Block → Tree q) (k : Tree q → Form p) (b : Block) (d d' : ℕ) (v : Tree p)
    (ts t1 rest end : List Token) → d ≤ depth_limit → ts ≡ Keyword_of w at ∷ t1 →
    rule q (Keyword_of w at) ≡ Some (record { opens = 0; counts = 0; is_whole = false; form = part Body (λ c. done (from_block c)) }) → IsBody b →
    (r : BlockAgain b d t1 rest) → SpellsTo (k (from_block r.again)) v d rest d' end → SpellsTo (part q k) v d ts d' end
optional_to {p} {q} w at from_block k b d d' v ts t1 rest end h e is body r onward =
    part_to k (from_block r.again) v d d d' ts rest end
    (begins_to (rule q) (part Body (λ c. done (from_block c))) (from_block r.again) d d (Keyword_of w at) ts t1 rest e is h
    (r.body body {p = q} (λ c. done (from_block c)) (from_block r.again) d rest (done_to {p = q} (from_block r.again) d rest)))
    onward

-- what is known of blocks
abbrev BlockReads : Block → Type 0
BlockReads b = (d : ℕ) (ts rest : List Token) → d ≤ depth_limit → FitsBlock b d → Spelled (block_pieces b) ts rest → BlockAgain b d ts rest

if_again : (e : Exp) (s t : Block) (f : Exp) → BlockReads s → BlockReads t → (d : ℕ) (ts rest : List Token) → d ≤ depth_limit → FitsStm (If e s t f) d →
    Spelled (stm_pieces (If e s t f)) ts rest → StmAgain (If e s t f) d ts rest
if_again e s t f reads_s reads_t d ts rest h (few, fits_e, fits_s, fits_t, fits_f) (at, t1, e1, p1) =
    let c1 = in_two (whole_pieces e)
    (A_keyword keyword.Then ∷ (block_pieces s ++ A_keyword keyword.Else ∷ (block_pieces t ++ A_keyword keyword.Fi ∷ whole_pieces f))) t1 rest p1 in
    let then_at = c1.2 in
    let c2 = in_two (block_pieces s) (A_keyword keyword.Else ∷ (block_pieces t ++ A_keyword keyword.Fi ∷ whole_pieces f)) then_at.1 rest then_at.3 in
    let else_at = c2.2 in
    let c3 = in_two (block_pieces t) (A_keyword keyword.Fi ∷ whole_pieces f) else_at.1 rest else_at.3 in
    let fi_at = c3.2 in
    let re = whole_again e (suc d) t1 c1.0 few fits_e c1.1 in
    let rs = reads_s (suc d) then_at.1 c2.0 few fits_s.1 c2.1 in
    let rt = reads_t (suc d) else_at.1 c3.0 few fits_t.1 c3.1 in
    let rf = whole_again f (suc d) fi_at.1 rest few fits_f fi_at.3 in
    record {
      again = If re.again rs.again rt.again rf.again;
      same = (λ n. plain.Branch plain.If (re.same n) (rs.same n) (rt.same n) (rf.same n));
      starts = λ {p} k v d' end onward.
          opens_to (λ x. statement x k)
          (part Whole (λ a. keyword_then keyword.Then
          (part Body (λ b. part Else_part (λ c. keyword_then keyword.Fi (part Whole (λ g. close (k (If a b c g))))))))) v d d' (Keyword_of keyword.If at)
          ts t1 end e1 refl few
          (re.spells (λ a. keyword_then keyword.Then
          (part Body (λ b. part Else_part (λ c. keyword_then keyword.Fi (part Whole (λ g. close (k (If a b c g)))))))) v d' end
          (token_to (The_keyword keyword.Then)
          (λ z. part Body (λ b. part Else_part (λ c. keyword_then keyword.Fi (part Whole (λ g. close (k (If re.again b c g))))))) tt v (suc d) d'
          (Keyword_of keyword.Then then_at.0) c1.0 then_at.1 end then_at.2 refl
          (rs.body fits_s.0 (λ b. part Else_part (λ c. keyword_then keyword.Fi (part Whole (λ g. close (k (If re.again b c g)))))) v d' end
          (optional_to {q = Else_part} keyword.Else else_at.0 (λ b. b) (λ c. keyword_then keyword.Fi (part Whole (λ g. close (k (If re.again rs.again c g))))) t
          (suc d) d' v c2.0 else_at.1 c3.0 end few else_at.2 refl fits_t.0 rt
          (token_to (The_keyword keyword.Fi) (λ z. part Whole (λ g. close (k (If re.again rs.again rt.again g)))) tt v (suc d) d'
          (Keyword_of keyword.Fi fi_at.0) c3.0 fi_at.1 end fi_at.2 refl
          (rf.spells (λ g. close (k (If re.again rs.again rt.again g))) v d' end
          (close_to (k (If re.again rs.again rt.again rf.again)) v d d' rest end onward)))))));
    }

loop_again : (e : Exp) (s t : Block) (f : Exp) → BlockReads s → BlockReads t → (d : ℕ) (ts rest : List Token) → d ≤ depth_limit → FitsStm (Loop e s t f) d →
    Spelled (stm_pieces (Loop e s t f)) ts rest → StmAgain (Loop e s t f) d ts rest
loop_again e s t f reads_s reads_t d ts rest h (few, fits_e, fits_s, fits_t, fits_f) (at, t1, e1, p1) =
    let c1 = in_two (whole_pieces e)
    (A_keyword keyword.Do ∷ (block_pieces s ++ A_keyword keyword.Loop ∷ (block_pieces t ++ A_keyword keyword.Until ∷ whole_pieces f))) t1 rest p1 in
    let do_at = c1.2 in
    let c2 = in_two (block_pieces s) (A_keyword keyword.Loop ∷ (block_pieces t ++ A_keyword keyword.Until ∷ whole_pieces f)) do_at.1 rest do_at.3 in
    let loop_at = c2.2 in
    let c3 = in_two (block_pieces t) (A_keyword keyword.Until ∷ whole_pieces f) loop_at.1 rest loop_at.3 in
    let until_at = c3.2 in
    let re = whole_again e (suc d) t1 c1.0 few fits_e c1.1 in
    let rs = reads_s (suc d) do_at.1 c2.0 few fits_s.1 c2.1 in
    let rt = reads_t (suc d) loop_at.1 c3.0 few fits_t.1 c3.1 in
    let rf = whole_again f (suc d) until_at.1 rest few fits_f until_at.3 in
    record {
      again = Loop re.again rs.again rt.again rf.again;
      same = (λ n. plain.Branch plain.From (re.same n) (rs.same n) (rt.same n) (rf.same n));
      starts = λ {p} k v d' end onward.
          opens_to (λ x. statement x k)
          (part Whole (λ a. part Do_part (λ b. part Loop_part (λ c. keyword_then keyword.Until (part Whole (λ g. close (k (Loop a b c g)))))))) v d d'
          (Keyword_of keyword.From at) ts t1 end e1 refl few
          (re.spells (λ a. part Do_part (λ b. part Loop_part (λ c. keyword_then keyword.Until (part Whole (λ g. close (k (Loop a b c g))))))) v d' end
          (optional_to {q = Do_part} keyword.Do do_at.0 (λ b. b)
          (λ b. part Loop_part (λ c. keyword_then keyword.Until (part Whole (λ g. close (k (Loop re.again b c g)))))) s
          (suc d) d' v c1.0 do_at.1 c2.0 end few do_at.2 refl fits_s.0 rs
          (optional_to {q = Loop_part} keyword.Loop loop_at.0 (λ b. b)
          (λ c. keyword_then keyword.Until (part Whole (λ g. close (k (Loop re.again rs.again c g))))) t (suc d) d' v c2.0 loop_at.1 c3.0 end few loop_at.2
          refl fits_t.0 rt
          (token_to (The_keyword keyword.Until) (λ z. part Whole (λ g. close (k (Loop re.again rs.again rt.again g)))) tt v (suc d) d'
          (Keyword_of keyword.Until until_at.0) c3.0 until_at.1 end until_at.2 refl
          (rf.spells (λ g. close (k (Loop re.again rs.again rt.again g))) v d' end
          (close_to (k (Loop re.again rs.again rt.again rf.again)) v d d' rest end onward))))));
    }

local_int_again : (x : List ℕ) (place : Span) (e : Exp) (s : Block) (y : List ℕ) (at : Span) (f : Exp) → BlockReads s → (d : ℕ) (ts rest : List Token) →
    FitsStm (LocalInt (named x place) e s (named y at) f) d →
    Spelled (stm_pieces (LocalInt (named x place) e s (named y at) f)) ts rest → StmAgain (LocalInt (named x place) e s (named y at) f) d ts rest
local_int_again x place e s y at f reads_s d ts rest (few, name, fits_e, fits_s, again_y, fits_f)
    (on, t1, e1, (on_kind, t2, e2, (of_x, t3, e3, (equals, t4, e4, p1)))) =
    let c1 = in_two (whole_pieces e) (block_pieces s ++ (binding_pieces keyword.Delocal keyword.Int y ++ whole_pieces f)) t4 rest p1 in
    let c2 = in_two (block_pieces s) (binding_pieces keyword.Delocal keyword.Int y ++ whole_pieces f) c1.0 rest c1.2 in
    let (off, t5, e5, q1) = c2.2 in
    let (off_kind, t6, e6, q2) = q1 in
    let (of_y, t7, e7, q3) = q2 in
    let (equals_again, t8, e8, p2) = q3 in
    let re = whole_again e (suc d) t4 c1.0 few fits_e c1.1 in
    let rs = reads_s (suc d) c1.0 c2.0 few fits_s.1 c2.1 in
    let rf = whole_again f (suc d) t8 rest few fits_f p2 in
    let w : Stm = LocalInt (named x of_x) re.again rs.again (named y of_y) rf.again in
    record {
      again = w;
      same = (λ n. plain.Local x (plain.LocalInt (re.same n) (rf.same n)) (rs.same n));
      starts = λ {p} k v d' end onward.
          opens_to (λ t. statement t k) (part Local (λ b. close (k b))) v d d' (Keyword_of keyword.Local on) ts t1 end e1 refl few
          (part_to {q = Local} (λ b. close (k b)) w v (suc d) (suc d) d' t1 rest end
          (begins_to (rule Local) (local_int done) w (suc d) (suc d) (Keyword_of keyword.Int on_kind) t1 t2 rest e2 refl few
          (head_to {p = Local} (λ a. part Whole (λ b. part Body (λ c. delocal_then kind.Int a (λ z. part Whole (λ g. done (LocalInt a b c z g)))))) x w (suc d)
          (suc d) of_x equals t2 t3 t4 rest e3 e4
          (re.spells {p = Local} (λ b. part Body (λ c. delocal_then kind.Int (named x of_x) (λ z. part Whole (λ g. done (LocalInt (named x of_x) b c z g))))) w
          (suc d) rest
          (rs.body fits_s.0 {p = Local} (λ c. delocal_then kind.Int (named x of_x) (λ z. part Whole (λ g. done (LocalInt (named x of_x) re.again c z g)))) w
          (suc d) rest
          (delocal_to {p = Local} kind.Int (λ z. part Whole (λ g. done (LocalInt (named x of_x) re.again rs.again z g))) x y of_x w (suc d)
          (suc d) off off_kind of_y equals_again c2.0 t5 t6 t7 t8 rest e5 e6 e7 e8 again_y.1
          (rf.spells {p = Local} (λ g. done (LocalInt (named x of_x) re.again rs.again (named y of_y) g)) w (suc d) rest
          (done_to {p = Local} w (suc d) rest)))))))
          (close_to (k w) v d d' rest end onward));
    }

local_stack_again : (x : List ℕ) (place : Span) (s : Block) (y : List ℕ) (at : Span) → BlockReads s → (d : ℕ) (ts rest : List Token) →
    FitsStm (LocalStack (named x place) s (named y at)) d →
    Spelled (stm_pieces (LocalStack (named x place) s (named y at))) ts rest → StmAgain (LocalStack (named x place) s (named y at)) d ts rest
local_stack_again x place s y at reads_s d ts rest (few, name, fits_s, again_y)
    (on, t1, e1, (on_kind, t2, e2, (of_x, t3, e3, (equals, t4, e4, (on_nil, t5, e5, p1))))) =
    let c = in_two (block_pieces s) (binding_pieces keyword.Delocal keyword.Stack y ++ A_keyword keyword.Nil ∷ []) t5 rest p1 in
    let (off, t6, e6, q1) = c.2 in
    let (off_kind, t7, e7, q2) = q1 in
    let (of_y, t8, e8, q3) = q2 in
    let (equals_again, t9, e9, q4) = q3 in
    let (off_nil, t10, e10, last) = q4 in
    let rs = reads_s (suc d) t5 c.0 few fits_s.1 c.1 in
    let w : Stm = LocalStack (named x of_x) rs.again (named y of_y) in
    record {
      again = w;
      same = (λ n. plain.Local x plain.LocalStack (rs.same n));
      starts = λ {p} k v d' end onward.
          opens_to (λ t. statement t k) (part Local (λ b. close (k b))) v d d' (Keyword_of keyword.Local on) ts t1 end e1 refl few
          (part_to {q = Local} (λ b. close (k b)) w v (suc d) (suc d) d' t1 rest end
          (begins_to (rule Local) (local_stack done) w (suc d) (suc d) (Keyword_of keyword.Stack on_kind) t1 t2 rest e2 refl few
          (head_to {p = Local}
          (λ a. keyword_then keyword.Nil (part Body (λ b. delocal_then kind.Stack a (λ z. keyword_then keyword.Nil (done (LocalStack a b z)))))) x w (suc d)
          (suc d) of_x equals t2 t3 t4 rest e3 e4
          (token_to {p = Local} (The_keyword keyword.Nil)
          (λ u. part Body (λ b. delocal_then kind.Stack (named x of_x) (λ z. keyword_then keyword.Nil (done (LocalStack (named x of_x) b z))))) tt w (suc d)
          (suc d) (Keyword_of keyword.Nil on_nil) t4 t5 rest e5 refl
          (rs.body fits_s.0 {p = Local} (λ b. delocal_then kind.Stack (named x of_x) (λ z. keyword_then keyword.Nil (done (LocalStack (named x of_x) b z)))) w
          (suc d) rest
          (delocal_to {p = Local} kind.Stack (λ z. keyword_then keyword.Nil (done (LocalStack (named x of_x) rs.again z))) x y of_x w (suc d)
          (suc d) off off_kind of_y equals_again c.0 t6 t7 t8 t9 rest e6 e7 e8 e9 again_y.1
          (token_to {p = Local} (The_keyword keyword.Nil) (λ u. done w) tt w (suc d) (suc d) (Keyword_of keyword.Nil off_nil) t9 rest rest
          (e10 ∙ ap (λ l. Keyword_of keyword.Nil off_nil ∷ l) last) refl (done_to {p = Local} w (suc d) rest)))))))
          (close_to (k w) v d d' rest end onward));
    }

-- ---- statements and blocks

skip_again : (d : ℕ) (ts rest : List Token) → d ≤ depth_limit → Spelled (stm_pieces Skip) ts rest → StmAgain Skip d ts rest
skip_again d ts rest h (at, more, e, s) = record {
  again = Skip;
  same = refl;
  starts = λ {p} k v d' end onward. begins_to (λ t. statement t k) (k Skip) v d d' (Keyword_of keyword.Skip at) ts rest end
      (e ∙ ap (λ x. Keyword_of keyword.Skip at ∷ x) s) refl h onward;
}

push_again : (x s : List ℕ) (at place : Span) (d : ℕ) (ts rest : List Token) → d ≤ depth_limit →
    Spelled (stm_pieces (Push (named x at) (named s place))) ts rest → StmAgain (Push (named x at) (named s place)) d ts rest
push_again x s at place d ts rest h (on, t1, e1, (opened, t2, e2, (of_x, t3, e3, (comma, t4, e4, (of_s, t5, e5, (shut, t6, e6, last)))))) = record {
  again = Push (named x of_x) (named s of_s);
  same = refl;
  starts = λ {p} k v d' end onward.
      begins_to (λ t. statement t k) (variable_and_stack_then (λ a b. k (Push a b))) v d d' (Keyword_of keyword.Push on) ts t1 end e1 refl h
      (pair_to (λ a b. k (Push a b)) x s v d d' opened of_x comma of_s shut t1 t2 t3 t4 t5 rest end e2 e3 e4 e5
      (e6 ∙ ap (λ l. Sign_of sign.Close shut ∷ l) last) onward);
}

pop_again : (x s : List ℕ) (at place : Span) (d : ℕ) (ts rest : List Token) → d ≤ depth_limit →
    Spelled (stm_pieces (Pop (named x at) (named s place))) ts rest → StmAgain (Pop (named x at) (named s place)) d ts rest
pop_again x s at place d ts rest h (on, t1, e1, (opened, t2, e2, (of_x, t3, e3, (comma, t4, e4, (of_s, t5, e5, (shut, t6, e6, last)))))) = record {
  again = Pop (named x of_x) (named s of_s);
  same = refl;
  starts = λ {p} k v d' end onward.
      begins_to (λ t. statement t k) (variable_and_stack_then (λ a b. k (Pop a b))) v d d' (Keyword_of keyword.Pop on) ts t1 end e1 refl h
      (pair_to (λ a b. k (Pop a b)) x s v d d' opened of_x comma of_s shut t1 t2 t3 t4 t5 rest end e2 e3 e4 e5 (e6 ∙ ap (λ l. Sign_of sign.Close shut ∷ l) last)
      onward);
}

swap_again : (x y : List ℕ) (at place : Span) (d : ℕ) (ts rest : List Token) → d ≤ depth_limit →
    Spelled (stm_pieces (Swap (named x at) (named y place))) ts rest → StmAgain (Swap (named x at) (named y place)) d ts rest
swap_again x y at place d ts rest h (of_x, t1, e1, (on, t2, e2, (of_y, t3, e3, last))) = record {
  again = Swap (named x of_x) (named y of_y);
  same = refl;
  starts = λ {p} k v d' end onward.
      begins_to (λ t. statement t k) (part Swap_partner (λ other. behind_target (named x of_x) other k)) v d d' (Name x of_x) ts t1 end e1 refl h
      (part_to {q = Swap_partner} (λ other. behind_target (named x of_x) other k) (Some (named y of_y)) v d d d' t1 rest end
      (begins_to (rule Swap_partner) (take A_name (λ z. done (Some z))) (Some (named y of_y)) d d (Sign_of sign.Swap on) t1 t2 rest e2 refl h
      (token_to {p = Swap_partner} A_name (λ z. done (Some z)) (named y of_y) (Some (named y of_y)) d d (Name y of_y) t2 rest rest
      (e3 ∙ ap (λ l. Name y of_y ∷ l) last) refl
      (done_to {p = Swap_partner} (Some (named y of_y)) d rest)))
      onward);
}

calls_again : (f : List ℕ) (at : Span) (xs : List Named) (d : ℕ) (ts rest : List Token) → d ≤ depth_limit →
    Spelled (stm_pieces (Call (named f at) xs)) ts rest → StmAgain (Call (named f at) xs) d ts rest
calls_again f at xs d ts rest h (on, t1, e1, s) =
    let r = call_again f xs d t1 rest h s in
    record {
      again = Call (named f r.place) r.again;
      same = ap (plain.Call plain.Forwards f) r.same;
      starts = λ {p} k v d' end onward.
          begins_to (λ t. statement t k) (call_then (λ g ys. k (Call g ys))) v d d' (Keyword_of keyword.Call on) ts t1 end e1 refl h
          (r.spells (λ g ys. k (Call g ys)) v d' end onward);
    }

uncalls_again : (f : List ℕ) (at : Span) (xs : List Named) (d : ℕ) (ts rest : List Token) → d ≤ depth_limit →
    Spelled (stm_pieces (Uncall (named f at) xs)) ts rest → StmAgain (Uncall (named f at) xs) d ts rest
uncalls_again f at xs d ts rest h (on, t1, e1, s) =
    let r = call_again f xs d t1 rest h s in
    record {
      again = Uncall (named f r.place) r.again;
      same = ap (plain.Call plain.Backwards f) r.same;
      starts = λ {p} k v d' end onward.
          begins_to (λ t. statement t k) (call_then (λ g ys. k (Uncall g ys))) v d d' (Keyword_of keyword.Uncall on) ts t1 end e1 refl h
          (r.spells (λ g ys. k (Uncall g ys)) v d' end onward);
    }

more_again : (s : Stm) (b : Block) (d : ℕ) (ts middle rest : List Token) → StmAgain s d ts middle → BlockAgain b d middle rest → BlockAgain (More s b) d ts rest
more_again s b d ts middle rest first others = record {
  again = More first.again others.again;
  same = (λ n. plain.Cons (first.same n) (others.same n));
  statements = λ {p} k v d' end onward.
      part_to {q = Statements} k (More first.again others.again) v d d d' ts rest end
      (first.starts {p = Statements} (λ x. part Statements (λ y. done (More x y))) (More first.again others.again) d rest
      (others.statements {p = Statements} (λ y. done (More first.again y)) (More first.again others.again) d rest
      (done_to {p = Statements} (More first.again others.again) d rest)))
      onward;
  body = λ some {p} k v d' end onward.
      part_to {q = Body} k (More first.again others.again) v d d d' ts rest end
      (first.starts {p = Body} (λ x. part Statements (λ y. done (More x y))) (More first.again others.again) d rest
      (others.statements {p = Body} (λ y. done (More first.again y)) (More first.again others.again) d rest
      (done_to {p = Body} (More first.again others.again) d rest)))
      onward;
}

mutual
  pub stm_again : (s : Stm) (d : ℕ) (ts rest : List Token) → d ≤ depth_limit → FitsStm s d → Spelled (stm_pieces s) ts rest → StmAgain s d ts rest
  stm_again Skip d ts rest h f s = skip_again d ts rest h s
  stm_again (Assign (named x place) u e) d ts rest h (name, f) s = assign_again x place u e d ts rest h f s
  stm_again (AssignElement (named x place) i u e) d ts rest h (name, few, f, g) s = assign_element_again x place i u e d ts rest h few f g s
  stm_again (Push (named x at) (named y place)) d ts rest h f s = push_again x y at place d ts rest h s
  stm_again (Pop (named x at) (named y place)) d ts rest h f s = pop_again x y at place d ts rest h s
  stm_again (Swap (named x at) (named y place)) d ts rest h f s = swap_again x y at place d ts rest h s
  stm_again (If e s t f) d ts rest h fs p = if_again e s t f (block_again s) (block_again t) d ts rest h fs p
  stm_again (Loop e s t f) d ts rest h fs p = loop_again e s t f (block_again s) (block_again t) d ts rest h fs p
  stm_again (LocalInt (named x place) e s (named y at) f) d ts rest h fs p = local_int_again x place e s y at f (block_again s) d ts rest fs p
  stm_again (LocalStack (named x place) s (named y at)) d ts rest h fs p = local_stack_again x place s y at (block_again s) d ts rest fs p
  stm_again (Call (named f at) xs) d ts rest h fs p = calls_again f at xs d ts rest h p
  stm_again (Uncall (named f at) xs) d ts rest h fs p = uncalls_again f at xs d ts rest h p

  pub block_again : (b : Block) (d : ℕ) (ts rest : List Token) → d ≤ depth_limit → FitsBlock b d → Spelled (block_pieces b) ts rest → BlockAgain b d ts rest
  block_again Empty d ts rest h f s = record {
    again = Empty;
    same = refl;
    statements = λ {p} k v d' end onward. subst (λ x. SpellsTo (part Statements k) v d x d' end) (sym s)
        (left_to {q = Statements} k Empty v d d' rest end refl onward);
    body = λ no. absurd no;
  }
  block_again (More s b) d ts rest h (f, g) p =
      let two = in_two (stm_pieces s) (block_pieces b) ts rest p in
      more_again s b d ts two.0 rest (stm_again s d ts two.0 h f two.1) (block_again b d two.0 rest h g two.2)
