-- How trees are stored as lists, in postfix form, so that contracts can have them as values.
use Rattle.std.specs.Prelude.{◌≡◌, ℕ, ℤ, pos, negsuc, List, [], ◌∷◌, ◌++◌, get_or, refl}
use Rattle.std.specs.Coded.{Coded, code_by, coded×, coded_ℕ, coded_ℤ, coded_list}
use Rattle.std.proofs.Common.{ap, ◌∙◌}
use Rattle.janus_meaning.specs.Word.{Update, Operator, Plus, Minus, Flip, Add', Sub', Mul', Div', Rem', And', Or', Xor', Less', More', AtMost', AtLeast'}
use Rattle.janus_meaning.specs.Word.{Same', Differ'}
use Rattle.janus_meaning.specs.Syntax.{Name, Exp, Number, Var, At, Empty, Top, Negate, Binary, And, Or, Stm, Blk, Do, Skip, Set, SetAt, Push, Pop, Swap}
use Rattle.janus_meaning.specs.Syntax.{Branch, If, From, Local, LocalInt, LocalStack, Call, Forwards, Backwards, Nil, Cons, Proc, Kind, ANumber, AnArray}
use Rattle.janus_meaning.specs.Syntax.{AStack}

abbrev kind_number : Kind → ℕ
kind_number ANumber = 0
kind_number AnArray = 1
kind_number AStack = 2

abbrev kind_numbered : ℕ → Kind
kind_numbered n = get_or (ANumber ∷ AnArray ∷ AStack ∷ []) n AStack

abbrev kind_back : (x : Kind) → kind_numbered (kind_number x) ≡ x
kind_back ANumber = refl
kind_back AnArray = refl
kind_back AStack = refl

-- ---- operators and updates

abbrev operator_number : Operator → ℕ
operator_number Add' = 0
operator_number Sub' = 1
operator_number Mul' = 2
operator_number Div' = 3
operator_number Rem' = 4
operator_number And' = 5
operator_number Or' = 6
operator_number Xor' = 7
operator_number Less' = 8
operator_number More' = 9
operator_number AtMost' = 10
operator_number AtLeast' = 11
operator_number Same' = 12
operator_number Differ' = 13

-- in the order of their numbers
abbrev operators : List Operator
operators = Add' ∷ Sub' ∷ Mul' ∷ Div' ∷ Rem' ∷ And' ∷ Or' ∷ Xor' ∷ Less' ∷ More' ∷ AtMost' ∷ AtLeast' ∷ Same' ∷ Differ' ∷ []

abbrev operator_at : ℤ → Operator
operator_at (pos n) = get_or operators n Add'
operator_at (negsuc n) = Add'

operator_back : (o : Operator) → operator_at (pos (operator_number o)) ≡ o
operator_back Add' = refl
operator_back Sub' = refl
operator_back Mul' = refl
operator_back Div' = refl
operator_back Rem' = refl
operator_back And' = refl
operator_back Or' = refl
operator_back Xor' = refl
operator_back Less' = refl
operator_back More' = refl
operator_back AtMost' = refl
operator_back AtLeast' = refl
operator_back Same' = refl
operator_back Differ' = refl

abbrev update_number : Update → ℕ
update_number Plus = 0
update_number Minus = 1
update_number Flip = 2

abbrev update_at : ℤ → Update
update_at (pos n) = get_or (Plus ∷ Minus ∷ Flip ∷ []) n Plus
update_at (negsuc n) = Plus

update_back : (o : Update) → update_at (pos (update_number o)) ≡ o
update_back Plus = refl
update_back Minus = refl
update_back Flip = refl

-- ---- trees

-- what a token does, a number and names; the trees that the tokens before it made, the last one first
abbrev Token : Type 0
Token = ℕ × (ℤ × List Name)

record Made : Type 0 where
  exps : List Exp
  stms : List Stm
  blks : List Blk

abbrev first : List Name → Name
first [] = []
first (x ∷ xs) = x

abbrev rest : List Name → List Name
rest [] = []
rest (x ∷ xs) = xs

abbrev exp : List Exp → Exp
exp [] = Number (pos 0)
exp (e ∷ es) = e

abbrev exps : List Exp → List Exp
exps [] = []
exps (e ∷ es) = es

abbrev stm : List Stm → Stm
stm [] = (Do Skip)
stm (c ∷ cs) = c

abbrev stms : List Stm → List Stm
stms [] = []
stms (c ∷ cs) = cs

abbrev blk : List Blk → Blk
blk [] = Nil
blk (b ∷ bs) = b

abbrev blks : List Blk → List Blk
blks [] = []
blks (b ∷ bs) = bs

abbrev with_exp : Exp → List Exp → Made → Made
with_exp e es m = record m { exps = e ∷ es }

abbrev with_stm : Stm → List Exp → List Blk → Made → Made
with_stm c es bs m = record { exps = es; stms = c ∷ m.stms; blks = bs }

-- what a token does with the trees so far, by its number and names
abbrev Action : Type 0
Action = ℤ → List Name → Made → Made

-- the tokens 0 to 8
abbrev expression_actions : List Action
expression_actions =
    (λ n xs m. with_exp (Number n) m.exps m)
    ∷ (λ n xs m. with_exp (Var (first xs)) m.exps m)
    ∷ (λ n xs m. with_exp (At (first xs) (exp m.exps)) (exps m.exps) m)
    ∷ (λ n xs m. with_exp (Empty (first xs)) m.exps m)
    ∷ (λ n xs m. with_exp (Top (first xs)) m.exps m)
    ∷ (λ n xs m. with_exp (Negate (exp m.exps)) (exps m.exps) m)
    ∷ (λ n xs m. with_exp (Binary (operator_at n) (exp (exps m.exps)) (exp m.exps)) (exps (exps m.exps)) m)
    ∷ (λ n xs m. with_exp (And (exp (exps m.exps)) (exp m.exps)) (exps (exps m.exps)) m)
    ∷ (λ n xs m. with_exp (Or (exp (exps m.exps)) (exp m.exps)) (exps (exps m.exps)) m)
    ∷ []

-- the tokens 9 to 20
abbrev statement_actions : List Action
statement_actions =
    (λ n xs m. with_stm (Do Skip) m.exps m.blks m)
    ∷ (λ n xs m. with_stm (Do (Set (first xs) (update_at n) (exp m.exps))) (exps m.exps) m.blks m)
    ∷ (λ n xs m. with_stm (Do (SetAt (first xs) (exp (exps m.exps)) (update_at n) (exp m.exps))) (exps (exps m.exps)) m.blks m)
    ∷ (λ n xs m. with_stm (Do (Push (first xs) (first (rest xs)))) m.exps m.blks m)
    ∷ (λ n xs m. with_stm (Do (Pop (first xs) (first (rest xs)))) m.exps m.blks m)
    ∷ (λ n xs m. with_stm (Branch If (exp (exps m.exps)) (blk (blks m.blks)) (blk m.blks) (exp m.exps)) (exps (exps m.exps)) (blks (blks m.blks)) m)
    ∷ (λ n xs m. with_stm (Branch From (exp (exps m.exps)) (blk (blks m.blks)) (blk m.blks) (exp m.exps)) (exps (exps m.exps)) (blks (blks m.blks)) m)
    ∷ (λ n xs m. with_stm (Local (first xs) (LocalInt (exp (exps m.exps)) (exp m.exps)) (blk m.blks)) (exps (exps m.exps)) (blks m.blks) m)
    ∷ (λ n xs m. with_stm (Local (first xs) LocalStack (blk m.blks)) m.exps (blks m.blks) m)
    ∷ (λ n xs m. with_stm (Call Forwards (first xs) (rest xs)) m.exps m.blks m)
    ∷ (λ n xs m. with_stm (Call Backwards (first xs) (rest xs)) m.exps m.blks m)
    ∷ (λ n xs m. with_stm (Do (Swap (first xs) (first (rest xs)))) m.exps m.blks m)
    ∷ []

-- the tokens 21 and 22
abbrev block_actions : List Action
block_actions =
    (λ n xs m. record m { blks = Nil ∷ m.blks })
    ∷ (λ n xs m. record m { stms = stms m.stms; blks = Cons (stm m.stms) (blk m.blks) ∷ blks m.blks })
    ∷ []

abbrev actions : List Action
actions = expression_actions ++ statement_actions ++ block_actions

-- the trees after a token
abbrev act : Token → Made → Made
act t m = get_or actions t.0 (λ n xs made. made) t.1.0 t.1.1 m

abbrev make : List Token → Made → Made
make [] m = m
make (t ∷ ts) m = make ts (act t m)

-- a token with this number, and a number and names
abbrev token : ℕ → ℕ → List Name → Token
token k n xs = (k, (pos n, xs))

-- the tokens of a tree, and behind them others
abbrev exp_tokens : Exp → List Token → List Token
exp_tokens (Number n) ts = (0, (n, [])) ∷ ts
exp_tokens (Var x) ts = token 1 0 (x ∷ []) ∷ ts
exp_tokens (At a i) ts = exp_tokens i (token 2 0 (a ∷ []) ∷ ts)
exp_tokens (Empty x) ts = token 3 0 (x ∷ []) ∷ ts
exp_tokens (Top x) ts = token 4 0 (x ∷ []) ∷ ts
exp_tokens (Negate e) ts = exp_tokens e (token 5 0 [] ∷ ts)
exp_tokens (Binary o l r) ts = exp_tokens l (exp_tokens r (token 6 (operator_number o) [] ∷ ts))
exp_tokens (And l r) ts = exp_tokens l (exp_tokens r (token 7 0 [] ∷ ts))
exp_tokens (Or l r) ts = exp_tokens l (exp_tokens r (token 8 0 [] ∷ ts))

abbrev mutual
  stm_tokens : Stm → List Token → List Token
  stm_tokens (Do Skip) ts = token 9 0 [] ∷ ts
  stm_tokens (Do (Set x o e)) ts = exp_tokens e (token 10 (update_number o) (x ∷ []) ∷ ts)
  stm_tokens (Do (SetAt a i o e)) ts = exp_tokens i (exp_tokens e (token 11 (update_number o) (a ∷ []) ∷ ts))
  stm_tokens (Do (Push x y)) ts = token 12 0 (x ∷ y ∷ []) ∷ ts
  stm_tokens (Do (Pop x y)) ts = token 13 0 (x ∷ y ∷ []) ∷ ts
  stm_tokens (Branch If a s t b) ts = exp_tokens a (blk_tokens s (blk_tokens t (exp_tokens b (token 14 0 [] ∷ ts))))
  stm_tokens (Branch From a s t b) ts = exp_tokens a (blk_tokens s (blk_tokens t (exp_tokens b (token 15 0 [] ∷ ts))))
  stm_tokens (Local x (LocalInt a b) s) ts = exp_tokens a (blk_tokens s (exp_tokens b (token 16 0 (x ∷ []) ∷ ts)))
  stm_tokens (Local x LocalStack s) ts = blk_tokens s (token 17 0 (x ∷ []) ∷ ts)
  stm_tokens (Call Forwards f xs) ts = token 18 0 (f ∷ xs) ∷ ts
  stm_tokens (Call Backwards f xs) ts = token 19 0 (f ∷ xs) ∷ ts
  stm_tokens (Do (Swap x y)) ts = token 20 0 (x ∷ y ∷ []) ∷ ts

  blk_tokens : Blk → List Token → List Token
  blk_tokens Nil ts = token 21 0 [] ∷ ts
  blk_tokens (Cons c b) ts = stm_tokens c (blk_tokens b (token 22 0 [] ∷ ts))

made_exp : (e : Exp) (ts : List Token) (es : List Exp) (cs : List Stm) (bs : List Blk) →
    make (exp_tokens e ts) (record { exps = es; stms = cs; blks = bs }) ≡ make ts (record { exps = e ∷ es; stms = cs; blks = bs })
made_exp (Number n) ts es cs bs = refl
made_exp (Var x) ts es cs bs = refl
made_exp (At a i) ts es cs bs = made_exp i _ es cs bs
made_exp (Empty x) ts es cs bs = refl
made_exp (Top x) ts es cs bs = refl
made_exp (Negate e) ts es cs bs = made_exp e _ es cs bs
made_exp (Binary o l r) ts es cs bs =
    made_exp l _ es cs bs ∙ made_exp r _ (l ∷ es) cs bs
    ∙ ap (λ (p : Operator). make ts (record { exps = Binary p l r ∷ es; stms = cs; blks = bs })) (operator_back o)
made_exp (And l r) ts es cs bs = made_exp l _ es cs bs ∙ made_exp r _ (l ∷ es) cs bs
made_exp (Or l r) ts es cs bs = made_exp l _ es cs bs ∙ made_exp r _ (l ∷ es) cs bs

mutual
  made_stm : (c : Stm) (ts : List Token) (es : List Exp) (cs : List Stm) (bs : List Blk) →
      make (stm_tokens c ts) (record { exps = es; stms = cs; blks = bs }) ≡ make ts (record { exps = es; stms = c ∷ cs; blks = bs })
  made_stm (Do Skip) ts es cs bs = refl
  made_stm (Do (Set x o e)) ts es cs bs =
      made_exp e _ es cs bs
      ∙ ap (λ (p : Update). make ts (record { exps = es; stms = Do (Set x p e) ∷ cs; blks = bs })) (update_back o)
  made_stm (Do (SetAt a i o e)) ts es cs bs =
      made_exp i _ es cs bs ∙ made_exp e _ (i ∷ es) cs bs
      ∙ ap (λ (p : Update). make ts (record { exps = es; stms = Do (SetAt a i p e) ∷ cs; blks = bs })) (update_back o)
  made_stm (Do (Push x y)) ts es cs bs = refl
  made_stm (Do (Pop x y)) ts es cs bs = refl
  made_stm (Branch If a s t b) ts es cs bs =
      made_exp a _ es cs bs ∙ made_blk s _ (a ∷ es) cs bs ∙ made_blk t _ (a ∷ es) cs (s ∷ bs)
      ∙ made_exp b _ (a ∷ es) cs (t ∷ s ∷ bs)
  made_stm (Branch From a s t b) ts es cs bs =
      made_exp a _ es cs bs ∙ made_blk s _ (a ∷ es) cs bs ∙ made_blk t _ (a ∷ es) cs (s ∷ bs)
      ∙ made_exp b _ (a ∷ es) cs (t ∷ s ∷ bs)
  made_stm (Local x (LocalInt a b) s) ts es cs bs =
      made_exp a _ es cs bs ∙ made_blk s _ (a ∷ es) cs bs ∙ made_exp b _ (a ∷ es) cs (s ∷ bs)
  made_stm (Local x LocalStack s) ts es cs bs = made_blk s _ es cs bs
  made_stm (Call Forwards f xs) ts es cs bs = refl
  made_stm (Call Backwards f xs) ts es cs bs = refl
  made_stm (Do (Swap x y)) ts es cs bs = refl

  made_blk : (b : Blk) (ts : List Token) (es : List Exp) (cs : List Stm) (bs : List Blk) →
      make (blk_tokens b ts) (record { exps = es; stms = cs; blks = bs }) ≡ make ts (record { exps = es; stms = cs; blks = b ∷ bs })
  made_blk Nil ts es cs bs = refl
  made_blk (Cons c b) ts es cs bs = made_stm c _ es cs bs ∙ made_blk b _ es (c ∷ cs) bs

abbrev block_tokens : Blk → List Token
block_tokens b = blk_tokens b []

abbrev tokens_block : List Token → Blk
tokens_block ts = blk (make ts (record { exps = []; stms = []; blks = [] })).blks

pub block_back : (b : Blk) → tokens_block (block_tokens b) ≡ b
block_back b = ap (λ (m : Made). blk m.blks) (made_blk b [] [] [] [])

abbrev pub name_code : Coded Name
name_code = coded_list coded_ℕ

abbrev pub block_code : Coded Blk
block_code = code_by (List Token) (coded_list (coded× coded_ℕ (coded× coded_ℤ (coded_list name_code)))) block_tokens tokens_block block_back

abbrev kind_code : Coded Kind
kind_code = code_by ℕ coded_ℕ kind_number kind_numbered kind_back

abbrev pub proc_code : Coded Proc
proc_code =
    code_by (Name × (List (Name × Kind) × Blk)) (coded× name_code (coded× (coded_list (coded× name_code kind_code)) block_code))
    (λ p. (p.name, (p.params, p.body))) (λ p. record { name = p.0; params = p.1.0; body = p.1.1 }) (λ _. refl)
