-- One more entry of the minutes, and the last inputs.
use Rattle.std.proofs.Common.{◌≡◌, ℕ, zero, suc, ◌+◌, ◌<◌, ◌≤◌, Bool, true, false, List, [], ◌∷◌, ◌++◌, length, get_or, take, drop, map, nat_le, refl, sym, ap}
use Rattle.std.proofs.Common.{◌∙◌, arith, Option, None, if◌then◌else◌}
use Rattle.std.specs.List.{filter, flat_map}
use Rattle.std.proofs.lemmas.List.{append-nil, append_assoc, length-append, length-take, take_all, take_more, take-append-le}
use Rattle.std.proofs.lemmas.List.Elements.{filter-append}
use Rattle.std.proofs.Math.Seq.{drop-nil}
use Rattle.std.proofs.lemmas.Bool.{le-leb, lt-leb}
use Rattle.kernel_text.specs.Written.{entry_of}
use Rattle.kernel_text.specs.minutes.Entry.{Entry}
use Rattle.kernel_ask.specs.History.{texts_in, numbered, is_within}

-- the texts of the counted cells among the entries
abbrev pub texts : List Entry → List (List ℕ)
texts es = flat_map texts_in (map entry_of es)

texts_more : (es : List Entry) (e : Entry) → texts (es ++ e ∷ []) ≡ texts es ++ texts_in (entry_of e)
texts_more [] e = append-nil (texts_in (entry_of e))
texts_more (d ∷ es) e = ap (λ ts. texts_in (entry_of d) ++ ts) (texts_more es e) ∙ sym (append_assoc (texts_in (entry_of d)) (texts es) (texts_in (entry_of e)))

texts_next : (es : List Entry) (i : ℕ) (e : Entry) → i < length es → e ≡ get_or es i e → texts (take (i + 1) es) ≡ texts (take i es) ++ texts_in (entry_of e)
texts_next es i e h at = ap texts (take_more es i e h ∙ ap (λ x. take i es ++ x ∷ []) (sym at)) ∙ texts_more (take i es) e

-- an entry that is no counted cell
pub none_more : (es : List Entry) (i k : ℕ) (e : Entry) → i < length es → e ≡ get_or es i e → texts_in (entry_of e) ≡ [] →
    take k (texts (take (i + 1) es)) ≡ take k (texts (take i es))
none_more es i k e h at none = ap (take k) (texts_next es i e h at ∙ ap (λ ts. texts (take i es) ++ ts) none ∙ append-nil (texts (take i es)))

one_text : (ts : List (List ℕ)) (k : ℕ) (t : List ℕ) → length (take k ts) < k → take k (ts ++ t ∷ []) ≡ take k ts ++ t ∷ []
one_text ts k t few =
    let short : length ts < k = omega (arith, length-take k ts) in
    take_all k (ts ++ t ∷ []) (omega (arith, length-append ts (t ∷ []))) ∙ ap (λ us. us ++ t ∷ []) (sym (take_all k ts (omega arith)))

-- one that is, and was begun
pub one_more : (es : List Entry) (i k : ℕ) (e : Entry) (t : List ℕ) → i < length es → e ≡ get_or es i e → texts_in (entry_of e) ≡ t ∷ [] →
    length (take k (texts (take i es))) < k → take k (texts (take (i + 1) es)) ≡ take k (texts (take i es)) ++ t ∷ []
one_more es i k e t h at one few = ap (take k) (texts_next es i e h at ∙ ap (λ ts. texts (take i es) ++ ts) one) ∙ one_text (texts (take i es)) k t few

-- one that is, and was not begun
pub full_more : (es : List Entry) (i k : ℕ) (e : Entry) (t : List ℕ) → i < length es → e ≡ get_or es i e → texts_in (entry_of e) ≡ t ∷ [] →
    k ≤ length (take k (texts (take i es))) → take k (texts (take (i + 1) es)) ≡ take k (texts (take i es))
full_more es i k e t h at one full =
    ap (take k) (texts_next es i e h at ∙ ap (λ ts. texts (take i es) ++ ts) one)
    ∙ take-append-le k (texts (take i es)) (t ∷ []) (omega (arith, length-take k (texts (take i es))))

-- ---- numbers

pub length_numbered : (n : ℕ) (ts : List (List ℕ)) → length (numbered n ts) ≡ length ts
length_numbered n [] = refl
length_numbered n (t ∷ ts) = ap suc (length_numbered (suc n) ts)

pub numbered_more : (n : ℕ) (ts : List (List ℕ)) (t : List ℕ) → numbered n (ts ++ t ∷ []) ≡ numbered n ts ++ (n + length ts, t) ∷ []
numbered_more n [] t = let e : n ≡ n + 0 = omega arith in ap (λ (k : ℕ). (k, t) ∷ []) e
numbered_more n (u ∷ ts) t =
    let e : suc n + length ts ≡ n + suc (length ts) = omega arith in
    ap (λ is. (n, u) ∷ is) (numbered_more (suc n) ts t ∙ ap (λ (k : ℕ). numbered (suc n) ts ++ (k, t) ∷ []) e)

-- ---- what is told

pub number_more : (es : List Entry) (i k : ℕ) (e : Entry) (t : List ℕ) (number : ℕ) → i < length es → e ≡ get_or es i e → texts_in (entry_of e) ≡ t ∷ [] →
    number ≡ length (take k (texts (take i es))) → number < k → number + 1 ≡ length (take k (texts (take (i + 1) es)))
number_more es i k e t number h at one is few =
    let more = ap length (one_more es i k e t h at one (omega (arith, is, few))) in
    omega (arith, is, more, length-append (take k (texts (take i es))) (t ∷ []))

pub told_more : (start : ℕ) (stop : Option ℕ) (es : List Entry) (i k : ℕ) (e : Entry) (t : List ℕ) (number : ℕ) (old new : List (ℕ × List ℕ)) → i < length es →
    e ≡ get_or es i e → texts_in (entry_of e) ≡ t ∷ [] →
    number ≡ length (take k (texts (take i es))) → number < k → old ≡ filter (λ i. is_within start stop i.0) (numbered 1 (take k (texts (take i es)))) →
    new ≡ old ++ filter (λ i. is_within start stop i.0) ((number + 1, t) ∷ []) →
    new ≡ filter (λ i. is_within start stop i.0) (numbered 1 (take k (texts (take (i + 1) es))))
told_more start stop es i k e t number old new h at one is few was now =
    let ts = take k (texts (take i es)) in
    let within : ℕ × List ℕ → Bool = λ i. is_within start stop i.0 in
    let next : number + 1 ≡ 1 + length ts = omega (arith, is) in
    now ∙ ap (λ xs. xs ++ filter within ((number + 1, t) ∷ [])) was
    ∙ ap (λ (n : ℕ). filter within (numbered 1 ts) ++ filter within ((n, t) ∷ [])) next
    ∙ sym (filter-append within (numbered 1 ts) ((1 + length ts, t) ∷ []))
    ∙ ap (filter within) (sym (numbered_more 1 ts t))
    ∙ ap (λ us. filter within (numbered 1 us)) (sym (one_more es i k e t h at one (omega (arith, is, few))))

kept : (b : Bool) (x : ℕ × List ℕ) (xs ys : List (ℕ × List ℕ)) → b ≡ true → xs ≡ ys → (if b then x ∷ xs else xs) ≡ x ∷ ys
kept b x xs ys e h = ap (λ c. if c then x ∷ xs else xs) e ∙ ap (λ zs. x ∷ zs) h

left_out : (b : Bool) (x : ℕ × List ℕ) (xs ys : List (ℕ × List ℕ)) → b ≡ false → xs ≡ ys → (if b then x ∷ xs else xs) ≡ ys
left_out b x xs ys e h = ap (λ c. if c then x ∷ xs else xs) e ∙ h

all_kept : (a b : ℕ) (ts : List (List ℕ)) → b ≤ a → filter (λ i. is_within b None i.0) (numbered a ts) ≡ numbered a ts
all_kept a b [] h = refl
all_kept a b (t ∷ ts) h = kept (nat_le b a) (a, t) (filter (λ i. is_within b None i.0) (numbered (suc a) ts)) (numbered (suc a) ts) (le-leb b a h)
    (all_kept (suc a) b ts (omega (arith, h)))

-- those behind the first d
pub last_numbered : (a d : ℕ) (ts : List (List ℕ)) → filter (λ i. is_within (a + d) None i.0) (numbered a ts) ≡ drop d (numbered a ts)
last_numbered a d [] = sym (drop-nil d)
last_numbered a zero (t ∷ ts) = all_kept a (a + 0) (t ∷ ts) (omega arith)
last_numbered a (suc d) (t ∷ ts) =
    let e : a + suc d ≡ suc a + d = omega arith in
    left_out (nat_le (a + suc d) a) (a, t) (filter (λ i. is_within (a + suc d) None i.0) (numbered (suc a) ts)) (drop d (numbered (suc a) ts))
    (lt-leb (a + suc d) a (omega arith))
    (ap (λ (n : ℕ). filter (λ i. is_within n None i.0) (numbered (suc a) ts)) e ∙ last_numbered (suc a) d ts)
