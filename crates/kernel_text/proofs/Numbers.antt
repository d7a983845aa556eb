-- The numbers of an array are written one after the other, and those of a stack.
use Rattle.std.proofs.Common.{add-one, ◌≡◌, ℕ, ℤ, zero, suc, ◌+◌, ◌≤◌, List, [], ◌∷◌, ◌++◌, Option, Some, codes, length, take, drop, sym, ap, subst, ◌∙◌}
use Rattle.std.proofs.Common.{append_assoc, append-nil, refl, slice_get, arith}
use Rattle.std.specs.Prelude.{◌<◌, if◌then◌else◌}
use Rattle.std.proofs.lemmas.Bool.{lt-leb, le-leb}
use Rattle.std.proofs.lemmas.List.{take-append-drop, take_all}
use Rattle.std.specs.Fmt.{signed_decimal}
use Rattle.std.specs.Io.KnownBytes.{Appends}
use Rattle.exact_write.specs.Sent.{SentSome}
use Rattle.kernel_text.specs.ValueTexts.{spaced_text, numbers_text}
use Rattle.exact_write.proofs.SendLemmas.{appends_join, sent_then, sent_first}
use Rattle.std.specs.Option.{unwrap_or}
use Rattle.std.specs.Iterator.{YieldsFirst}
use Rattle.std.specs.Iterator.Adapters.{take_source, take_count, take_steps}
use Rattle.std.specs.declared.iter.Take.{Take}
use Rattle.std.proofs.lemmas.Iterator.{YieldsList, YieldsList-from_take}
use Rattle.std.proofs.lemmas.Iterator.Consumers.{YieldsList-from_first}
use Rattle.janus_memory.specs.Stacks.{held}
use Rattle.janus_memory.specs.declared.stack_view.StackView.{StackView}

Some_inj : {A : Type 0} {x y : A} → Some x ≡ Some y → x ≡ y
Some_inj {x = x} h = ap (λ o. unwrap_or o x) h

-- one number behind its space
abbrev pub one_text : ℤ → List ℕ
one_text n = codes " " ++ signed_decimal n

-- the text of one more number
spaced_next : (l : List ℤ) (i : ℕ) (n : ℤ) → slice_get l i ≡ Some n → spaced_text (take (suc i) l) ≡ spaced_text (take i l) ++ one_text n
spaced_next [] i n h = absurd (cc h)
spaced_next (m ∷ l) zero n h = ap (λ k. one_text k ++ []) (Some_inj h) ∙ append-nil (one_text n)
spaced_next (m ∷ l) (suc i) n h = ap (λ t. one_text m ++ t) (spaced_next l i n h) ∙ sym (append_assoc (one_text m) (spaced_text (take i l)) (one_text n))

spaced_split : (k l : List ℤ) → spaced_text (k ++ l) ≡ spaced_text k ++ spaced_text l
spaced_split [] l = refl
spaced_split (n ∷ k) l = ap (λ t. one_text n ++ t) (spaced_split k l) ∙ sym (append_assoc (one_text n) (spaced_text k) (spaced_text l))

pub number_then : (a b c : Option (List ℕ)) (l : List ℤ) (i : ℕ) (n : ℤ) → slice_get l i ≡ Some n → Appends a b (spaced_text (take i l)) →
    Appends b c (one_text n) → Appends a c (spaced_text (take (i + 1) l))
number_then a b c l i n h p q =
    subst (Appends a c) (sym (spaced_next l i n h) ∙ ap (λ k. spaced_text (take k l)) (sym (add-one i))) (appends_join a b c _ _ p q)

-- one more number behind those that are written
pub number_added : (a b c : Option (List ℕ)) (l : List ℤ) (n : ℤ) → Appends a b (spaced_text l) → Appends b c (one_text n) →
    Appends a c (spaced_text (l ++ n ∷ []))
number_added a b c l n p q =
    subst (Appends a c) (ap (λ t. spaced_text l ++ t) (sym (append-nil (one_text n))) ∙ sym (spaced_split l (n ∷ []))) (appends_join a b c _ _ p q)

pub number_failed : (a b c : Option (List ℕ)) (l : List ℤ) (i : ℕ) (n : ℤ) → slice_get l i ≡ Some n → Appends a b (spaced_text (take i l)) →
    SentSome b c (one_text n) → SentSome a c (spaced_text l)
number_failed a b c l i n h p q =
    let all : spaced_text l ≡ spaced_text (take (suc i) l) ++ spaced_text (drop (suc i) l) = ap spaced_text (sym (take-append-drop (suc i) l))
    ∙ spaced_split (take (suc i) l) (drop (suc i) l) in
    subst (SentSome a c) (sym all)
    (sent_first a c (spaced_text (take (suc i) l)) (spaced_text (drop (suc i) l))
    (subst (SentSome a c) (sym (spaced_next l i n h)) (sent_then a b c _ _ p q)))

pub numbers_all : (a b : Option (List ℕ)) (l : List ℤ) (i : ℕ) → length l ≤ i → Appends a b (spaced_text (take i l)) → Appends a b (spaced_text l)
numbers_all a b l i h p = subst (λ k. Appends a b (spaced_text k)) (take_all i l h) p

-- there are more than are shown
pub more_text : (l : List ℤ) → 32 < length l → numbers_text l ≡ spaced_text (take 32 l) ++ codes " ..."
more_text l h = ap (λ b. if b then spaced_text l else spaced_text (take 32 l) ++ codes " ...") (lt-leb (length l) 32 h)

few_text : (l : List ℤ) → length l ≤ 32 → numbers_text l ≡ spaced_text l
few_text l h = ap (λ b. if b then spaced_text l else spaced_text (take 32 l) ++ codes " ...") (le-leb (length l) 32 h)

-- ---- from the top of a stack down

-- which values come where the newest ones are gone over
pub newest_come : (values : StackView) (count : ℕ) (begun taken : Take StackView) → begun ≡ taken → take_source taken ≡ values → take_count taken ≡ count
    → YieldsList (take_steps (YieldsFirst held)) (λ n. n) begun (take count (held values))
newest_come values count begun taken same source number =
    let top = ap (λ s. held (take_source s)) same ∙ ap held source in
    YieldsList-from_take {s = begun} count (YieldsList-from_first (λ n. n) held (held values) top) (ap take_count same ∙ number)

pub all_tops : (l : List ℤ) → length l ≤ 32 → spaced_text (take (length l) l) ≡ numbers_text l
all_tops l h = ap spaced_text (take_all (length l) l (omega arith)) ∙ sym (few_text l h)
