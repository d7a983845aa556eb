-- The words of the command line, one by one: what each that passes is, and where it leads.
use Rattle.std.proofs.Common.{◌≡◌, ◌⊎◌, ◌∙◌, ℕ, Bool, true, false, List, [], ◌∷◌, ◌++◌, Option, Some, None, inl, inr, refl, sym, ap, subst, arith, codes}
use Rattle.std.specs.Prelude.{if◌then◌else◌, nat_lt, option_and_then, slice_get, take, drop, encode_utf8, ◌==◌, ◌+◌, suc, zero, length}
use Rattle.std.specs.List.{before_first, after_first, position_or_len}
use Rattle.std.specs.Option.{option_map_or}
use Rattle.std.specs.Str.{bytes_eq, chars}
use Rattle.std.proofs.lemmas.Bool.{eqb-true}
use Rattle.std.proofs.lemmas.Slice.Eq.{bytes_eq-Decides}
use Rattle.clap.specs.Faults.{bundle_fault, bundle_step_fault, flag_word_fault, flags_fault, long_fault, react_fault, settle_fault, short_fault, step_fault}
use Rattle.clap.specs.Faults.{turn_fault, use_fault, walk_fault}
use Rattle.clap.specs.Kinds.{Kinds, or_else}
use Rattle.clap.specs.Lexer.{has_byte, long_of, long_of_rest, name_and_value, short_of, strip_byte}
use Rattle.clap.specs.Simple.{App, Shape, built, filled, help_rule, new_app, new_rule, on_top, version_rule, with_rule}
use Rattle.clap.specs.Walk.{Held, Rule, Row, Step, Text, Waiting, Walk, after_flag, after_step, arg_by_long, arg_by_short, bundle_met, bundle_step, idle}
use Rattle.clap.specs.Walk.{long_met, long_or_other, option, plain, plain_word, pushed, pending_count, reacted, settled, short_or_plain, trailing, walked}
use Rattle.clap.specs.declared.builder.value_parser.ValueParser.TheVariants as vp
use Rattle.clap.specs.declared.error.kind.ErrorKind.TheVariants as kind

-- ---- the program's command line

abbrev pub default_text : Text
default_text = codes "10000000"

abbrev pub steps_rule : Rule
steps_rule = record (new_rule (codes "steps")) {
  long = Some (codes "steps");
  value_names = 1;
  defaults = default_text ∷ [];
  parser = Some (vp.Unsigned 1 1000000000000);
}

abbrev pub versioned : Shape → Shape
versioned s = record s { has_version = true }

abbrev pub program : App
program = with_rule (on_top versioned (new_app (codes "janus-cells"))) steps_rule

-- what building makes of it
abbrev pub top : Shape
top = (built program).top

abbrev pub rules : List Rule
rules = top.rules

abbrev pub given : Rule
given = filled steps_rule

-- ---- kinds

pub or_else_first : (a b : Kinds) → or_else a b ≡ [] → a ≡ []
or_else_first [] b e = refl
or_else_first (k ∷ ks) b e = cc

pub or_else_second : (a b : Kinds) → or_else a b ≡ [] → b ≡ []
or_else_second [] b e = e
or_else_second (k ∷ ks) b e = cc

-- ---- texts

stripped : (c : ℕ) (word rest : List ℕ) → strip_byte c word ≡ Some rest → word ≡ c ∷ rest
stripped c [] rest h = cc
stripped c (x ∷ xs) rest h = go (x == c) refl h
  where
    go : (b : Bool) → (x == c) ≡ b → (if b then Some xs else None) ≡ Some rest → x ∷ xs ≡ c ∷ rest
    go true e h = let same : x ≡ c = eqb-true x c e in cc
    go false e h = cc

take_more : (n x : ℕ) (xs : List ℕ) → take (1 + n) (x ∷ xs) ≡ x ∷ take n xs
take_more n x xs = let more : 1 + n ≡ suc n = omega arith in ap (λ k. take k (x ∷ xs)) more

cut_more : (n x : ℕ) (xs : List ℕ) → take (1 + n) (x ∷ xs) ++ 61 ∷ drop (1 + n + 1) (x ∷ xs) ≡ x ∷ (take n xs ++ 61 ∷ drop (n + 1) xs)
cut_more n x xs =
    let more : 1 + n + 1 ≡ suc (n + 1) = omega arith in
    ap (λ t. t ++ 61 ∷ drop (1 + n + 1) (x ∷ xs)) (take_more n x xs) ∙ ap (λ k. x ∷ (take n xs ++ 61 ∷ drop k (x ∷ xs))) more

-- what stands before and after the first `=`
cut_at_equals : (xs : List ℕ) → ((has_byte 61 xs ≡ false) × (before_first (λ x. x == 61) xs ≡ xs))
    ⊎ ((has_byte 61 xs ≡ true) × (xs ≡ before_first (λ x. x == 61) xs ++ 61 ∷ after_first (λ x. x == 61) xs))
cut_at_equals [] = inl (refl, refl)
cut_at_equals (x ∷ xs) = go (x == 61) refl (cut_at_equals xs)
  where
    go : (b : Bool) → (x == 61) ≡ b
        → ((has_byte 61 xs ≡ false) × (before_first (λ y. y == 61) xs ≡ xs))
        ⊎ ((has_byte 61 xs ≡ true) × (xs ≡ before_first (λ y. y == 61) xs ++ 61 ∷ after_first (λ y. y == 61) xs))
        → ((has_byte 61 (x ∷ xs) ≡ false) × (before_first (λ y. y == 61) (x ∷ xs) ≡ x ∷ xs))
        ⊎ ((has_byte 61 (x ∷ xs) ≡ true) × (x ∷ xs ≡ before_first (λ y. y == 61) (x ∷ xs) ++ 61 ∷ after_first (λ y. y == 61) (x ∷ xs)))
    go true e h = inr (rw e, rw e (ap (λ y. y ∷ xs) (eqb-true x 61 e)))
    go false e (inl h) = inl (rw (e, h.0), rw e (take_more (position_or_len (λ y. y == 61) xs) x xs ∙ ap (λ ys. x ∷ ys) h.1))
    go false e (inr h) = inr (
      rw (e, h.0),
      rw e (ap (λ ys. x ∷ ys) h.1 ∙ sym (cut_more (position_or_len (λ y. y == 61) xs) x xs)),
    )

-- a word `--name` or `--name=value`
long_word_is : (word name : Text) (value : Option Text) → long_of word ≡ Some (name, value)
    → ((value ≡ None) × (word ≡ codes "--" ++ name)) ⊎ ((v : Text) × (value ≡ Some v) × (word ≡ codes "--" ++ (name ++ 61 ∷ v)))
long_word_is word name value h = first (strip_byte 45 word) refl h
  where
    named : (rest : Text) → word ≡ codes "--" ++ rest → name_and_value rest ≡ (name, value)
        → ((value ≡ None) × (word ≡ codes "--" ++ name)) ⊎ ((v : Text) × (value ≡ Some v) × (word ≡ codes "--" ++ (name ++ 61 ∷ v)))
    named rest is e =
        let before : before_first (λ x. x == 61) rest ≡ name = ap (λ p. p.0) e in
        let after : (if has_byte 61 rest then Some (after_first (λ x. x == 61) rest) else None) ≡ value = ap (λ p. p.1) e in
        elim (cut_at_equals rest) [
          | inl none ↦ inl (sym (rw none.0 at after), is ∙ ap (λ t. codes "--" ++ t) (sym none.1 ∙ before))
          | inr some ↦ inr (
            after_first (λ x. x == 61) rest,
            sym (rw some.0 at after),
            is ∙ ap (λ t. codes "--" ++ t) (some.1 ∙ ap (λ t. t ++ 61 ∷ after_first (λ x. x == 61) rest) before),
          )
        ]

    second : (one : Text) → word ≡ 45 ∷ one → (o : Option Text) → strip_byte 45 one ≡ o → option_and_then (long_of_rest) o ≡ Some (name, value)
        → ((value ≡ None) × (word ≡ codes "--" ++ name)) ⊎ ((v : Text) × (value ≡ Some v) × (word ≡ codes "--" ++ (name ++ 61 ∷ v)))
    second one is None e h = cc
    second one is (Some []) e h = cc
    second one is (Some (x ∷ xs)) e h =
        let pair : name_and_value (x ∷ xs) ≡ (name, value) = cc in
        named (x ∷ xs) (is ∙ ap (λ t. 45 ∷ t) (stripped 45 one (x ∷ xs) e)) pair

    first : (o : Option Text) → strip_byte 45 word ≡ o → option_and_then (long_of_rest) (option_and_then (strip_byte 45) o) ≡ Some (name, value)
        → ((value ≡ None) × (word ≡ codes "--" ++ name)) ⊎ ((v : Text) × (value ≡ Some v) × (word ≡ codes "--" ++ (name ++ 61 ∷ v)))
    first None e h = cc
    first (Some one) e h = second one (stripped 45 word one e) (strip_byte 45 one) refl h

-- the same of the option
pub steps_word_is : (word name : Text) (value : Option Text) → long_of word ≡ Some (name, value) → bytes_eq (codes "steps") name ≡ true
    → ((value ≡ None) × (word ≡ codes "--steps")) ⊎ ((v : Text) × (value ≡ Some v) × (word ≡ codes "--steps=" ++ v))
steps_word_is word name value h same =
    let is : codes "steps" ≡ name = (bytes_eq-Decides (codes "steps") name).0 same in
    rw (← is) at (long_word_is word name value h)

-- ---- where the walk stands

-- an option waits for its value, or nothing does
abbrev pub waits : Bool → Waiting
waits some = if some then option (codes "steps") else idle

abbrev pub held : List Row → Option (Text × List Text) → Held
held rows pending = record { rows = rows; pending = pending; skip = 0 }

abbrev pub at : Held → Bool → Bool → Walk
at h some behind = record { held = h; waiting = waits some; position = 1; is_trailing = behind; stopped = None }

-- ---- one word that passes

-- what a word that meets no fault is, and where it leads: `--`; the option with its value; the option alone; or the value that it
-- waits for
pub data Passes (rows : List Row) (pending : Option (Text × List Text)) (word : Text) (some : Bool) : Walk → Type 0 where
  closes : word ≡ codes "--" → Passes rows pending word some (at (held rows pending) some true)
  joins : {v : Text} → word ≡ codes "--steps=" ++ v → react_fault rules false given (v ∷ []) (held rows pending) ≡ []
      → Passes rows pending word some (at (reacted rules given (v ∷ []) (held rows pending)) false false)
  opens : word ≡ codes "--steps" → settle_fault rules false (held rows pending) ≡ []
      → Passes rows pending word some (at (record (settled rules (held rows pending)) { pending = Some (codes "steps", []) }) true false)
  fills : some ≡ true
      → Passes rows pending word some
      (at (pushed (codes "steps") word (held rows pending)) (nat_lt (pending_count given (pushed (codes "steps") word (held rows pending)).pending) 1)
      false)

-- a word behind `--` never passes
pub behind_end : (h : Held) (some : Bool) (word : Text) (rest : List Text) → walk_fault top [] (at h some true) (word ∷ rest) ≡ [] → ⊥
unfolding walk_fault
behind_end h some word rest e = let none : kind.UnknownArgument ∷ [] ≡ [] = e in cc

-- ---- which words pass

abbrev help : Rule
help = filled help_rule

abbrev version : Rule
version = filled version_rule

-- a flag by which something is printed, and nothing else
pub data Prints : Rule → Type 0 where
  prints_help : Prints help
  prints_version : Prints version

-- such a flag was named, or none
abbrev PrintsOrNone : Option Rule → Type 0
PrintsOrNone f = ((r : Rule) × Prints r × (f ≡ Some r)) ⊎ (f ≡ None)

-- which option a name names
found_long : (name : Text) → ((bytes_eq (codes "steps") name ≡ true) × (arg_by_long rules name ≡ Some given)) ⊎ PrintsOrNone (arg_by_long rules name)
found_long name =
    go (bytes_eq (codes "steps") name) refl (bytes_eq (codes "help") name) refl (bytes_eq (codes "version") name) refl
  where
    go : (a : Bool) → bytes_eq (codes "steps") name ≡ a → (b : Bool) → bytes_eq (codes "help") name ≡ b → (c : Bool) → bytes_eq (codes "version") name ≡ c
        → ((bytes_eq (codes "steps") name ≡ true) × (arg_by_long rules name ≡ Some given)) ⊎ PrintsOrNone (arg_by_long rules name)
    go true e b f c g = inl (e, rw e)
    go false e true f c g = inr (inl (help, prints_help, rw (e, f)))
    go false e false f true g = inr (inl (version, prints_version, rw (e, f, g)))
    go false e false f false g = inr (inr (rw (e, f, g)))

found_short : (x : ℕ) → PrintsOrNone (arg_by_short rules x)
found_short x = go (104 == x) refl (86 == x) refl
  where
    go : (b : Bool) → (104 == x) ≡ b → (c : Bool) → (86 == x) ≡ c → PrintsOrNone (arg_by_short rules x)
    go true e c f = inl (help, prints_help, rw e)
    go false e true f = inl (version, prints_version, rw (e, f))
    go false e false f = inr (rw (e, f))

unknown_first : (b : Kinds) → or_else (kind.UnknownArgument ∷ []) b ≡ [] → ⊥
unknown_first b e = cc

prints : (r : Rule) → Prints r → (h : Held) → react_fault rules false r [] h ≡ [] → ⊥
prints r prints_help h e =
    let shown : use_fault false help [] (settled rules h).rows ≡ [] =
    or_else_second (settle_fault rules false h) (use_fault false help [] (settled rules h).rows) e in
    let none : kind.DisplayHelp ∷ [] ≡ [] = shown in
    cc
prints r prints_version h e =
    let shown : use_fault false version [] (settled rules h).rows ≡ [] =
    or_else_second (settle_fault rules false h) (use_fault false version [] (settled rules h).rows) e in
    let none : kind.DisplayVersion ∷ [] ≡ [] = shown in
    cc

prints_first : (r : Rule) → Prints r → (h : Held) (b c : Kinds) → or_else (or_else (react_fault rules false r [] h) b) c ≡ [] → ⊥
prints_first r p h b c e =
    prints r p h (or_else_first (react_fault rules false r [] h) b (or_else_first (or_else (react_fault rules false r [] h) b) c e))

-- such a flag takes no value, and has one letter
short_prints : (r : Rule) → Prints r → (rest : Text) (h : Held) (next : Held → Kinds) (c : Kinds) →
    or_else (short_fault rules false (Some r) rest h next) c ≡ [] → ⊥
short_prints r prints_help rest h next c e = prints_first help prints_help h (next (reacted rules help [] h)) c e
short_prints r prints_version rest h next c e = prints_first version prints_version h (next (reacted rules version [] h)) c e

no_short : (f : Option Rule) → PrintsOrNone f → (rest : Text) (h : Held) (next : Held → Kinds) (c : Kinds) →
    or_else (short_fault rules false f rest h next) c ≡ [] → ⊥
no_short f (inl (r, p, is)) rest h next c e =
    short_prints r p rest h next c (subst (λ g. or_else (short_fault rules false g rest h next) c ≡ []) is e)
no_short f (inr is) rest h next c e = unknown_first c (subst (λ g. or_else (short_fault rules false g rest h next) c ≡ []) is e)

-- what a step passes, and where it leads
abbrev StepPasses : List Row → Option (Text × List Text) → Text → Bool → Kinds → Held × Step → Type 0
StepPasses rows pending word some fault met =
    or_else fault (step_fault top 1 met.0 met.1) ≡ [] → Passes rows pending word some (after_step rules word (at (held rows pending) some false) met.0 met.1)

plain_passes : (rows : List Row) (pending : Option (Text × List Text)) (word : Text) (some : Bool) →
    StepPasses rows pending word some [] (plain_word rules (waits some) word (held rows pending))
plain_passes rows pending word true e = fills refl
plain_passes rows pending word false e = let none : kind.UnknownArgument ∷ [] ≡ [] = e in cc

-- a word with one hyphen
short_passes : (rows : List Row) (pending : Option (Text × List Text)) (word : Text) (some : Bool) (flags : Text) (k : ℕ) (o : Option ℕ)
    → (let met = bundle_step rules o flags 0 plain (held rows pending) (bundle_met rules k) in
    StepPasses rows pending word some (bundle_step_fault rules false o flags 0 (held rows pending) (flags_fault rules false k))
    (after_flag rules (waits some) word met.0 met.1))
short_passes rows pending word some flags k None e = plain_passes rows pending word some e
short_passes rows pending word some flags k (Some x) e =
    let rest = drop (length (encode_utf8 x)) flags in
    let met = bundle_step rules (Some x) flags 0 plain (held rows pending) (bundle_met rules k) in
    let m = after_flag rules (waits some) word met.0 met.1 in
    absurd (no_short (arg_by_short rules x) (found_short x) rest (held rows pending) (flags_fault rules false k rest 0) (step_fault top 1 m.0 m.1) e)

flags_pass : (rows : List Row) (pending : Option (Text × List Text)) (word : Text) (some : Bool) (flags : Text) (n : ℕ)
    → (let met = bundle_met rules n flags 0 plain (held rows pending) in
    StepPasses rows pending word some (flags_fault rules false n flags 0 (held rows pending)) (after_flag rules (waits some) word met.0 met.1))
unfolding flags_fault bundle_met
flags_pass rows pending word some flags zero e = plain_passes rows pending word some e
flags_pass rows pending word some flags (suc k) e = short_passes rows pending word some flags k (slice_get (chars flags) 0) e

-- a word with two hyphens, by the option that it names
abbrev LongPasses : List Row → Option (Text × List Text) → Text → Bool → Option Rule → Option Text → Type 0
LongPasses rows pending word some f value =
    let met = long_met rules f value (held rows pending) in
    StepPasses rows pending word some (long_fault rules false f value (held rows pending)) (after_flag rules (waits some) word met.0 met.1)

steps_pass : (rows : List Row) (pending : Option (Text × List Text)) (word : Text) (some : Bool) (value : Option Text)
    → ((value ≡ None) × (word ≡ codes "--steps")) ⊎ ((v : Text) × (value ≡ Some v) × (word ≡ codes "--steps=" ++ v))
    → LongPasses rows pending word some (Some given) value
steps_pass rows pending word some None (inl h) e = opens h.1 (or_else_first (settle_fault rules false (held rows pending)) [] e)
steps_pass rows pending word some None (inr h) e = cc
steps_pass rows pending word some (Some v) (inl h) e = cc
steps_pass rows pending word some (Some v) (inr (w, same, h)) e =
    let q : v ≡ w = cc in
    joins (h ∙ ap (λ t. codes "--steps=" ++ t) (sym q)) (or_else_first (react_fault rules false given (v ∷ []) (held rows pending)) [] e)

print_passes : (r : Rule) → Prints r → (rows : List Row) (pending : Option (Text × List Text)) (word : Text) (some : Bool) (value : Option Text) →
    LongPasses rows pending word some (Some r) value
print_passes r prints_help rows pending word some None e =
    absurd (prints help prints_help (held rows pending) (or_else_first (react_fault rules false help [] (held rows pending)) [] e))
print_passes r prints_version rows pending word some None e =
    absurd (prints version prints_version (held rows pending) (or_else_first (react_fault rules false version [] (held rows pending)) [] e))
print_passes r prints_help rows pending word some (Some v) e = let none : kind.TooManyValues ∷ [] ≡ [] = e in cc
print_passes r prints_version rows pending word some (Some v) e = let none : kind.TooManyValues ∷ [] ≡ [] = e in cc

unknown_passes : (rows : List Row) (pending : Option (Text × List Text)) (word : Text) (some : Bool) (value : Option Text) →
    LongPasses rows pending word some None value
unknown_passes rows pending word some value e = let none : kind.UnknownArgument ∷ [] ≡ [] = e in cc

long_passes : (rows : List Row) (pending : Option (Text × List Text)) (word name : Text) (value : Option Text) (some : Bool) →
    long_of word ≡ Some (name, value) → LongPasses rows pending word some (arg_by_long rules name) value
long_passes rows pending word name value some is = go (found_long name)
  where
    go : ((bytes_eq (codes "steps") name ≡ true) × (arg_by_long rules name ≡ Some given)) ⊎ PrintsOrNone (arg_by_long rules name)
        → LongPasses rows pending word some (arg_by_long rules name) value
    go (inl h) = subst (λ f. LongPasses rows pending word some f value) (sym h.1)
        (steps_pass rows pending word some value (steps_word_is word name value is h.0))
    go (inr (inl (r, p, h))) = subst (λ f. LongPasses rows pending word some f value) (sym h) (print_passes r p rows pending word some value)
    go (inr (inr h)) = subst (λ f. LongPasses rows pending word some f value) (sym h) (unknown_passes rows pending word some value)

-- any word but `--`
other_passes : (rows : List Row) (pending : Option (Text × List Text)) (word : Text) (some : Bool) (o : Option (Text × Option Text)) → long_of word ≡ o
    → StepPasses rows pending word some (flag_word_fault rules false o word (held rows pending)) (long_or_other rules (waits some) word o (held rows pending))
other_passes rows pending word some (Some (name, value)) is e = long_passes rows pending word name value some is e
other_passes rows pending word some None is e = go (short_of word) e
  where
    go : (s : Option Text) → StepPasses rows pending word some (option_map_or (λ flags. bundle_fault rules false flags (held rows pending)) s [])
        (short_or_plain rules (waits some) word s (held rows pending))
    go None e = plain_passes rows pending word some e
    go (Some flags) e = flags_pass rows pending word some flags (length flags) e

word_passes : (rows : List Row) (pending : Option (Text × List Text)) (word : Text) (some : Bool) (b : Bool) → bytes_eq word (codes "--") ≡ b
    → StepPasses rows pending word some (if b then [] else flag_word_fault rules false (long_of word) word (held rows pending))
    (if b then (held rows pending, trailing 1) else long_or_other rules (waits some) word (long_of word) (held rows pending))
word_passes rows pending word some true is e = closes ((bytes_eq-Decides word (codes "--")).0 is)
word_passes rows pending word some false is e = other_passes rows pending word some (long_of word) refl e

pub passes : (rows : List Row) (pending : Option (Text × List Text)) (word : Text) (some : Bool) →
    turn_fault top [] (at (held rows pending) some false) word ≡ []
    → Passes rows pending word some (walked rules [] (at (held rows pending) some false) word)
unfolding walked
passes rows pending word true e = word_passes rows pending word true (bytes_eq word (codes "--")) refl e
passes rows pending word false e = word_passes rows pending word false (bytes_eq word (codes "--")) refl e
