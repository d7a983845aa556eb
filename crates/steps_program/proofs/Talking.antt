-- Commands of lines that are obeyed one after the other.
use Rattle.std.proofs.Common.{◌≡◌, ◌∙◌, inl, inr, ℕ, ◌+◌, List, [], ◌∷◌, ◌++◌, length, true, false, refl, ap, sym, subst}
use Rattle.std.proofs.Common.{arith, append-nil, length-append}
use Rattle.std.specs.Prelude.{◌≢◌, Option, None, Some, Result, Ok, Err, OnOk, OnErr, unwrap_or}
use Rattle.std.specs.Io.BufRead.{take_through, drop_through}
use Rattle.exact_write.specs.Sent.{SentSome}
use Rattle.exact_write.proofs.SendLemmas.{appends_join, sent_first, sent_then}
use Rattle.steps_walk.specs.declared.walk.Walk.{Walk}
use Rattle.steps_program.specs.declared.command.Command.{Command}
use Rattle.steps_program.specs.declared.source.Source.{Source}
use Rattle.steps_program.specs.declared.talk.Reply.TheVariants.{Place}
use Rattle.steps_program.specs.Commands.{Quit, asked, asked_of}
use Rattle.steps_program.specs.Counted.{all_steps}
use Rattle.steps_program.specs.Told.{Answers}
use Rattle.steps_program.specs.Transcript.{Serves, Silent, Further, Talked, Transcribes}
use Rattle.steps_program.specs.Transcript.{Reads, Unread, ReadOn, ReadsTo, ReadsSome, ReadsAll, ReadsLine}
use Rattle.steps_program.proofs.Telling.{Goes}

-- a beginning of octets went out, of which this holds
abbrev pub GoesSome : (List ℕ → Type 0) → Option (List ℕ) → Option (List ℕ) → Type 0
GoesSome P a b = (out : List ℕ) × P out × SentSome a b out

-- of lines
abbrev pub Of : Type 1
Of = List (List ℕ) → Type 0

-- ---- lines that are read

-- so many are read, and this is left
abbrev pub ReadsSoFar : Option (List ℕ) → Option (List ℕ) → ℕ → List (List ℕ) → Type 0
ReadsSoFar input left n lines = ReadsTo input left lines × (length lines ≡ n)

pub none_read : (input : Option (List ℕ)) → ReadsSoFar input input 0 []
none_read None = (tt, refl)
none_read (Some xs) = ((xs, Unread, refl), refl)

same_left : (xs ys : List ℕ) → Some xs ≡ Some ys → xs ≡ ys
same_left xs ys e = ap (λ (o : Option (List ℕ)). unwrap_or o xs) e

module _ (lines : List (List ℕ)) (line : List ℕ) (n : ℕ) where
  longer : length lines ≡ n → length (lines ++ line ∷ []) ≡ n + 1
  longer e = omega (arith, e, length-append lines (line ∷ []))

  pub read_on : (input left new : Option (List ℕ)) → asked_of line ≢ Quit → ReadsLine true left new line → ReadsSoFar input left n lines →
      ReadsSoFar input new (n + 1) (lines ++ line ∷ [])
  read_on None left new other one h = (tt, longer h.1)
  read_on (Some input) None new other one ((rest, reads, e), many) = absurd (cc)
  read_on (Some input) (Some xs) new other (is, left) ((rest, reads, e), many) =
      let same = same_left xs rest e in
      let front = is ∙ ap (take_through 10) same in (
        (
          drop_through 10 rest,
          subst (λ x. Reads input (lines ++ x ∷ []) (drop_through 10 rest)) (sym front)
              (ReadOn lines rest reads (λ quit. other (ap asked_of front ∙ quit))),
          left ∙ ap (λ r. Some (drop_through 10 r)) same,
        ),
        longer many,
      )

  pub all_read : (input left new : Option (List ℕ)) → ReadsLine false left new line → ReadsSoFar input left n lines → ReadsAll input lines
  all_read None left new none h = tt
  all_read (Some input) None new none ((rest, reads, e), many) = absurd (cc)
  all_read (Some input) (Some xs) new none ((rest, reads, e), many) = (rest, reads, inl (sym (same_left xs rest e) ∙ none))

  pub quit_read : (input left new : Option (List ℕ)) → asked_of line ≡ Quit → ReadsLine true left new line → ReadsSoFar input left n lines →
      ReadsAll input lines
  quit_read None left new quit one h = tt
  quit_read (Some input) None new quit one ((rest, reads, e), many) = absurd (cc)
  quit_read (Some input) (Some xs) new quit (is, left) ((rest, reads, e), many) =
      (rest, reads, inr (inl (ap asked_of (sym (is ∙ ap (take_through 10) (same_left xs rest e))) ∙ quit)))

  pub many_read : (input left : Option (List ℕ)) → n ≡ all_steps → ReadsSoFar input left n lines → ReadsAll input lines
  many_read None left e h = tt
  many_read (Some input) left e ((rest, reads, is), many) = (rest, reads, inr (inr (many ∙ e)))

pub some_read : (input left : Option (List ℕ)) (n : ℕ) (lines : List (List ℕ)) → ReadsSoFar input left n lines → ReadsSome input lines
some_read input left n lines h = (left, h.0)

-- ---- answers

module _ {L : Type 0} (sources : List Source) (old : Walk L) where
  module _ (mid new : Walk L) (line : List ℕ) (command : Command) (asks : asked command ≡ asked_of line) (reads next : Of)
      (on : (lines : List (List ℕ)) → reads lines → next (lines ++ line ∷ [])) (a b c : Option (List ℕ)) (talks : Goes (Talked sources old mid reads) a b) where
    pub one_more : Goes (Serves sources command mid new) b c → Goes (Talked sources old new next) a c
    one_more (answer, serves, p) = (
      talks.0 ++ answer,
      (talks.1.0 ++ line ∷ [], on talks.1.0 talks.1.1, Further talks.1.0 mid new talks.0 answer line command talks.1.2 asks serves),
      appends_join a b c talks.0 answer talks.2 p,
    )

    pub one_cut : GoesSome (Serves sources command mid new) b c → GoesSome (Talked sources old new next) a c
    one_cut (answer, serves, p) = (
      talks.0 ++ answer,
      (talks.1.0 ++ line ∷ [], on talks.1.0 talks.1.1, Further talks.1.0 mid new talks.0 answer line command talks.1.2 asks serves),
      sent_then a b c talks.0 answer talks.2 p,
    )

  -- no more is written
  module _ (new : Walk L) (reads next : Of) (on : (lines : List (List ℕ)) → reads lines → next lines) (a b : Option (List ℕ)) where
    pub all_said : Goes (Talked sources old new reads) a b → Goes (Talked sources old new next) a b
    all_said (out, (lines, h, talks), p) = (out, (lines, on lines h, talks), p)

    pub all_out : Goes (Talked sources old new reads) a b → GoesSome (Talked sources old new next) a b
    all_out (out, (lines, h, talks), p) = (out, (lines, on lines h, talks), (out, [], sym (append-nil out), p))

  module _ {E : Type 0} (end : Walk L) (reads : Of) (a b c : Option (List ℕ)) (began : Goes (Answers sources Place old) a b) where
    pub begun : (r : Result (Unit {0}) E) → OnOk r (Goes (Talked sources old end reads) b c) → OnOk r (Goes (Transcribes sources old reads) a c)
    begun (Ok u) (out, talked, p) = (
      began.0 ++ out,
      record { begin = began.0; tells = began.1; end = end; answers = out; talked = talked; is = refl },
      appends_join a b c began.0 out began.2 p,
    )
    begun (Err e) h = tt

    pub begun_some : (r : Result (Unit {0}) E) → OnErr r (GoesSome (Talked sources old end reads) b c) → OnErr r (GoesSome (Transcribes sources old reads) a c)
    begun_some (Ok u) h = tt
    begun_some (Err e) (out, talked, p) = (
      began.0 ++ out,
      record { begin = began.0; tells = began.1; end = end; answers = out; talked = talked; is = refl },
      sent_then a b c began.0 out began.2 p,
    )

  pub not_begun : (reads : Of) → reads [] → (a b : Option (List ℕ)) → GoesSome (Answers sources Place old) a b → GoesSome (Transcribes sources old reads) a b
  not_begun reads none a b (out, tells, p) =
      (out ++ [], record { begin = out; tells = tells; end = old; answers = []; talked = ([], none, Silent); is = refl }, sent_first a b out [] p)
