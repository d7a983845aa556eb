-- What follows of what is in an option or a result.
use Rattle.std.specs.Prelude.{Option, None, Some, IfSome, IfNone, Result, Ok, Err, OnOk, OnErr}

pub if_some : {A : Type 0} (o : Option A) (P Q : A → Type 0) → ((a : A) → P a → Q a) → IfSome o P → IfSome o Q
if_some None P Q f h = h
if_some (Some a) P Q f h = f a h

pub if_none : {A : Type 0} (o : Option A) (P Q : Type 0) → (P → Q) → IfNone o P → IfNone o Q
if_none None P Q f h = f h
if_none (Some a) P Q f h = h

pub on_ok : {A E : Type 0} (r : Result A E) (P Q : Type 0) → (P → Q) → OnOk r P → OnOk r Q
on_ok (Ok a) P Q f h = f h
on_ok (Err e) P Q f h = h

pub on_err : {A E : Type 0} (r : Result A E) (P Q : Type 0) → (P → Q) → OnErr r P → OnErr r Q
on_err (Ok a) P Q f h = h
on_err (Err e) P Q f h = f h

pub failed : {A E : Type 0} (r : Result A E) (P : Type 0) → P → OnErr r P
failed (Ok a) P h = tt
failed (Err e) P h = h
