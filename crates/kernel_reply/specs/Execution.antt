-- What is said of a cell (Jupyter messaging page: "Execute", "Code inputs", "Execution results", "Execution errors").
use Rattle.std.specs.Prelude.{ℕ, ℤ, Bool, List, [], ◌∷◌, codes, Option, Some, None, Result, Ok, Err, string_bytes, if◌then◌else◌}
use Rattle.std.specs.Fmt.{signed_decimal}
use Rattle.serde_json.specs.Data.{Data, object, Members, no_members, put}
use Rattle.kernel_ask.specs.declared.done.NamedValue.{NamedValue}
use Rattle.kernel_ask.specs.declared.done.ExpFault.{ExpFault}
use Rattle.kernel_message.specs.Json.{record_of, list, text, count}
use Rattle.kernel_message.specs.Said.{Said}
use Rattle.kernel_reply.specs.Status.{says, ok, no_metadata, plain, idle}
use Rattle.kernel_reply.specs.Problems.{Problem, exp_problem}

-- ---- user expressions

-- the line that tells a problem is its traceback
abbrev pub traceback : List ℕ → Data
traceback line = list (text line ∷ [])

abbrev pub problem_shown : Problem → Data
problem_shown p = record_of (
    (codes "ename", text p.ename)
    ∷ (codes "evalue", text p.evalue)
    ∷ (codes "status", text (codes "error"))
    ∷ (codes "traceback", traceback p.evalue)
    ∷ [])

abbrev pub value_shown : Result ℤ ExpFault → Data
value_shown (Ok z) = record_of ((codes "data", plain (signed_decimal z)) ∷ no_metadata ∷ ok ∷ [])
value_shown (Err f) = problem_shown (exp_problem f)

-- the members and those of the values, in the order of their names' octets; of a name given twice the last value counts
abbrev pub with_values : Members → List NamedValue → Members
with_values ms [] = ms
with_values ms (v ∷ vs) = with_values (put (string_bytes v.name) (value_shown v.value) ms) vs

-- ---- the reply

abbrev pub error_reply_content : ℕ → Problem → Data
error_reply_content n p = record_of (
    (codes "ename", text p.ename)
    ∷ (codes "evalue", text p.evalue)
    ∷ (codes "execution_count", count n)
    ∷ (codes "status", text (codes "error"))
    ∷ (codes "traceback", traceback p.evalue)
    ∷ [])

unfoldable pub error_reply : ℕ → Problem → Said
error_reply n p = says (codes "execute_reply") (error_reply_content n p)

abbrev pub ran_content : ℕ → Data → Data
ran_content n values = record_of (
    (codes "execution_count", count n)
    ∷ ok
    ∷ (codes "user_expressions", values)
    ∷ [])

unfoldable pub ran_reply : ℕ → List NamedValue → Said
ran_reply n values = says (codes "execute_reply") (ran_content n (object (with_values no_members values)))

-- user expressions are told only of a cell that ran
abbrev pub execute_reply : ℕ → Option Problem → List NamedValue → Said
execute_reply n None values = ran_reply n values
execute_reply n (Some p) values = error_reply n p

-- ---- the broadcasts

unfoldable pub execute_input : List ℕ → ℕ → Said
execute_input code n = says (codes "execute_input") (record_of (
    (codes "code", text code)
    ∷ (codes "execution_count", count n)
    ∷ []))

abbrev pub execute_result_content : List ℕ → ℕ → Data
execute_result_content shown n = record_of (
    (codes "data", plain shown)
    ∷ (codes "execution_count", count n)
    ∷ no_metadata
    ∷ [])

unfoldable pub execute_result : List ℕ → ℕ → Said
execute_result shown n = says (codes "execute_result") (execute_result_content shown n)

abbrev pub error_content : Problem → Data
error_content p = record_of (
    (codes "ename", text p.ename)
    ∷ (codes "evalue", text p.evalue)
    ∷ (codes "traceback", traceback p.evalue)
    ∷ [])

unfoldable pub error : Problem → Said
error p = says (codes "error") (error_content p)

-- what came of the cell: an error, or what it shows, if it shows something
abbrev pub ending : ℕ → Option Problem → Option (List ℕ) → List Said
ending n (Some p) shown = error p ∷ idle ∷ []
ending n None (Some shown) = execute_result shown n ∷ idle ∷ []
ending n None None = idle ∷ []

-- a silent cell is not told
abbrev pub execute_broadcasts : Bool → List ℕ → ℕ → Option Problem → Option (List ℕ) → List Said
execute_broadcasts silent code n p shown = if silent then idle ∷ [] else execute_input code n ∷ ending n p shown
